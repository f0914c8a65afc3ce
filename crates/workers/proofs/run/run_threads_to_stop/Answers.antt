use Rattle.std.proofs.Common.{arith, ◌≡◌, ◌∙◌, ap, subst, ℕ, ◌+◌, ◌-◌, IfOk}
use Rattle.std.proofs.lemmas.Result.{IfOk-weaker}
use Rattle.board.specs.Board.{Seen}
use Rattle.task_code.specs.Code.{Code}
use Rattle.board_runs.specs.Report.{Reports}
use Rattle.workers.specs.Reports.{IsReport}
use Rattle.workers.proofs.SharedFacts.{reports}
use Rattle.workers.proofs.run.run_threads_to_stop.Goals as goal

pub returns-clause-report : goal.returns-clause-report
returns-clause-report g c =
    let b : Seen = c.in_ok-board.board in
    let e = c.args.engines in
    let w = c.args.workers in
    let code : b.code ≡ c.args.program.now = ap (λ (x : Seen). x.code) c.in_ok-board.ensures ∙ c.in_ok-share.ensures in
    let limit : b.limit ≡ c.args.limit = ap (λ (x : Seen). x.limit) c.in_ok-board.ensures in
    let others : (e + w) - e ≡ w = omega arith in
    subst (λ (C : Code). IfOk c.run.result (λ r. IsReport C c.args.limit e w r.0.report r.1)) code
    (subst (λ (n : ℕ). IfOk c.run.result (λ r. IsReport b.code n e w r.0.report r.1)) limit
    (subst (λ (n : ℕ). IfOk c.run.result (λ r. IsReport b.code b.limit e n r.0.report r.1)) others c.run.ensures.report))

pub returns-clause-reports : goal.returns-clause-reports
returns-clause-reports g c =
    let code = c.args.program.now in
    let limit = c.args.limit in
    let e = c.args.engines in
    let w = c.args.workers in
    IfOk-weaker c.run.result (λ r. IsReport code limit e w r.0.report r.1) (λ r. Reports code limit r.0.report) (λ r t. reports code limit e w r.0.report r.1 t) (returns-clause-report g c)
