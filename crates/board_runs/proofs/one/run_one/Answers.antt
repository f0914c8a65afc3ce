use Rattle.std.proofs.Common.{◌≡◌, ◌∙◌, sym, ap, subst, ℕ, IfOk, List}
use Rattle.std.specs.Prelude.{Result, Ok, Err}
use Rattle.task_code.specs.Code.{Code}
use Rattle.board.specs.Board.{Seen}
use Rattle.board_runs.specs.declared.report.Report.{Report}
use Rattle.board_runs.specs.Report.{Reports, Tells}
use Rattle.board_runs.specs.Turns.{RanTo, starts}
use Rattle.board_runs.proofs.Idle.{AllIdle}
use Rattle.board_runs.proofs.Turned.{run_is_over, run_keeps, starts_idle}
use Rattle.board_runs.proofs.one.run_one.Goals as goal

pub last_report-requires : goal.last_report-requires
last_report-requires c =
    let is : c.in_ok-board.board ≡ starts c.args.program.now c.args.limit = c.in_ok-board.ensures ∙ ap (λ (C : Code). starts C c.args.limit) c.in_ok-share.ensures in
    let idle : AllIdle c.in_ok-board.board.state.items = subst (λ (b : Seen). AllIdle b.state.items) (sym is) (starts_idle c.args.program.now c.args.limit) in
    run_is_over c.args.choices.now c.in_ok-board.board c.run_choices.new.board idle c.in_ok-run_choices.ensures

pub returns-clause-reports : goal.returns-clause-reports
returns-clause-reports c =
    let is : c.in_ok-board.board ≡ starts c.args.program.now c.args.limit = c.in_ok-board.ensures ∙ ap (λ (C : Code). starts C c.args.limit) c.in_ok-share.ensures in
    let kept = run_keeps c.args.choices.now c.in_ok-board.board c.run_choices.new.board c.in_ok-run_choices.ensures in
    subst (λ (C : Code). IfOk c.last_report.result (λ r. Reports C c.args.limit r)) (kept.0 ∙ ap (λ (b : Seen). b.code) is)
    (subst (λ (n : ℕ). IfOk c.last_report.result (λ r. Reports c.run_choices.new.board.code n r)) (kept.1 ∙ ap (λ (b : Seen). b.limit) is) c.last_report.ensures.reports)

-- what a report tells of a board that was run to
told : {E : Type 0} (r : Result Report E) (choices : List ℕ) (from to : Seen) → RanTo choices from to → IfOk r (Tells to) → IfOk r (λ report. (board : Seen) × RanTo choices from board × Tells board report)
told (Ok report) choices from to ran tells = (to, ran, tells)
told (Err e) choices from to ran tells = tt

pub returns-clause-turns : goal.returns-clause-turns
returns-clause-turns c =
    let is : c.in_ok-board.board ≡ starts c.args.program.now c.args.limit = c.in_ok-board.ensures ∙ ap (λ (C : Code). starts C c.args.limit) c.in_ok-share.ensures in
    let ran : RanTo c.args.choices.now (starts c.args.program.now c.args.limit) c.run_choices.new.board = subst (λ (b : Seen). RanTo c.args.choices.now b c.run_choices.new.board) is c.in_ok-run_choices.ensures in
    told c.last_report.result c.args.choices.now (starts c.args.program.now c.args.limit) c.run_choices.new.board ran c.last_report.ensures.tells
