use Rattle.std.proofs.Common.{rules, arith, ◌≡◌, ◌∙◌, ◌+◌, List, subst, sym, None, ℕ}
use Rattle.board_runs.specs.Report.{Tells}
use Rattle.workers.specs.Reports.{AreCounted}
use Rattle.workers.specs.Threads.{RunsTo}
use Rattle.workers.proofs.SharedFacts.{is_run, newly_told}
use Rattle.workers.proofs.run.finish_run.Goals as goal

pub returns-clause-report : goal.returns-clause-report
returns-clause-report g c =
    let C = g.J.RunParams.code in
    let e = g.J.RunParams.engines in
    let k = g.J.RunParams.workers in
    let b = c.close-board.result.0 in
    let s = c.args.totals in
    let stopped : c.close-board.result.1 ≡ None = search rules in
    let none_lost : s.lost ≡ 0 = search rules in
    let offers = c.pool_count-count.ensures.offers in
    let p = c.pool_count-count.result in
    let count : s.enabled.amount ≡ p.offered + p.full = omega (arith, s.enabled_total, none_lost, offers.0, offers.1) in
    let run : RunsTo C e k b.history (p.offered + p.full) b.state = subst (λ (n : ℕ). RunsTo C e k b.history n b.state) count c.close-board.ensures.run in
    let tells : Tells b c.in_ok-run-2.run'.report = search rules in
    let own : c.in_ok-run-2.run'.report.tallies ≡ s.tallies = search rules in
    record {
      board = b;
      code = c.close-board.ensures.code.0;
      limit_is = c.close-board.ensures.code.1;
      within = c.close-board.ensures.within;
      steps = is_run C e k b.history (p.offered + p.full) b.state run;
      run = run;
      newly = newly_told C e k b.history (p.offered + p.full) b.state run;
      no_back = c.close-board.ensures.no_back stopped;
      tells = tells;
      tallies = tells.tallies.each;
      own = subst (λ (ts : List ℕ). AreCounted e k (e + k) ts) (sym own) c.requires.counted;
      drawn = offers.0 ∙ c.pool_count-count.ensures.drawn;
      few_left = c.pool_count-count.ensures.few;
    }
