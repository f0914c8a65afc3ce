use Rattle.std.proofs.Common.{rules, ◌≡◌, false, ap, sym, ◌∙◌}
use Rattle.flow.specs.View.{core_of}
use Rattle.meaning_openings.proofs.Larger.{answer_passes, memory_is_small}
use Rattle.meaning_outcomes.proofs.Settling.{turn_after, turn_between, IsClosing}
use Rattle.meaning_outcomes.proofs.fixpoint.compute_fixpoint.Goals as goal

pub returns-then-not-branch-clause-so : goal.returns-then-not-branch-clause-so
returns-then-not-branch-clause-so g c =
    let A = g.row.A.Denot in
    let closing : IsClosing {A = g.row.A.Denot} c.open_all.new.state c.close_some.new.state = record {
      tasks = c.close_some.ensures.tasks;
      waiting = c.close_some.ensures.waiting;
      arrays = c.close_some.ensures.arrays;
      passed = c.close_some.ensures.passed;
      facts = c.close_some.ensures.facts;
      instances = c.close_some.ensures.instances;
      heard = c.in_ok-close_some.ensures.heard;
    } in
    let none : c.in_ok-close_some.field-0 ≡ false = search rules in
    let ends = c.in_ok-close_some.ensures.ended none in
    turn_after {A = A} (core_of {A = A} c.args.state.now.flow.now) (core_of {A = A} c.loop.state.flow.now) (core_of {A = A} c.open_all.new.state.flow.now)
    c.args.state.now c.loop.state c.open_all.new.state c.close_some.new.state (ap (core_of {A = A}) c.loop.invariant.flow) (ap (core_of {A = A}) c.open_all.ensures.flow)
    c.loop.invariant.so c.in_ok-open_all.ensures.so c.in_ok-open_all.ensures.more c.in_ok-open_all.ensures.passed closing c.in_ok-close_some.ensures.so ends.0 ends.1

pub loop-preserved : goal.loop-preserved
loop-preserved g c =
    let A = g.row.A.Denot in
    let closing : IsClosing {A = g.row.A.Denot} c.open_all.new.state c.close_some.new.state = record {
      tasks = c.close_some.ensures.tasks;
      waiting = c.close_some.ensures.waiting;
      arrays = c.close_some.ensures.arrays;
      passed = c.close_some.ensures.passed;
      facts = c.close_some.ensures.facts;
      instances = c.close_some.ensures.instances;
      heard = c.in_ok-close_some.ensures.heard;
    } in
    record {
      so = turn_between {A = A} (core_of {A = A} c.args.state.now.flow.now) (core_of {A = A} c.loop.state.flow.now) (core_of {A = A} c.open_all.new.state.flow.now)
          c.args.state.now c.loop.state c.open_all.new.state c.close_some.new.state (ap (core_of {A = A}) c.loop.invariant.flow) (ap (core_of {A = A}) c.open_all.ensures.flow)
          c.loop.invariant.so c.in_ok-open_all.ensures.so c.in_ok-open_all.ensures.more c.in_ok-open_all.ensures.passed closing c.in_ok-close_some.ensures.so;
      flow = c.close_some.ensures.flow ∙ c.open_all.ensures.flow ∙ c.loop.invariant.flow;
    }

pub returns-in_err-open_all-clause-large : goal.returns-in_err-open_all-clause-large
returns-in_err-open_all-clause-large g c =
    let A = g.row.A.Denot in
    answer_passes c.in_err-open_all.field-0.0 c.from_residual.result c.from_residual.ensures.1
    (λ e s n same w single offsets between. (
    let b = c.loop.invariant.so s n same w single offsets between in
    c.in_err-open_all.ensures.large e s n (same ∙ sym (ap (core_of {A = A}) c.loop.invariant.flow)) w offsets b.stands.good b.stands.passed_so b.stands.waiting_live
    ))

pub returns-in_err-close_some-clause-large : goal.returns-in_err-close_some-clause-large
returns-in_err-close_some-clause-large g c = memory_is_small _ c.from_residual-in_err-close_some.result c.from_residual-in_err-close_some.ensures.1
