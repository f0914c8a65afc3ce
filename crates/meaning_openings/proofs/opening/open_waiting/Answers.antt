use Rattle.std.proofs.Common.{rules, ◌≡◌, ◌∷◌, List, length, map, ap, subst, sym, ◌∙◌}
use Rattle.std.specs.Vec.Iter.{into_iter_items}
use Rattle.std.proofs.lemmas.List.{nil_from_length}
use Rattle.language.specs.Members.{◌∈◌, first, later}
use Rattle.meaning_invariants.specs.Active.{Active}
use Rattle.meaning_round.specs.declared.state.LiveTask.{LiveTask}
use Rattle.meaning_round.specs.Standing.{active_of}
use Rattle.meaning_openings.specs.Opening.{AreWoken}
use Rattle.meaning_openings.proofs.Entering.{more_joins}
use Rattle.meaning_openings.proofs.Larger.{answer_passes}
use Rattle.meaning_openings.proofs.Passing.{woken_next}
use Rattle.meaning_openings.proofs.opening.open_waiting.Goals as goal

pub loop-task-preserved : goal.loop-task-preserved
loop-task-preserved g c =
    let A = g.row.A.Denot in
    let old = c.args.state.now in
    let mid = c.loop-task.state in
    let new = c.open_header.new.state in
    let a = active_of {A = A} c.in-Some.task in
    let rest = into_iter_items c.next.new.self in
    let split : into_iter_items c.loop-task.task-iterator ≡ c.in-Some.task ∷ into_iter_items c.next.new.self = search rules in
    let listed = ap (λ (z : List (LiveTask A)). map (active_of {A = A}) z) split in
    let here = c.loop-task.invariant.left a (subst (λ (z : List Active). a ∈ z) (sym listed) first) in
    record {
      so = λ s n w offsets good live. woken_next {A = A} s n old mid new a (map (active_of {A = A}) rest) live here
          (subst (λ (z : List Active). AreWoken {A = A} s n old mid z) listed (c.loop-task.invariant.so s n w offsets good live))
          (λ now there. c.in_ok-open_header.ensures.so s n w offsets now there);
      left = λ x m. c.loop-task.invariant.left x (subst (λ (z : List Active). x ∈ z) (sym listed) (later m));
      more = more_joins {A = A} old mid new c.loop-task.invariant.more c.in_ok-open_header.ensures.more;
      flow = c.open_header.ensures.flow ∙ c.loop-task.invariant.flow;
      passed = c.open_header.ensures.passed ∙ c.loop-task.invariant.passed;
    }

pub returns-clause-so : goal.returns-clause-so
returns-clause-so g c =
    let A = g.row.A.Denot in
    let few : length (into_iter_items c.loop-task.task-iterator) ≡ 0 = search rules in
    let none = nil_from_length (into_iter_items c.loop-task.task-iterator) few in
    λ s n w offsets good live. subst (λ (z : List (LiveTask A)). AreWoken {A = A} s n c.args.state.now c.loop-task.state (map (active_of {A = A}) z)) none (c.loop-task.invariant.so s n w offsets good live)

pub returns-in_err-check-clause-large : goal.returns-in_err-check-clause-large
returns-in_err-check-clause-large g c = answer_passes c.in_err-check.field-0.0 c.from_residual.result c.from_residual.ensures.1
    (λ e s n w offsets good live. c.in_err-check.ensures e s n (c.loop-task.invariant.so s n w offsets good live).step.so)

pub returns-in_err-open_header-clause-large : goal.returns-in_err-open_header-clause-large
returns-in_err-open_header-clause-large g c =
    let A = g.row.A.Denot in
    let a = active_of {A = A} c.in-Some.task in
    let rest = into_iter_items c.next.new.self in
    let split : into_iter_items c.loop-task.task-iterator ≡ c.in-Some.task ∷ into_iter_items c.next.new.self = search rules in
    let listed = ap (λ (z : List (LiveTask A)). map (active_of {A = A}) z) split in
    let here = c.loop-task.invariant.left a (subst (λ (z : List Active). a ∈ z) (sym listed) first) in
    answer_passes c.in_err-open_header.field-0.0 c.from_residual-in_err-open_header.result c.from_residual-in_err-open_header.ensures.1
    (λ e s n w offsets good live. (
    let step = (c.loop-task.invariant.so s n w offsets good live).step in
    c.in_err-open_header.ensures.large e s n w offsets step.so (step.goes.listed a (live a here))
    ))
