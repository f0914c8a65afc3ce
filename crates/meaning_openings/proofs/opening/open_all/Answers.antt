use Rattle.std.proofs.Common.{arith, ◌≡◌, ◌≤◌, List, length, ap, subst, sym, ◌∙◌, None, Some, slice_get}
use Rattle.std.specs.Prelude.{option_map}
use Rattle.std.proofs.lemmas.Grind.{common_steps}
use Rattle.flow.specs.declared.script.Flow.{Flow}
use Rattle.flow.specs.View.{core_of}
use Rattle.meaning_round.specs.Made.{tasks_of}
use Rattle.meaning_round.specs.Standing.{active_of}
use Rattle.meaning_round.specs.declared.state.LiveTask.{LiveTask}
use Rattle.meaning_invariants.specs.Active.{Active}
use Rattle.std.proofs.lemmas.Option.{slice_get-map, slice_get_past}
use Rattle.meaning_cells.proofs.Ending.{slice_there}
use Rattle.meaning_openings.proofs.Entering.{more_joins}
use Rattle.meaning_openings.proofs.Larger.{answer_passes}
use Rattle.meaning_openings.proofs.Passing.{pass_all, pass_first, pass_next}
use Rattle.meaning_openings.proofs.Taking.{got_in}
use Rattle.meaning_openings.proofs.opening.open_all.Goals as goal

pub loop-i-init : goal.loop-i-init
loop-i-init g c =
    let A = g.row.A.Denot in
    let old = c.args.state.now in
    let mid = c.open_waiting.new.state in
    let below : c.min-passed.result ≤ c.args.state.now.passed = grind (arith, common_steps) in
    let inside : c.min-passed.result ≤ length (tasks_of {A = g.row.A.Denot} c.args.state.now) = grind (arith, common_steps) in
    record {
      so = λ s n e w offsets good passed live. pass_first {A = A} s n old mid c.min-passed.result old.passed below inside good passed (c.in_ok-open_waiting.ensures.so s n w offsets good live) c.in_ok-open_waiting.ensures.more;
      more = c.in_ok-open_waiting.ensures.more;
      flow = c.open_waiting.ensures.flow;
    }

pub loop-i-preserved : goal.loop-i-preserved
loop-i-preserved g c =
    let A = g.row.A.Denot in
    let old = c.args.state.now in
    let mid = c.loop-i.state in
    let called = c.open_calls.new.state in
    let new = c.open_header.new.state in
    let a = active_of {A = A} c.again-task.result in
    let item : slice_get c.loop-i.state.tasks.items c.loop-i.i ≡ Some c.in-Some.task.now =
    subst (λ (z : List (LiveTask g.row.A.Denot)). slice_get z c.loop-i.i ≡ Some c.in-Some.task.now) c.deref.ensures.value
    (slice_there c.deref.result.now c.loop-i.i c.in-Some.task.now c.in-Some.ensures.lookup.3.0 c.in-Some.ensures.lookup.1) in
    let found = slice_get-map (active_of {A = A}) mid.tasks.items c.loop-i.i ∙ ap (option_map (active_of {A = A})) item ∙ ap (λ (z : Active). Some z) (sym c.again-task.ensures) in
    record {
      so = λ s n e w offsets good passed live. pass_next {A = A} s n old mid called new a c.loop-i.i (c.loop-i.invariant.so s n e w offsets good passed live) found
          (λ now there. c.in_ok-open_calls.ensures.so s n (e ∙ ap (λ (z : Flow A). core_of z) (sym c.loop-i.invariant.flow)) w now there) c.open_calls.ensures.waiting
          (λ now there. c.in_ok-open_header.ensures.so s n w offsets now there) c.in_ok-open_calls.ensures.more c.in_ok-open_header.ensures.more;
      more = more_joins {A = A} old mid new c.loop-i.invariant.more (more_joins {A = A} mid called new c.in_ok-open_calls.ensures.more c.in_ok-open_header.ensures.more);
      flow = c.open_header.ensures.flow ∙ c.open_calls.ensures.flow ∙ c.loop-i.invariant.flow;
    }

pub returns-in_default-clause-so : goal.returns-in_default-clause-so
returns-in_default-clause-so g c =
    let A = g.row.A.Denot in
    let old = c.args.state.now in
    let mid = c.loop-i.state in
    let past : slice_get c.loop-i.state.tasks.items c.loop-i.i ≡ None =
    subst (λ (z : List (LiveTask g.row.A.Denot)). slice_get z c.loop-i.i ≡ None) c.deref.ensures.value (slice_get_past c.deref.result.now c.loop-i.i c.in_default.ensures.lookup.3) in
    let none = slice_get-map (active_of {A = A}) mid.tasks.items c.loop-i.i ∙ ap (option_map (active_of {A = A})) past in
    λ s n e w offsets good passed live. (
    let p = pass_all {A = A} s n old mid c.loop-i.i (c.loop-i.invariant.so s n e w offsets good passed live) none in
    (record { so = p.step.so; goes = p.step.goes }, p.so, p.waiting.live, p.waiting.unready)
    )

pub returns-in_err-open_waiting-clause-large : goal.returns-in_err-open_waiting-clause-large
returns-in_err-open_waiting-clause-large g c = answer_passes c.in_err-open_waiting.field-0.0 c.from_residual.result c.from_residual.ensures.1
    (λ e s n same w offsets good passed live. c.in_err-open_waiting.ensures.large e s n w offsets good live)

pub returns-in_err-check-clause-large : goal.returns-in_err-check-clause-large
returns-in_err-check-clause-large g c = answer_passes c.in_err-check.field-0.0 c.from_residual-in_err-check.result c.from_residual-in_err-check.ensures.1
    (λ e s n same w offsets good passed live. c.in_err-check.ensures e s n (c.loop-i.invariant.so s n same w offsets good passed live).step.so)

pub returns-in_err-open_calls-clause-large : goal.returns-in_err-open_calls-clause-large
returns-in_err-open_calls-clause-large g c =
    let A = g.row.A.Denot in
    let mid = c.loop-i.state in
    let a = active_of {A = A} c.again-task.result in
    let item : slice_get c.loop-i.state.tasks.items c.loop-i.i ≡ Some c.in-Some.task.now =
    subst (λ (z : List (LiveTask g.row.A.Denot)). slice_get z c.loop-i.i ≡ Some c.in-Some.task.now) c.deref.ensures.value
    (slice_there c.deref.result.now c.loop-i.i c.in-Some.task.now c.in-Some.ensures.lookup.3.0 c.in-Some.ensures.lookup.1) in
    let found = slice_get-map (active_of {A = A}) mid.tasks.items c.loop-i.i ∙ ap (option_map (active_of {A = A})) item ∙ ap (λ (z : Active). Some z) (sym c.again-task.ensures) in
    answer_passes c.in_err-open_calls.field-0.0 c.from_residual-in_err-open_calls.result c.from_residual-in_err-open_calls.ensures.1
    (λ e s n same w offsets good passed live. c.in_err-open_calls.ensures.large e s n (same ∙ ap (λ (z : Flow A). core_of z) (sym c.loop-i.invariant.flow)) w
    (c.loop-i.invariant.so s n same w offsets good passed live).step.so (got_in c.loop-i.i (tasks_of {A = A} mid) a found))

pub returns-in_err-open_header-clause-large : goal.returns-in_err-open_header-clause-large
returns-in_err-open_header-clause-large g c =
    let A = g.row.A.Denot in
    let mid = c.loop-i.state in
    let a = active_of {A = A} c.again-task.result in
    let item : slice_get c.loop-i.state.tasks.items c.loop-i.i ≡ Some c.in-Some.task.now =
    subst (λ (z : List (LiveTask g.row.A.Denot)). slice_get z c.loop-i.i ≡ Some c.in-Some.task.now) c.deref.ensures.value
    (slice_there c.deref.result.now c.loop-i.i c.in-Some.task.now c.in-Some.ensures.lookup.3.0 c.in-Some.ensures.lookup.1) in
    let found = slice_get-map (active_of {A = A}) mid.tasks.items c.loop-i.i ∙ ap (option_map (active_of {A = A})) item ∙ ap (λ (z : Active). Some z) (sym c.again-task.ensures) in
    answer_passes c.in_err-open_header.field-0.0 c.from_residual-in_err-open_header.result c.from_residual-in_err-open_header.ensures.1
    (λ e s n same w offsets good passed live. (
    let there = got_in c.loop-i.i (tasks_of {A = A} mid) a found in
    let called = c.in_ok-open_calls.ensures.so s n (same ∙ ap (λ (z : Flow A). core_of z) (sym c.loop-i.invariant.flow)) w
    (c.loop-i.invariant.so s n same w offsets good passed live).step.so there in
    c.in_err-open_header.ensures.large e s n w offsets called.0.so (called.0.goes.listed a there)
    ))
