use Rattle.std.proofs.Common.{rules, ◌≡◌, ◌<◌, [], List, length, pos, Some, slice_get, sym, ap, ◌∙◌, subst, refl}
use Rattle.std.specs.Prelude.{option_map}
use Rattle.std.proofs.lemmas.Option.{slice_get-map}
use Rattle.values.specs.declared.key.Key.{Key}
use Rattle.flow.specs.declared.script.Function.{Function}
use Rattle.flow.specs.View.{block_view, call_view, function_view, names_view}
use Rattle.language.specs.Core as core
use Rattle.language.specs.Core.{Core}
use Rattle.language.specs.Places.{max_path_steps}
use Rattle.meaning_facts.specs.declared.instances.InstanceBindings.{InstanceBindings}
use Rattle.paths.specs.declared.steps.Step.{Step}
use Rattle.meaning_facts.specs.Paths.{path_of}
use Rattle.meaning_facts.specs.Store.{spots}
use Rattle.meaning_cells.proofs.Ending.{slice_there}
use Rattle.meaning_invariants.specs.Active.{HasBlock}
use Rattle.meaning_round.specs.Made.{tasks_of}
use Rattle.meaning_openings.proofs.Entering.{call_step, one_function, short_path}
use Rattle.meaning_openings.proofs.called.open_call.Goals as goal

pub returns-clause-so : goal.returns-clause-so
returns-clause-so g c =
    let A = g.row.A.Denot in
    let k = c.args.call.now.function in
    let old = c.args.state.now in
    let new = c.enter.new.state in
    let i = c.args.instance in
    let found : slice_get c.args.state.now.flow.now.functions.items c.args.call.now.function ≡ Some c.in-Some.function.now =
    subst (λ (z : List (Function g.row.A.Denot)). slice_get z c.args.call.now.function ≡ Some c.in-Some.function.now) c.deref.ensures.value
    (slice_there c.deref.result.now c.args.call.now.function c.in-Some.function.now c.in-Some.ensures.lookup.3.0 c.in-Some.ensures.lookup.1) in
    let fv : core.Function = function_view {A = A} c.in-Some.function.now in
    let x : Step = record { offset = c.args.call.now.at; key = Key.Number (pos 0) } in
    let given : InstanceBindings = record { inputs = c.in_ok-places.field-0; outputs = c.in_ok-places-2.field-0; variables = c.new.result } in
    let short : length (path_of c.args.state.now.fact_base.instances.all.items c.args.instance) < max_path_steps =
    short_path (length (path_of c.args.state.now.fact_base.instances.all.items c.args.instance)) (sym c.if-is_deep.false ∙ c.is_deep.ensures) in
    let ins : c.in_ok-places.field-0.items ≡ spots c.args.state.now.fact_base.instances.all.items c.args.instance (names_view c.args.call.now.inputs.items) = search rules in
    let outs : c.in_ok-places-2.field-0.items ≡ spots c.args.state.now.fact_base.instances.all.items c.args.instance (names_view c.args.call.now.outputs.items) = search rules in
    let none : c.new.result.items ≡ [] = search rules in
    λ s n e w good st m j. (
    let there : slice_get s.functions k ≡ Some fv = ap (λ (z : Core). slice_get z.functions k) e ∙ slice_get-map (function_view {A = A}) old.flow.now.functions.items k ∙ ap (option_map (function_view {A = A})) found in
    let step = call_step {A = A} s n old new i (call_view {A = A} c.args.call.now) (block_view {A = A} c.in-Some.function.now.body) fv x given w good st m j there refl short refl refl ins outs none c.in_ok-enter.ensures.entered in
    (step.0, λ f q h. subst (λ (z : core.Function). HasBlock new.fact_base (tasks_of {A = A} new) i c.args.call.now.at (Key.Number (pos 0)) z.body) (one_function s k f fv q there) step.1)
    )
