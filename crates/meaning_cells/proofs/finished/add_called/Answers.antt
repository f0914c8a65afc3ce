use Rattle.std.proofs.Common.{rules, ◌≡◌, ◌++◌, List, subst, Some, None, pos, slice_get}
use Rattle.std.proofs.lemmas.Option.{slice_get_past}
use Rattle.values.specs.declared.key.Key.{Key}
use Rattle.flow.specs.declared.script.Function.{Function}
use Rattle.flow.specs.View.{block_view, call_view, names_view, owned_view}
use Rattle.meaning_cells.specs.Ending.{goals_of, output_goals}
use Rattle.meaning_facts.specs.Paths.{child_at}
use Rattle.meaning_cells.proofs.Ending.{called_none, called_lost, called_found, slice_there}
use Rattle.meaning_cells.proofs.finished.add_called.Goals as goal

pub returns-in_default : goal.returns-in_default
returns-in_default g c =
    let none : slice_get c.args.flow.now.functions.items c.args.call.now.function ≡ None = subst (λ (z : List (Function g.row.A.Denot)). slice_get z c.args.call.now.function ≡ None) c.deref.ensures.value (slice_get_past c.deref.result.now c.args.call.now.function c.in_default.ensures.lookup.3) in
    called_none {A = g.row.A.Denot} c.args.fact_base.now c.args.instance (owned_view c.args.what) (call_view {A = g.row.A.Denot} c.args.call.now) c.args.flow.now.functions.items (goals_of {A = g.row.A.Denot} c.args.tasks.now.items) c.is_deep.result none c.is_deep.ensures

pub returns-in_default-child : goal.returns-in_default-child
returns-in_default-child g c =
    let found : slice_get c.args.flow.now.functions.items c.args.call.now.function ≡ Some c.in-Some.function.now = subst (λ (z : List (Function g.row.A.Denot)). slice_get z c.args.call.now.function ≡ Some c.in-Some.function.now) c.deref.ensures.value (slice_there c.deref.result.now c.args.call.now.function c.in-Some.function.now c.in-Some.ensures.lookup.3.0 c.in-Some.ensures.lookup.1) in
    let lost : child_at c.args.fact_base.now.instances c.args.instance c.args.call.now.at (Key.Number (pos 0)) ≡ None = search rules in
    called_lost {A = g.row.A.Denot} c.args.fact_base.now c.args.instance (owned_view c.args.what) (call_view {A = g.row.A.Denot} c.args.call.now) c.args.flow.now.functions.items c.in-Some.function.now (goals_of {A = g.row.A.Denot} c.args.tasks.now.items) found lost

pub returns : goal.returns
returns g c =
    let found : slice_get c.args.flow.now.functions.items c.args.call.now.function ≡ Some c.in-Some.function.now = subst (λ (z : List (Function g.row.A.Denot)). slice_get z c.args.call.now.function ≡ Some c.in-Some.function.now) c.deref.ensures.value (slice_there c.deref.result.now c.args.call.now.function c.in-Some.function.now c.in-Some.ensures.lookup.3.0 c.in-Some.ensures.lookup.1) in
    let child : child_at c.args.fact_base.now.instances c.args.instance c.args.call.now.at (Key.Number (pos 0)) ≡ Some c.in-Some-child.child = search rules in
    let told : goals_of {A = g.row.A.Denot} c.add_body.new.tasks.items ≡ goals_of {A = g.row.A.Denot} c.args.tasks.now.items ++ output_goals c.in-Some-child.child (owned_view c.args.what) (block_view {A = g.row.A.Denot} c.in-Some.function.now.body) 0 (names_view c.args.call.now.outputs.items) = search rules in
    called_found {A = g.row.A.Denot} c.args.fact_base.now c.args.instance (owned_view c.args.what) (call_view {A = g.row.A.Denot} c.args.call.now) c.args.flow.now.functions.items c.in-Some.function.now c.in-Some-child.child
    (goals_of {A = g.row.A.Denot} c.args.tasks.now.items) (goals_of {A = g.row.A.Denot} c.add_body.new.tasks.items) found child told
