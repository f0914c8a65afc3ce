use Rattle.std.proofs.Common.{◌≡◌, ◌++◌, ap, map, subst, sym, None, Option}
use Rattle.std.proofs.lemmas.List.{append-nil}
use Rattle.std.proofs.lemmas.Result.{on_ok_weaker}
use Rattle.std.specs.Prelude.{option_map, option_to_list}
use Rattle.language.specs.Core.{Outer}
use Rattle.language.specs.Parts.{outer_parts}
use Rattle.flow.specs.View.{outer_view}
use Rattle.task_code.specs.View.{variable_view}
use Rattle.code_rules.specs.Laying.{data_in}
use Rattle.emit_statements.proofs.steps.add_step_data.Goals as goal

pub returns-in-None : goal.returns-in-None
returns-in-None g c =
    let A = g.row.A.Denot in
    let old = map variable_view c.args.makes.now.items in
    subst (λ (o : Option Outer). old ≡ old ++ data_in None (outer_parts (option_to_list o))) (sym (ap (option_map (outer_view {A = A})) c.in-None.is)) (sym (append-nil old))

pub returns-in-Some : goal.returns-in-Some
returns-in-Some g c =
    let A = g.row.A.Denot in
    on_ok_weaker c.add_outer_data.result
    (λ add.
    subst (λ (o : Option Outer). map variable_view c.add_outer_data.new.makes.items ≡ map variable_view c.args.makes.now.items ++ data_in None (outer_parts (option_to_list o)))
    (sym (ap (option_map (outer_view {A = A})) c.in-Some.is)) add)
    c.add_outer_data.ensures
