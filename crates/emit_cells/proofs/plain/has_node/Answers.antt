use Rattle.std.proofs.Common.{arith, ◌∙◌, sym, Some}
use Rattle.std.proofs.lemmas.Grind.{common_steps}
use Rattle.flow.specs.View.{name_view}
use Rattle.code_rules.specs.Laying.{local_node, same_node}
use Rattle.emit_cells.proofs.Befores.{any_at, any_none, any_mapped}
use Rattle.emit_cells.proofs.plain.has_node.Goals as goal

pub returns-then-is_node : goal.returns-then-is_node
returns-then-is_node g c =
    sym (any_mapped (λ y. same_node (Some c.args.node) (local_node y)) name_view c.args.names.now.items
    ∙ c.loop-name.invariant
    ∙ any_at (λ x. same_node (Some c.args.node) (local_node (name_view x))) c.args.names.now.items c.deref-name-items.result.now c.loop-name.name-index _ c.deref-name-items.ensures.value c.loop-name-test.true c.if-is_node.ensures)

pub returns : goal.returns
returns g c =
    sym (any_mapped (λ y. same_node (Some c.args.node) (local_node y)) name_view c.args.names.now.items
    ∙ c.loop-name.invariant
    ∙ any_none (λ x. same_node (Some c.args.node) (local_node (name_view x))) c.args.names.now.items c.loop-name.name-index (grind (arith, common_steps)))
