use Rattle.std.proofs.Common.{◌≡◌, Some, drop}
use Rattle.std.specs.List.{list_any}
use Rattle.flow.specs.View.{name_view}
use Rattle.code_rules.specs.Laying.{local_node, same_node}
use Rattle.emit_cells.proofs.plain.has_node.Given as goal

abbrev pub invariant-loop-name : goal.invariant-loop-name
invariant-loop-name g l =
    list_any (λ x. same_node (Some l.node) (local_node (name_view x))) l.names.items ≡ list_any (λ x. same_node (Some l.node) (local_node (name_view x))) (drop l.name-index l.names.items)
