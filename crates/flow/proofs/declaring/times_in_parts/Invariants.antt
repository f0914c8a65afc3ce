use Rattle.std.proofs.Common.{◌≡◌, drop}
use Rattle.std.specs.List.{flat_map}
use Rattle.flow.specs.View.{parts_view}
use Rattle.flow.specs.Names.{part_nodes}
use Rattle.flow.specs.Viewed.{plus, times_as}
use Rattle.flow.proofs.declaring.times_in_parts.Given as goal

abbrev pub invariant-loop-part : goal.invariant-loop-part
invariant-loop-part g l = plus l.times (times_as l.node (flat_map part_nodes (parts_view (drop l.part-index l.parts.items)))) ≡ times_as l.node (flat_map part_nodes (parts_view l.parts.items))
