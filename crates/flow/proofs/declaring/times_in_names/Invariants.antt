use Rattle.std.proofs.Common.{◌≡◌, drop}
use Rattle.std.specs.List.{flat_map}
use Rattle.flow.specs.View.{names_view}
use Rattle.flow.specs.Names.{here_nodes}
use Rattle.flow.specs.Viewed.{plus, times_as}
use Rattle.flow.proofs.declaring.times_in_names.Given as goal

abbrev pub invariant-loop-name : goal.invariant-loop-name
invariant-loop-name l = plus l.times (times_as l.node (flat_map here_nodes (names_view (drop l.name-index l.names)))) ≡ times_as l.node (flat_map here_nodes (names_view l.names))
