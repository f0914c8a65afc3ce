use Rattle.std.proofs.Common.{◌≡◌, map, take}
use Rattle.board_effects.specs.Ended.{needs_of, spare_list}
use Rattle.board_effects.proofs.spare_lists.spare_lists.Given as goal

abbrev pub invariant-loop-opening : goal.invariant-loop-opening
invariant-loop-opening l = l.spare.items ≡ map spare_list (needs_of l.program (take l.opening-index l.list))
