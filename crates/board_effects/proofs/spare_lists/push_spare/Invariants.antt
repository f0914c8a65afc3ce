use Rattle.std.proofs.Common.{◌≡◌, ◌++◌, map, take}
use Rattle.std.specs.List.{flat_map}
use Rattle.board_effects.specs.Ended.{long_need, spare_list}
use Rattle.board_effects.proofs.spare_lists.push_spare.Given as goal

abbrev pub invariant-loop-number : goal.invariant-loop-number
invariant-loop-number l = l.spare.items ≡ l.initial.spare.items ++ map spare_list (flat_map (long_need l.program) (take l.number-index l.number-items))
