use Rattle.std.proofs.Common.{◌≡◌, map, take}
use Rattle.std.specs.Arc.{arc_value}
use Rattle.task_code.proofs.draft.share_all.Given as goal

abbrev pub invariant-loop-one : goal.invariant-loop-one
invariant-loop-one g l = map arc_value l.copies.items ≡ map arc_value (take l.one-index l.shared.items)
