use Rattle.std.proofs.Common.{◌≡◌, take, length}
use Rattle.assign_check.specs.Ways.{listed}
use Rattle.assign_check.proofs.targets.control_path.ControlPath.truncate.Given as goal

abbrev pub invariant-loop-self : goal.invariant-loop-self
invariant-loop-self l = take l.from (listed l.fn.self) ≡ take l.from (listed l.self)

abbrev pub decreases-loop-self : goal.decreases-loop-self
decreases-loop-self l = length (listed l.self)
