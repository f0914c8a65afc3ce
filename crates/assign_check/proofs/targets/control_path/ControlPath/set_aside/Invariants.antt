use Rattle.std.proofs.Common.{◌≡◌, ◌++◌, drop}
use Rattle.assign_check.proofs.targets.control_path.ControlPath.set_aside.Given as goal

abbrev pub invariant-loop-i : goal.invariant-loop-i
invariant-loop-i l = drop l.from l.self.list.items ≡ l.part.items ++ drop l.i l.self.list.items
