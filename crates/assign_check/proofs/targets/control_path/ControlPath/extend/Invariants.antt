use Rattle.std.proofs.Common.{◌≡◌, ◌++◌, map, drop}
use Rattle.types.specs.Typed.{owned_name}
use Rattle.assign_check.specs.Ways.{listed}
use Rattle.assign_check.proofs.targets.control_path.ControlPath.extend.Given as goal

abbrev pub invariant-loop-one : goal.invariant-loop-one
invariant-loop-one l = listed l.fn.self ++ map owned_name l.part ≡ listed l.self ++ map owned_name (drop l.one-index l.part)
