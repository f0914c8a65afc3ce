use Rattle.std.proofs.Common.{ap, ◌∙◌, nat_lt}
use Rattle.types.specs.Typed.{owned_name}
use Rattle.assign_check.specs.Ways.{listed}
use Rattle.assign_check.proofs.counting.Among.{among_times}
use Rattle.assign_check.proofs.targets.control_path.ControlPath.holds.Goals as goal

pub returns : goal.returns
returns c = ap (nat_lt 0) c.times.ensures ∙ among_times (owned_name c.args.of) (listed c.args.self.now)
