use Rattle.std.proofs.Common.{◌≤◌, ◌+◌, drop, length}
use Rattle.meaning_openings.specs.Larger.{turns_from}
use Rattle.meaning_openings.proofs.live_limits.has_more_turns.Given as goal

abbrev pub invariant-loop-instance : goal.invariant-loop-instance
invariant-loop-instance l = l.count + length (turns_from l.instance-index (drop l.instance-index l.instances)) ≤ length (turns_from 0 l.instances)
