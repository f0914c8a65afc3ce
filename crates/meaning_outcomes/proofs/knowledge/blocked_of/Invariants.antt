use Rattle.std.proofs.Common.{◌≡◌, map, take}
use Rattle.meaning_round.specs.Standing.{active_of}
use Rattle.meaning_outcomes.specs.Known.{stuck_among}
use Rattle.meaning_outcomes.proofs.knowledge.blocked_of.Given as goal

abbrev pub invariant-loop-task : goal.invariant-loop-task
invariant-loop-task g l = l.stuck.items ≡ stuck_among l.fact_base (map (active_of {A = g.row.A.Denot}) (take l.task-index l.tasks))
