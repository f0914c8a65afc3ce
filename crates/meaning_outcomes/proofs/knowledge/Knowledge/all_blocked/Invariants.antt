use Rattle.std.proofs.Common.{◌≡◌, map, take}
use Rattle.meaning_outcomes.specs.Read.{point_of, stuck_point}
use Rattle.meaning_outcomes.proofs.knowledge.Knowledge.all_blocked.Given as goal

abbrev pub invariant-loop-stuck : goal.invariant-loop-stuck
invariant-loop-stuck l = map point_of l.found.items ≡ map (stuck_point l.self.fact_base.instances.all.items) (take l.stuck-index l.self.stuck.items)
