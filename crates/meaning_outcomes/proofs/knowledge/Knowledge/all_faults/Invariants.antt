use Rattle.std.proofs.Common.{◌≡◌, ◌++◌, map}
use Rattle.std.specs.HashSet.{keys}
use Rattle.meaning_outcomes.specs.Read.{held_mark, mark_of}
use Rattle.meaning_outcomes.proofs.knowledge.Knowledge.all_faults.Given as goal

abbrev pub invariant-loop-fault : goal.invariant-loop-fault
invariant-loop-fault l = map mark_of l.found.items ++ map (held_mark l.self.fact_base.instances.all.items) l.fault-iterator ≡ map (held_mark l.self.fact_base.instances.all.items) (keys l.self.fact_base.facts.faults)
