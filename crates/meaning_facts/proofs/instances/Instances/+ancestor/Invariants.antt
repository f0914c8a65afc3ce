use Rattle.meaning_facts.proofs.instances.Instances.+ancestor.Given as goal

abbrev pub decreases-ancestor : goal.decreases-ancestor
decreases-ancestor l = l.up
