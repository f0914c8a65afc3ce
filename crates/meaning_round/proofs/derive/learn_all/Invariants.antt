use Rattle.std.proofs.Common.{◌≡◌, [], List}
use Rattle.std.specs.Vec.Iter.{into_iter_items}
use Rattle.meaning_facts.specs.declared.facts.Facts.{Facts}
use Rattle.meaning_invariants.specs.Active.{Active}
use Rattle.meaning_invariants.specs.Held.{AreAdded}
use Rattle.meaning_round.specs.Hearing.{AreHeard}
use Rattle.meaning_round.proofs.derive.learn_all.Given as goal

-- what the facts that are left add is what all of them add
abbrev pub invariant-loop-fact : goal.invariant-loop-fact
invariant-loop-fact l = record {
  facts : (k : Facts) → AreAdded l.fact_base.facts (into_iter_items l.fact-iterator) k → AreAdded l.fn.fact_base.facts l.fn.news.items k;
  heard : (ls : List Active) → AreHeard l.fn.fact_base ls l.fn.worklist [] → AreHeard l.fact_base ls l.worklist [];
  instances : l.fact_base.instances ≡ l.fn.fact_base.instances;
  closed : l.fact_base.closed ≡ l.fn.fact_base.closed;
}
