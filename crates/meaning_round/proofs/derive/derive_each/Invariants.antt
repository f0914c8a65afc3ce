use Rattle.std.proofs.Common.{◌≡◌, ◌++◌, map}
use Rattle.std.specs.Vec.Iter.{into_iter_items}
use Rattle.meaning_invariants.specs.Held.{AreInside}
use Rattle.meaning_round.specs.Viewed.{facts_view}
use Rattle.meaning_round.specs.Hearing.{AreHeard}
use Rattle.meaning_round.specs.Made.{picks}
use Rattle.meaning_round.specs.Standing.{active_of, actives_news, HavePlaces}
use Rattle.meaning_round.proofs.derive.derive_each.Given as goal

-- what was told, with what those tell who are left, is what all tell
abbrev pub invariant-loop-number : goal.invariant-loop-number
invariant-loop-number g l = record {
  told : facts_view l.fact_base.instances.all.items l.news.items ++ actives_news l.fact_base (picks (map (active_of {A = g.row.A.Denot}) l.tasks) (into_iter_items l.number-iterator))
      ≡ actives_news l.fact_base (picks (map (active_of {A = g.row.A.Denot}) l.tasks) l.fn.numbers.items);
  inside : HavePlaces l.fact_base.instances.all.items (picks (map (active_of {A = g.row.A.Denot}) l.tasks) l.fn.numbers.items)
      → AreInside l.fact_base.instances.all.items l.news.items × HavePlaces l.fact_base.instances.all.items (picks (map (active_of {A = g.row.A.Denot}) l.tasks) (into_iter_items l.number-iterator));
  heard : HavePlaces l.fact_base.instances.all.items (map (active_of {A = g.row.A.Denot}) l.tasks) → AreHeard l.fact_base (map (active_of {A = g.row.A.Denot}) l.tasks) l.fn.worklist l.fn.numbers.items
      → AreHeard l.fact_base (map (active_of {A = g.row.A.Denot}) l.tasks) l.worklist (into_iter_items l.number-iterator);
}
