use Rattle.std.proofs.Common.{◌≡◌, ◌++◌, take}
use Rattle.flow.specs.View.{name_view}
use Rattle.meaning_invariants.specs.Held.{StayInside}
use Rattle.meaning_round.specs.Viewed.{facts_view}
use Rattle.meaning_round.specs.Told.{elements_news}
use Rattle.meaning_round.proofs.derive_statement.add_elements.Given as goal

abbrev pub invariant-loop-element : goal.invariant-loop-element
invariant-loop-element l = record {
  told : facts_view l.fact_base.instances.all.items l.news.items
      ≡ facts_view l.fact_base.instances.all.items l.fn.news.items ++ elements_news l.fact_base l.site (name_view l.array) (take l.element-index l.elements);
  inside : StayInside l.fact_base.instances.all.items l.site.instance l.fn.news.items l.news.items;
}
