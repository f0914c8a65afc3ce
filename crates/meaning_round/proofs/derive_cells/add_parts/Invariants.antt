use Rattle.std.proofs.Common.{◌≡◌, ◌++◌, take}
use Rattle.flow.specs.View.{parts_view}
use Rattle.language.specs.Parts.{part_cells}
use Rattle.meaning_invariants.specs.Held.{StayInside}
use Rattle.meaning_round.specs.Viewed.{facts_view}
use Rattle.meaning_round.specs.Told.{cells_news}
use Rattle.meaning_round.proofs.derive_cells.add_parts.Given as goal

abbrev pub invariant-loop-part : goal.invariant-loop-part
invariant-loop-part g l = record {
  told : facts_view l.fact_base.instances.all.items l.news.items
      ≡ facts_view l.fact_base.instances.all.items l.fn.news.items ++ cells_news l.fact_base l.site (part_cells (parts_view (take l.part-index l.parts.items)));
  inside : StayInside l.fact_base.instances.all.items l.site.instance l.fn.news.items l.news.items;
}
