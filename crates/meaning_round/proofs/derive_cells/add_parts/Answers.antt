use Rattle.std.proofs.Common.{◌≡◌, ◌<◌, ◌≤◌, ◌++◌, ◌∷◌, [], List, length, get_or, ap, subst, ◌∙◌}
use Rattle.std.proofs.lemmas.List.{take_all}
use Rattle.flow.specs.declared.cell.CellPart.{CellPart}
use Rattle.flow.specs.View.{part_view, parts_view}
use Rattle.language.specs.Parts.{part_cells}
use Rattle.meaning_round.specs.Viewed.{facts_view}
use Rattle.meaning_round.specs.Told.{cells_news}
use Rattle.meaning_round.proofs.Steps.{parts_step}
use Rattle.meaning_round.proofs.derive_cells.add_parts.Goals as goal

pub loop-part-preserved : goal.loop-part-preserved
loop-part-preserved g c =
    let A = g.row.A.Denot in
    let l = c.args.fact_base.now in
    let t = c.args.site in
    let ns = c.args.fact_base.now.instances.all.items in
    let within : c.loop-part.part-index < length c.args.parts.now.items =
    subst (λ (z : List (CellPart g.row.A.Denot)). c.loop-part.part-index < length z) c.deref-part-items.ensures.value c.loop-part-test.true in
    let item : c.part-item.result ≡ get_or c.args.parts.now.items c.loop-part.part-index c.part-item.result =
    c.part-item.is ∙ ap (λ (z : List (CellPart g.row.A.Denot)). get_or z c.loop-part.part-index c.part-item.result) c.deref-part-items.ensures.value in
    record {
      told = parts_step {A = A} l t c.args.parts.now.items c.loop-part.part-index c.part-item.result
          (facts_view ns c.args.news.now.items) (facts_view ns c.loop-part.news.items) (facts_view ns c.add_part.new.news.items)
          within c.loop-part.invariant.told
          (c.in_ok-add_part.ensures.told ∙ ap (λ (z : CellPart A). facts_view ns c.loop-part.news.items ++ cells_news l t (part_cells (part_view {A = A} z ∷ []))) item);
      inside = λ h a. c.in_ok-add_part.ensures.inside h (c.loop-part.invariant.inside h a);
    }

pub returns-clause-told : goal.returns-clause-told
returns-clause-told g c =
    let A = g.row.A.Denot in
    let past = subst (λ (z : List (CellPart A)). length z ≤ c.loop-part.part-index) c.deref-part-items.ensures.value c.loop-part-test.false in
    c.loop-part.invariant.told
    ∙ ap (λ (z : List (CellPart A)). facts_view c.args.fact_base.now.instances.all.items c.args.news.now.items ++ cells_news c.args.fact_base.now c.args.site (part_cells (parts_view {A = A} z)))
    (take_all c.loop-part.part-index c.args.parts.now.items past)
