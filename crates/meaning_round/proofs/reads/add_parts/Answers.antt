use Rattle.std.proofs.Common.{◌≡◌, ◌<◌, ◌≤◌, ◌++◌, ◌∷◌, [], List, length, get_or, ap, subst, ◌∙◌}
use Rattle.std.proofs.lemmas.List.{take_all}
use Rattle.flow.specs.declared.cell.CellPart.{CellPart}
use Rattle.flow.specs.View.{part_view, parts_view}
use Rattle.language.specs.Parts.{part_cells}
use Rattle.meaning_round.specs.Reads.{cells_reads}
use Rattle.meaning_round.proofs.Reading.{parts_next}
use Rattle.meaning_round.proofs.reads.add_parts.Goals as goal

pub loop-part-preserved : goal.loop-part-preserved
loop-part-preserved g c =
    let A = g.row.A.Denot in
    let l = c.args.fact_base.now in
    let t = c.args.site in
    let within : c.loop-part.part-index < length c.args.parts.now.items =
    subst (λ (z : List (CellPart g.row.A.Denot)). c.loop-part.part-index < length z) c.deref-part-items.ensures.value c.loop-part-test.true in
    let item : c.part-item.result ≡ get_or c.args.parts.now.items c.loop-part.part-index c.part-item.result =
    c.part-item.is ∙ ap (λ (z : List (CellPart g.row.A.Denot)). get_or z c.loop-part.part-index c.part-item.result) c.deref-part-items.ensures.value in
    parts_next {A = A} l t c.args.parts.now.items c.loop-part.part-index c.part-item.result c.args.events.now.items c.loop-part.events.items c.add_part.new.events.items
    within c.loop-part.invariant (c.in_ok-add_part.ensures ∙ ap (λ (z : CellPart A). c.loop-part.events.items ++ cells_reads l t (part_cells (part_view {A = A} z ∷ []))) item)

pub returns : goal.returns
returns g c =
    let A = g.row.A.Denot in
    let past = subst (λ (z : List (CellPart A)). length z ≤ c.loop-part.part-index) c.deref-part-items.ensures.value c.loop-part-test.false in
    c.loop-part.invariant
    ∙ ap (λ (z : List (CellPart A)). c.args.events.now.items ++ cells_reads c.args.fact_base.now c.args.site (part_cells (parts_view {A = A} z))) (take_all c.loop-part.part-index c.args.parts.now.items past)
