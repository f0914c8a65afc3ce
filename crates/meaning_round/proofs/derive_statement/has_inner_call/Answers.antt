use Rattle.std.proofs.Common.{◌≡◌, ◌<◌, ◌≤◌, List, [], ◌∷◌, length, get_or, ap, subst, sym, ◌∙◌}
use Rattle.flow.specs.declared.cell.CellPart.{CellPart}
use Rattle.flow.specs.View.{cell_view, outer_view, part_view, parts_view}
use Rattle.language.specs.Parts.{outer_parts, part_calls}
use Rattle.meaning_steps.specs.News.{some_call}
use Rattle.meaning_round.proofs.Calls.{inner_last, part_holds, part_lacks, parts_past}
use Rattle.meaning_round.proofs.derive_statement.has_inner_call.Goals as goal

pub loop-part-init : goal.loop-part-init
loop-part-init g c = inner_last (parts_view {A = g.row.A.Denot} c.args.outer.now.parts.items) (cell_view {A = g.row.A.Denot} c.args.outer.now.cell)

pub loop-part-preserved : goal.loop-part-preserved
loop-part-preserved g c =
    let A = g.row.A.Denot in
    let within : c.loop-part.part-index < length c.args.outer.now.parts.items =
    subst (λ (z : List (CellPart g.row.A.Denot)). c.loop-part.part-index < length z) c.deref-part-items.ensures.value c.loop-part-test.true in
    let item : c.part-item.result ≡ get_or c.args.outer.now.parts.items c.loop-part.part-index c.part-item.result =
    c.part-item.is ∙ ap (λ (z : List (CellPart g.row.A.Denot)). get_or z c.loop-part.part-index c.part-item.result) c.deref-part-items.ensures.value in
    part_lacks A c.args.outer.now.parts.items c.loop-part.part-index c.part-item.result (some_call (part_calls (outer_parts (outer_view {A = A} c.args.outer.now ∷ []))))
    within c.loop-part.invariant (ap (λ (z : CellPart A). some_call (part_calls (part_view {A = A} z ∷ []))) (sym item) ∙ sym c.is_call.ensures ∙ c.if-is_call.false)

pub returns-then-is_call : goal.returns-then-is_call
returns-then-is_call g c =
    let A = g.row.A.Denot in
    let within : c.loop-part.part-index < length c.args.outer.now.parts.items =
    subst (λ (z : List (CellPart g.row.A.Denot)). c.loop-part.part-index < length z) c.deref-part-items.ensures.value c.loop-part-test.true in
    let item : c.part-item.result ≡ get_or c.args.outer.now.parts.items c.loop-part.part-index c.part-item.result =
    c.part-item.is ∙ ap (λ (z : List (CellPart g.row.A.Denot)). get_or z c.loop-part.part-index c.part-item.result) c.deref-part-items.ensures.value in
    part_holds A c.args.outer.now.parts.items c.loop-part.part-index c.part-item.result (some_call (part_calls (outer_parts (outer_view {A = A} c.args.outer.now ∷ []))))
    within c.loop-part.invariant (ap (λ (z : CellPart A). some_call (part_calls (part_view {A = A} z ∷ []))) (sym item) ∙ sym c.is_call.ensures ∙ c.if-is_call.true)

pub returns : goal.returns
returns g c =
    let A = g.row.A.Denot in
    let past = subst (λ (z : List (CellPart A)). length z ≤ c.loop-part.part-index) c.deref-part-items.ensures.value c.loop-part-test.false in
    sym (c.loop-part.invariant ∙ parts_past A c.args.outer.now.parts.items c.loop-part.part-index past)
