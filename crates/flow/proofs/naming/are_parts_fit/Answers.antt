use Rattle.std.proofs.Common.{rules, arith, ◌≡◌, ◌<◌, ◌+◌, length, get_or, drop, sym, ap, ◌∙◌}
use Rattle.std.proofs.lemmas.Grind.{common_steps}
use Rattle.flow.specs.declared.cell.CellPart.{CellPart}
use Rattle.flow.specs.View.{part_view, parts_view}
use Rattle.flow.specs.Tests.{part_fits, parts_fit}
use Rattle.flow.specs.Viewed.{owners_of}
use Rattle.flow.proofs.Fits.{and_true, and_false, parts_step}
use Rattle.flow.proofs.naming.are_parts_fit.Goals as goal

pub returns-then-not-is_part_fit : goal.returns-then-not-is_part_fit
returns-then-not-is_part_fit g c =
    let os = owners_of {A = g.row.A.Denot} c.args.scopes.now in
    let fs = c.args.functions in
    let i = c.loop-part.part-index in
    let within : c.loop-part.part-index < length c.args.parts.now.items = grind (arith, common_steps) in
    let item : get_or c.args.parts.now.items c.loop-part.part-index c.part-item.result ≡ c.part-item.result = search rules in
    let here = ap (λ (z : CellPart g.row.A.Denot). part_fits os fs (part_view z)) item ∙ sym c.is_part_fit.ensures ∙ c.if-not-is_part_fit.true in
    and_false (parts_fit os fs (parts_view (drop (i + 1) c.args.parts.now.items))) here
    ∙ sym (c.loop-part.invariant ∙ parts_step os fs c.args.parts.now.items i c.part-item.result within)

pub loop-part-preserved : goal.loop-part-preserved
loop-part-preserved g c =
    let os = owners_of {A = g.row.A.Denot} c.args.scopes.now in
    let fs = c.args.functions in
    let i = c.loop-part.part-index in
    let within : c.loop-part.part-index < length c.args.parts.now.items = grind (arith, common_steps) in
    let item : get_or c.args.parts.now.items c.loop-part.part-index c.part-item.result ≡ c.part-item.result = search rules in
    let here = ap (λ (z : CellPart g.row.A.Denot). part_fits os fs (part_view z)) item ∙ sym c.is_part_fit.ensures ∙ c.if-not-is_part_fit.false in
    c.loop-part.invariant ∙ parts_step os fs c.args.parts.now.items i c.part-item.result within
    ∙ and_true (parts_fit os fs (parts_view (drop (i + 1) c.args.parts.now.items))) here
