use Rattle.std.proofs.Common.{rules, arith, ◌≡◌, ◌<◌, ◌+◌, length, get_or, drop, sym, ap, ◌∙◌}
use Rattle.std.proofs.lemmas.Grind.{common_steps}
use Rattle.std.specs.List.{flat_map}
use Rattle.flow.specs.View.{part_view, parts_view}
use Rattle.flow.specs.Names.{part_nodes}
use Rattle.flow.specs.Viewed.{plus, times_as}
use Rattle.flow.proofs.Times.{one_more, parts_step}
use Rattle.flow.proofs.declaring.times_in_parts.Goals as goal

pub loop-part-preserved : goal.loop-part-preserved
loop-part-preserved g c =
    let n = c.args.node in
    let ps = c.args.parts.now.items in
    let rest = flat_map part_nodes (parts_view (drop (c.loop-part.part-index + 1) ps)) in
    let within : c.loop-part.part-index < length c.args.parts.now.items = grind (arith, common_steps) in
    let item : get_or c.args.parts.now.items c.loop-part.part-index c.part-item.result ≡ c.part-item.result = search rules in
    let here = c.times_in_part.ensures ∙ ap (λ z. times_as n (part_nodes (part_view z))) (sym item) in
    ap (λ z. plus z (times_as n rest)) (c.and-times.ensures ∙ ap (plus c.loop-part.times) here)
    ∙ sym (one_more n c.loop-part.times (part_nodes (part_view (get_or ps c.loop-part.part-index c.part-item.result))) rest)
    ∙ ap (λ z. plus c.loop-part.times (times_as n z)) (sym (parts_step ps c.loop-part.part-index c.part-item.result within))
    ∙ c.loop-part.invariant
