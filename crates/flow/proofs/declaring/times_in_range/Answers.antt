use Rattle.std.proofs.Common.{◌≡◌, ◌∷◌, [], option_map, option_to_list, sym, ap, ◌∙◌}
use Rattle.std.specs.List.{flat_map}
use Rattle.flow.specs.View.{outer_view}
use Rattle.language.specs.Parts.{outer_parts}
use Rattle.flow.specs.Names.{part_nodes}
use Rattle.flow.specs.Viewed.{plus, times_as}
use Rattle.flow.proofs.Times.{outer_more}
use Rattle.flow.proofs.declaring.times_in_range.Goals as goal

pub returns : goal.returns
returns g c =
    let A = g.row.A.Denot in
    let n = c.args.node in
    let low = outer_view {A = A} c.args.range.now.low in
    let high = outer_view {A = A} c.args.range.now.high in
    let step = option_to_list (option_map (outer_view {A = A}) c.args.range.now.step) in
    let upper : c.and-upper.result ≡ times_as n (flat_map part_nodes (outer_parts (high ∷ step))) =
    c.and-upper.ensures ∙ ap (λ z. plus z c.times_in_step.result) c.times_in_outer.ensures
    ∙ ap (plus (times_as n (flat_map part_nodes (outer_parts (high ∷ []))))) c.times_in_step.ensures ∙ sym (outer_more n high step) in
    c.and.ensures
    ∙ ap (λ z. plus z c.and-upper.result) c.times_in_outer-2.ensures
    ∙ ap (plus (times_as n (flat_map part_nodes (outer_parts (low ∷ []))))) upper
    ∙ sym (outer_more n low (high ∷ step))
