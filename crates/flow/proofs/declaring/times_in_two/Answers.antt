use Rattle.std.proofs.Common.{◌∷◌, [], sym, ap, ◌∙◌}
use Rattle.std.specs.List.{flat_map}
use Rattle.flow.specs.View.{outer_view}
use Rattle.language.specs.Parts.{outer_parts}
use Rattle.flow.specs.Names.{part_nodes}
use Rattle.flow.specs.Viewed.{plus, times_as}
use Rattle.flow.proofs.Times.{outer_more}
use Rattle.flow.proofs.declaring.times_in_two.Goals as goal

pub returns : goal.returns
returns g c =
    let A = g.row.A.Denot in
    let n = c.args.node in
    let one = outer_view {A = A} c.args.one.now in
    let other = outer_view {A = A} c.args.other.now in
    c.and.ensures
    ∙ ap (λ z. plus z c.times_in_outer-2.result) c.times_in_outer.ensures
    ∙ ap (plus (times_as n (flat_map part_nodes (outer_parts (one ∷ []))))) c.times_in_outer-2.ensures
    ∙ sym (outer_more n one (other ∷ []))
