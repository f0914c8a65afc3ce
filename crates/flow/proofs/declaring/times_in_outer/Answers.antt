use Rattle.std.proofs.Common.{sym, ap, ◌∙◌}
use Rattle.std.specs.List.{flat_map}
use Rattle.flow.specs.View.{outer_view}
use Rattle.flow.specs.Names.{part_nodes}
use Rattle.flow.specs.Viewed.{plus, times_as}
use Rattle.flow.proofs.Times.{outer_times}
use Rattle.flow.proofs.declaring.times_in_outer.Goals as goal

pub returns : goal.returns
returns g c =
    let A = g.row.A.Denot in
    c.and.ensures
    ∙ ap (λ z. plus z c.times_of_variable.result) c.times_in_parts.ensures
    ∙ ap (plus (times_as c.args.node (flat_map part_nodes (outer_view {A = A} c.args.outer.now).parts))) c.times_of_variable.ensures
    ∙ sym (outer_times c.args.node (outer_view {A = A} c.args.outer.now))
