use Rattle.std.proofs.Common.{◌+◌, get_or, drop, sym, ap, ◌∙◌}
use Rattle.std.specs.List.{flat_map}
use Rattle.flow.specs.View.{name_view, names_view}
use Rattle.flow.specs.Names.{here_nodes}
use Rattle.flow.specs.Viewed.{plus, times_as}
use Rattle.flow.proofs.Times.{one_more, names_step}
use Rattle.flow.proofs.declaring.times_in_names.Goals as goal

pub loop-name-preserved : goal.loop-name-preserved
loop-name-preserved c =
    let n = c.args.node in
    let xs = c.args.names.now in
    let rest = flat_map here_nodes (names_view (drop (c.loop-name.name-index + 1) xs)) in
    ap (λ z. plus z (times_as n rest)) (c.and-times.ensures ∙ ap (plus c.loop-name.times) c.times_in_name.ensures)
    ∙ sym (one_more n c.loop-name.times (here_nodes (name_view (get_or xs c.loop-name.name-index _))) rest)
    ∙ ap (λ z. plus c.loop-name.times (times_as n z)) (sym (names_step xs c.loop-name.name-index _ c.loop-name-test.true))
    ∙ c.loop-name.invariant
