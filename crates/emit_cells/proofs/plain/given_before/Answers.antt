use Rattle.std.proofs.Common.{arith, ap, sym, ◌∙◌, ◌-◌}
use Rattle.std.proofs.lemmas.Grind.{common_steps}
use Rattle.flow.specs.View.{part_view}
use Rattle.emit_cells.specs.Before.{gives_node}
use Rattle.emit_cells.proofs.Befores.{before_at}
use Rattle.emit_cells.proofs.plain.given_before.Goals as goal

pub returns : goal.returns
returns g c within =
    let A = g.row.A.Denot in
    c.gives.ensures ∙ ap (λ p. gives_node p c.args.node)
    (sym (before_at (part_view {A = A}) c.args.parts.now.items c.args.at (c.args.at - 1) c.index.result.now (omega arith) (omega arith) (grind (arith, common_steps))))
