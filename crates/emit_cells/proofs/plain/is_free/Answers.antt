use Rattle.std.proofs.Common.{ap, sym}
use Rattle.std.specs.Prelude.{not}
use Rattle.flow.specs.View.{name_view, parts_view}
use Rattle.emit_cells.specs.Before.{before}
use Rattle.emit_cells.proofs.Befores.{gives_far}
use Rattle.emit_cells.proofs.plain.is_free.Goals as goal

pub returns-in-None : goal.returns-in-None
returns-in-None g c within =
    let A = g.row.A.Denot in
    ap not (sym (gives_far (before (parts_view {A = A} c.args.parts.now.items) c.args.at) (name_view c.args.name) (sym c.in-None.ensures)))
