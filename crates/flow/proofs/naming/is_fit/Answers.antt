use Rattle.std.proofs.Common.{map, sym, ap, ◌∙◌}
use Rattle.flow.specs.View.{action_view, awaited_view}
use Rattle.flow.specs.Names.{awaited_name}
use Rattle.flow.specs.Tests.{are_declared, is_fit}
use Rattle.flow.specs.Viewed.{owners_of}
use Rattle.flow.proofs.Fits.{and_one, awaited_names}
use Rattle.flow.proofs.Times.{view_wait}
use Rattle.flow.proofs.naming.is_fit.Goals as goal

pub returns-in-Wait : goal.returns-in-Wait
returns-in-Wait g c =
    let A = g.row.A.Denot in
    let os = owners_of {A = A} c.args.scopes.now in
    c.are_names_fit.ensures
    ∙ ap (are_declared os) (sym (awaited_names c.in-Wait.names.items))
    ∙ sym (and_one (are_declared os (map awaited_name (map awaited_view c.in-Wait.names.items))))
    ∙ ap (is_fit os c.args.functions) (sym (ap (action_view {A = A}) c.in-Wait.is ∙ view_wait c.in-Wait.names c.in-Wait.inner c.in-Wait.content))
