use Rattle.std.proofs.Common.{◌≡◌, drop}
use Rattle.flow.specs.View.{parts_view}
use Rattle.flow.specs.Tests.{parts_fit}
use Rattle.flow.specs.Viewed.{owners_of}
use Rattle.flow.proofs.naming.are_parts_fit.Given as goal

abbrev pub invariant-loop-part : goal.invariant-loop-part
invariant-loop-part g l =
    parts_fit (owners_of {A = g.row.A.Denot} l.scopes) l.functions (parts_view l.parts.items)
    ≡ parts_fit (owners_of {A = g.row.A.Denot} l.scopes) l.functions (parts_view (drop l.part-index l.parts.items))
