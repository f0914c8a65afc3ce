use Rattle.std.proofs.Common.{◌≡◌, drop}
use Rattle.flow.specs.View.{names_view}
use Rattle.flow.specs.Tests.{are_declared}
use Rattle.flow.specs.Viewed.{owners_of}
use Rattle.flow.proofs.naming.are_names_fit.Given as goal

abbrev pub invariant-loop-name : goal.invariant-loop-name
invariant-loop-name g l = are_declared (owners_of {A = g.row.A.Denot} l.scopes) (names_view l.names.items) ≡ are_declared (owners_of {A = g.row.A.Denot} l.scopes) (names_view (drop l.name-index l.names.items))
