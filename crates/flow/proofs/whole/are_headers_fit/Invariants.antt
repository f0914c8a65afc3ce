use Rattle.std.proofs.Common.{◌≡◌, drop}
use Rattle.flow.specs.Tests.{headers_fit}
use Rattle.flow.specs.Viewed.{owners_of}
use Rattle.flow.proofs.whole.are_headers_fit.Given as goal

abbrev pub invariant-loop-header : goal.invariant-loop-header
invariant-loop-header g l = headers_fit (owners_of {A = g.row.A.Denot} l.scopes) l.headers.items ≡ headers_fit (owners_of {A = g.row.A.Denot} l.scopes) (drop l.header-index l.headers.items)
