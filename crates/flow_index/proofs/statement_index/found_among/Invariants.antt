use Rattle.std.proofs.Common.{ℕ, take}
use Rattle.std.specs.Prelude.{nat_eq}
use Rattle.std.specs.HashMap.{get}
use Rattle.flow_index.specs.Sites.{sites_view, IsNoted}
use Rattle.flow_index.proofs.statement_index.found_among.Given as goal

abbrev pub invariant-loop-i : goal.invariant-loop-i
invariant-loop-i g l = (at : ℕ) → IsNoted at (take l.i (sites_view {A = g.row.A.Denot} l.sites)) (get nat_eq l.found at)
