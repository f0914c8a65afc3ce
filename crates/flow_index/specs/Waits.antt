-- Waits that are each the only content of the enclosing one.
use Rattle.std.specs.Prelude.{List, [], ◌∷◌, map}
use Rattle.language.specs.Core as core
use Rattle.language.specs.Core.{Stmt, stmt, wait}
use Rattle.flow.specs.declared.statement.Header.{Header}
use Rattle.flow.specs.View.{awaited_view, waits_around}

-- each of the waits as a statement, outermost first
abbrev pub waits_inside : {A : Type 0} → List (Header A) → core.Block → List Stmt
waits_inside [] b = []
waits_inside (h ∷ hs) b = stmt h.at h.node (wait (map awaited_view h.names.items) (waits_around hs b)) ∷ waits_inside hs b
