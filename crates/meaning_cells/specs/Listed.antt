-- The cells and calls that a program lists for a statement, as those of the script.
use Rattle.std.specs.Prelude.{List, map}
use Rattle.std.specs.Borrow.{Bor}
use Rattle.language.specs.Core as core
use Rattle.flow.specs.declared.cell.Call.{Call}
use Rattle.flow.specs.declared.cell.OuterCell.{OuterCell}
use Rattle.flow.specs.View.{call_view, outer_view}

abbrev pub outers_listed : {A : Type 0} → List (Bor (OuterCell A)) → List core.Outer
outers_listed os = map (λ o. outer_view o.now) os

abbrev pub calls_listed : {A : Type 0} → List (Bor (Call A)) → List core.Call
calls_listed cs = map (λ c. call_view c.now) cs
