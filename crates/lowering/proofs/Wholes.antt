-- Whole arrays.
use Rattle.std.proofs.Common.{◌≡◌, ℕ, List, [], ap, ap₂}
use Rattle.language.specs.Core as core
use Rattle.language.specs.Resolved.{outer_of}
use Rattle.flow.specs.declared.cell.CellPart.{CellPart}
use Rattle.flow.specs.declared.name.Name.{Name}
use Rattle.flow.specs.declared.expression.Expr.{Whole}
use Rattle.flow.specs.View.{parts_view, expr_view, name_view}
use Rattle.lowering.proofs.Views.{view_whole}

abbrev made : ℕ → List core.Part → core.Form → core.Outer
made n ps f = record { parts = ps; cell = record { node = n; form = f } }

-- a whole array as an outermost cell
pub whole_outer : {A : Type 0} → (n : ℕ) (ps : List (CellPart A)) (x : Name) → ps ≡ []
    → record { parts = parts_view ps; cell = record { node = n; form = core.compute (expr_view {A = A} (Whole x)) } } ≡ outer_of n ([], core.compute (core.whole (name_view x)))
whole_outer {A} n ps x empty = ap₂ (made n) (ap parts_view empty) (ap core.compute (view_whole A x))
