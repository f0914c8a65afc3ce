-- A property of assertions that follows from names and types: the cell of an assertion applies the operator that
-- results in true or a fault.
use Rattle.std.specs.Prelude.{◌≡◌, ℕ, ℤ}
use Rattle.values.specs.Operators.{assert as assertion}
use Rattle.language.specs.Core.{Exprs, operator, compute, Outer, stmt, assert, Core}
use Rattle.language.specs.Members.{◌∈◌}
use Rattle.language.specs.Parts.{script_stmts}

abbrev pub Asserted : Core → Type 0
Asserted s = (at n : ℕ) (p : ℤ) (o : Outer) → stmt at n (assert p o) ∈ script_stmts s → (es : Exprs) × (o.cell.form ≡ compute (operator assertion es))
