-- The core of a tree applies the operator of assertions in each of its assertions.
use Rattle.std.proofs.Common.{◌≡◌, ℕ, List, refl, Option}
use Rattle.std.specs.Prelude.{ℤ}
use Rattle.values.specs.Operators as op
use Rattle.language.specs.declared.tree.Shape.{Shape}
use Rattle.language.specs.Core.{Name, Exprs, operator, compute, Outer, stmt, Action, assert, Block}
use Rattle.language.specs.Resolved.{operands_of, plain_right, call_right, right_of, call_action, several, loop_action, core}
use Rattle.language.specs.Table as table
use Rattle.language.specs.Table.{Table, Callee, composite, built_in}
use Rattle.language.specs.Tree as T
use Rattle.language.specs.Tree.{Word, Expression, expression, number, text, truth, variable, element, call, prefixed, chain, Expressions, RightSide, value, list, Over, Tree}
use Rattle.language_laws.proofs.Each.{OfEach, holds_of_all}
use Rattle.headline.specs.Asserted.{Asserted}

-- an assertion applies the operator
abbrev AppliesIt : Outer → Type 0
AppliesIt o = (es : Exprs) × (o.cell.form ≡ compute (operator op.assert es))

abbrev Applied : Action → Type 0
Applied (assert p o) = AppliesIt o
Applied a = Unit {0}

plain_applied : (t : Table) (x : Name) (a : Shape) (e : Expression) → Applied (plain_right t x a e)
plain_applied t x Shape.Scalar e = tt
plain_applied t x (Shape.Array κ) (expression nd (number z)) = tt
plain_applied t x (Shape.Array κ) (expression nd (text b)) = tt
plain_applied t x (Shape.Array κ) (expression nd (truth b)) = tt
plain_applied t x (Shape.Array κ) (expression nd (variable w)) = tt
plain_applied t x (Shape.Array κ) (expression nd (element w i)) = tt
plain_applied t x (Shape.Array κ) (expression nd (call w es)) = tt
plain_applied t x (Shape.Array κ) (expression nd (prefixed p e)) = tt
plain_applied t x (Shape.Array κ) (expression nd (chain os es)) = tt

call_right_applied : (t : Table) (x : Name) (e : Expression) (w : Word) (es : Expressions) (c : Callee) → Applied (call_right t x e w es c)
call_right_applied t x e w es (composite i) = tt
call_right_applied t x e w es (built_in b) = tt

right_applied : (t : Table) (x : Name) (a : Shape) (r : RightSide) → Applied (right_of t x a r)
right_applied t x a (value (expression nd (number z))) = plain_applied t x a (expression nd (number z))
right_applied t x a (value (expression nd (text b))) = plain_applied t x a (expression nd (text b))
right_applied t x a (value (expression nd (truth b))) = plain_applied t x a (expression nd (truth b))
right_applied t x a (value (expression nd (variable w))) = plain_applied t x a (expression nd (variable w))
right_applied t x a (value (expression nd (element w i))) = plain_applied t x a (expression nd (element w i))
right_applied t x a (value (expression nd (call w es))) = call_right_applied t x (expression nd (call w es)) w es (t.callee_of w.number)
right_applied t x a (value (expression nd (prefixed p e))) = plain_applied t x a (expression nd (prefixed p e))
right_applied t x a (value (expression nd (chain os es))) = plain_applied t x a (expression nd (chain os es))
right_applied t x a (list nd es) = tt

call_applied : (t : Table) (p : ℤ) (n : ℕ) (w : Word) (es : Expressions) (c : Callee) → Applied (call_action t p n w es c)
call_applied t p n w es (composite i) = tt
call_applied t p n w es (built_in table.printf) = tt
call_applied t p n w es (built_in table.strcat) = ((operands_of t es).1, refl)
call_applied t p n w es (built_in table.fromint) = ((operands_of t es).1, refl)
call_applied t p n w es (built_in table.toint) = ((operands_of t es).1, refl)
call_applied t p n w es (built_in table.size) = ((operands_of t es).1, refl)
call_applied t p n w es (built_in table.assert) = ((operands_of t es).1, refl)

several_applied : (t : Table) (n : ℕ) (w : Word) (es : Expressions) (xs : List Name) (c : Callee) → Applied (several t n w es xs c)
several_applied t n w es xs (composite i) = tt
several_applied t n w es xs (built_in b) = tt

loop_applied : (t : Table) (v : Word) (k : Option Word) (o : Over) (b : Block) → Applied (loop_action t v k o b)
loop_applied t v k (T.array w) b = tt
loop_applied t v k (T.range low high step) b = tt

applied : (t : Table) → OfEach Applied t
applied t = record {
  declares = λ v. tt;
  rights = right_applied t;
  writes = λ x i e. tt;
  severals = several_applied t;
  calleds = λ n p. call_applied t p n;
  whens = λ e d. tt;
  chooses = λ e d f. tt;
  loops = loop_applied t;
  waits = λ ws b. tt;
}

pub asserted_core : (t : Table) (tree : Tree) → Asserted (core t tree)
asserted_core t tree at n p o h = holds_of_all Applied t (applied t) tree (stmt at n (assert p o)) h
