-- The blocks inside the statements that a core is made of.
use Rattle.std.specs.Prelude.{◌≡◌, ℕ, ◌+◌, ℤ, List, [], ◌∷◌, ◌++◌, Option, refl}
use Rattle.std.proofs.Common.{arith}
use Rattle.language.specs.declared.tree.Shape.{Shape}
use Rattle.language.specs.Tree as T
use Rattle.language.specs.Tree.{Word, expression, number, text, truth, variable, element, call, prefixed, chain, Expressions, RightSide, value, list, Over}
use Rattle.language.specs.Core.{Name, Stmt, Block}
use Rattle.language.specs.Parts.{stmts_among, block_list, blocks_below, blocks_inside}
use Rattle.language.specs.Resolved.{call_right, right_of, call_action, several, loop_action}
use Rattle.language.specs.Table as table
use Rattle.language.specs.Table.{Table, Callee, composite, built_in}
use Rattle.language.proofs.Tested.{flat}
use Rattle.language.proofs.TreeNumbers.{times, times-flat}

pub among-append : (xs ys : List Block) (n : ℕ) (f : Stmt → List ℕ) → times n (flat f (stmts_among (xs ++ ys))) ≡ times n (flat f (stmts_among xs)) + times n (flat f (stmts_among ys))
among-append [] ys n f = omega arith
among-append (b ∷ xs) ys n f =
    let e = among-append xs ys n f in
    let a = times-flat f n (block_list b) (stmts_among (xs ++ ys)) in
    let c = times-flat f n (block_list b) (stmts_among xs) in
    omega arith

-- statements that hold no block
pub right_no_block : (t : Table) (x : Name) (sh : Shape) (r : RightSide) → blocks_inside (right_of t x sh r) ≡ []
right_no_block t x sh (value (expression nd (call w es))) = by (t.callee_of w.number)
  where
    by : (c : Callee) → blocks_inside (call_right t x (expression nd (call w es)) w es c) ≡ []
    by (composite i) = refl
    by (built_in b) = refl
right_no_block t x (Shape.Array κ) (value (expression nd (variable w))) = refl
right_no_block t x Shape.Scalar (value (expression nd (variable w))) = refl
right_no_block t x sh (list nd es) = refl
right_no_block t x (Shape.Array κ) (value (expression nd (number z))) = refl
right_no_block t x Shape.Scalar (value (expression nd (number z))) = refl
right_no_block t x (Shape.Array κ) (value (expression nd (text bytes))) = refl
right_no_block t x Shape.Scalar (value (expression nd (text bytes))) = refl
right_no_block t x (Shape.Array κ) (value (expression nd (truth b))) = refl
right_no_block t x Shape.Scalar (value (expression nd (truth b))) = refl
right_no_block t x (Shape.Array κ) (value (expression nd (element w i))) = refl
right_no_block t x Shape.Scalar (value (expression nd (element w i))) = refl
right_no_block t x (Shape.Array κ) (value (expression nd (prefixed p e))) = refl
right_no_block t x Shape.Scalar (value (expression nd (prefixed p e))) = refl
right_no_block t x (Shape.Array κ) (value (expression nd (chain os es))) = refl
right_no_block t x Shape.Scalar (value (expression nd (chain os es))) = refl

pub several_no_block : (t : Table) (m : ℕ) (w : Word) (es : Expressions) (xs : List Name) (c : Callee) → blocks_inside (several t m w es xs c) ≡ []
several_no_block t m w es xs (composite i) = refl
several_no_block t m w es xs (built_in b) = refl

pub call_no_block : (t : Table) (p : ℤ) (m : ℕ) (w : Word) (es : Expressions) (c : Callee) → blocks_inside (call_action t p m w es c) ≡ []
call_no_block t p m w es (composite i) = refl
call_no_block t p m w es (built_in table.printf) = refl
call_no_block t p m w es (built_in table.assert) = refl
call_no_block t p m w es (built_in table.strcat) = refl
call_no_block t p m w es (built_in table.fromint) = refl
call_no_block t p m w es (built_in table.toint) = refl
call_no_block t p m w es (built_in table.size) = refl

pub loop_block : (t : Table) (v : Word) (k : Option Word) (o : Over) (b : Block) → blocks_inside (loop_action t v k o b) ≡ b ∷ blocks_below b
loop_block t v k (T.array w) b = refl
loop_block t v k (T.range low high step) b = refl
