-- Cores that differ only in expressions of literals, each of which may stand as its value.
use Rattle.std.specs.Prelude.{◌≡◌, ℕ, ℤ, List, [], ◌∷◌, map, Option, Some, None, Ok}
use Rattle.values.specs.declared.value.Scalar.{Scalar}
use Rattle.values.specs.declared.value.Value.TheVariants.{One}
use Rattle.values.specs.Operators.{Operation, evaluated}
use Rattle.language.specs.Core.{Name, Expr, literal, name, whole, operator, Exprs, none, also, Form, compute, read, Cell, Call, Part, inner, calls, Outer, Awaited, Stmt, stmt, Action, declare, call_alone, assign, fill, insert, print, assert, when, choose, range, each, wait, Block, no_stmts, stmts, Function, Core}

-- an expression of literals that evaluates to this scalar, without a fault
mutual
  pub data ComesTo : Expr → Scalar → Type 0 where
    a_literal : {v : Scalar} → ComesTo (literal v) v
    an_operator : {o : Operation} {es : Exprs} {vs : List Scalar} {v : Scalar} → AllComeTo es vs → evaluated o (map (λ u. Ok (One u)) vs) ≡ Ok (One v) → ComesTo (operator o es) v

  pub data AllComeTo : Exprs → List Scalar → Type 0 where
    no_operand : AllComeTo none []
    operand : {e : Expr} {es : Exprs} {v : Scalar} {vs : List Scalar} → ComesTo e v → AllComeTo es vs → AllComeTo (also e es) (v ∷ vs)

mutual
  pub data SameExpr : Expr → Expr → Type 0 where
    same_literal : {v : Scalar} → SameExpr (literal v) (literal v)
    same_name : {x : Name} → SameExpr (name x) (name x)
    same_whole : {a : Name} → SameExpr (whole a) (whole a)
    same_operator : {o : Operation} {es ds : Exprs} → SameExprs es ds → SameExpr (operator o es) (operator o ds)
    same_constant : {e d : Expr} {v : Scalar} → ComesTo e v → ComesTo d v → SameExpr e d

  pub data SameExprs : Exprs → Exprs → Type 0 where
    same_none : SameExprs none none
    same_also : {e d : Expr} {es ds : Exprs} → SameExpr e d → SameExprs es ds → SameExprs (also e es) (also d ds)

-- two lists are related element by element
pub data Pairwise {X : Type 0} (R : X → X → Type 0) : List X → List X → Type 0 where
  no_pair : Pairwise R [] []
  a_pair : {x y : X} {xs ys : List X} → R x y → Pairwise R xs ys → Pairwise R (x ∷ xs) (y ∷ ys)

pub data SameForm : Form → Form → Type 0 where
  same_compute : {e d : Expr} → SameExpr e d → SameForm (compute e) (compute d)
  same_read : {a : Name} {i : ℕ} → SameForm (read a i) (read a i)

pub record SameCell (c d : Cell) : Type 0 where
  pub node : c.node ≡ d.node
  pub form : SameForm c.form d.form

pub data SamePart : Part → Part → Type 0 where
  same_inner : {c d : Cell} → SameCell c d → SamePart (inner c) (inner d)
  same_call : {c : Call} → SamePart (calls c) (calls c)

pub record SameOuter (o p : Outer) : Type 0 where
  pub parts : Pairwise SamePart o.parts p.parts
  pub cell : SameCell o.cell p.cell

pub data SameStep : Option Outer → Option Outer → Type 0 where
  no_step : SameStep None None
  a_step : {o p : Outer} → SameOuter o p → SameStep (Some o) (Some p)

mutual
  pub data SameStmt : Stmt → Stmt → Type 0 where
    same_stmt : {at n : ℕ} {a b : Action} → SameAction a b → SameStmt (stmt at n a) (stmt at n b)

  pub data SameAction : Action → Action → Type 0 where
    same_declare : {v : ℕ} → SameAction (declare v) (declare v)
    same_call_alone : {p : ℤ} {ps qs : List Part} {c : Call} → Pairwise SamePart ps qs → SameAction (call_alone p ps c) (call_alone p qs c)
    same_assign : {x : Name} {o p : Outer} → SameOuter o p → SameAction (assign x o) (assign x p)
    same_fill : {a : Name} {o p : Outer} → SameOuter o p → SameAction (fill a o) (fill a p)
    same_insert : {a : Name} {i j o p : Outer} → SameOuter i j → SameOuter o p → SameAction (insert a i o) (insert a j p)
    same_print : {z : ℤ} {o p : Outer} → SameOuter o p → SameAction (print z o) (print z p)
    same_assert : {z : ℤ} {o p : Outer} → SameOuter o p → SameAction (assert z o) (assert z p)
    same_when : {o p : Outer} {b d : Block} → SameOuter o p → SameBlock b d → SameAction (when o b) (when p d)
    same_choose : {o p : Outer} {b d c e : Block} → SameOuter o p → SameBlock b d → SameBlock c e → SameAction (choose o b c) (choose p d e)
    same_range : {lo hi lo' hi' : Outer} {st st' : Option Outer} {x : ℕ} {t : Option ℕ} {b d : Block} → SameOuter lo lo' → SameOuter hi hi' → SameStep st st' → SameBlock b d
        → SameAction (range lo hi st x t b) (range lo' hi' st' x t d)
    same_each : {a : Name} {x : ℕ} {t : Option ℕ} {b d : Block} → SameBlock b d → SameAction (each a x t b) (each a x t d)
    same_wait : {ns : List Awaited} {b d : Block} → SameBlock b d → SameAction (wait ns b) (wait ns d)

  pub data SameBlock : Block → Block → Type 0 where
    same_end : SameBlock no_stmts no_stmts
    same_next : {s t : Stmt} {b d : Block} → SameStmt s t → SameBlock b d → SameBlock (stmts s b) (stmts t d)

pub record SameFunction (f g : Function) : Type 0 where
  pub inputs : f.inputs ≡ g.inputs
  pub outputs : f.outputs ≡ g.outputs
  pub body : SameBlock f.body g.body

pub record SameCore (c d : Core) : Type 0 where
  pub body : SameBlock c.body d.body
  pub functions : Pairwise SameFunction c.functions d.functions
