-- Conditions of emission on the names and expressions of a core: indexes of parameters fit 64 bits, and indexes of
-- needs and numbers of functions 32.
use Rattle.std.specs.Prelude.{ℕ, ◌+◌, ◌<◌, ◌^◌, List, [], ◌∷◌, Option, Some, None, length}
use Rattle.language.specs.Core.{Owned, local, input, output, Name, Expr, Exprs, literal, name, whole, operator, none, also, Form, compute, read, Part, inner, calls, Outer, Awaited, scalar, array, Stmt, stmt, Action, declare, call_alone, assign, fill, insert, print, assert, when, choose, range, each, wait, Block, no_stmts, stmts, Function, Core}
use Rattle.code_rules.specs.CodeNames.{wanted}

-- each member of a list has a property
abbrev pub Each : {X : Type 0} → (X → Type 0) → List X → Type 0
Each P [] = Unit {0}
Each P (x ∷ xs) = P x × Each P xs

-- in a block of a function with k inputs
module _ (k : ℕ) where
  -- the index of an output, after the inputs
  abbrev pub OwnedRoom : Owned → Type 0
  OwnedRoom (local n) = Unit {0}
  OwnedRoom (input i) = Unit {0}
  OwnedRoom (output j) = k + j < 2 ^ 64

  abbrev pub NameRoom : Name → Type 0
  NameRoom x = OwnedRoom x.what

  abbrev mutual
    pub ExprRoom : Expr → Type 0
    ExprRoom (literal v) = Unit {0}
    ExprRoom (name x) = OwnedRoom x.what
    ExprRoom (whole a) = OwnedRoom a.what
    ExprRoom (operator o es) = ExprsRoom es

    pub ExprsRoom : Exprs → Type 0
    ExprsRoom none = Unit {0}
    ExprsRoom (also e es) = ExprRoom e × ExprsRoom es

  -- the names of an expression are few enough
  abbrev pub FormRoom : Form → Type 0
  FormRoom (compute e) = ExprRoom e × (length (wanted k e) < 2 ^ 30)
  FormRoom (read a i) = OwnedRoom a.what

  abbrev pub PartRoom : Part → Type 0
  PartRoom (inner c) = FormRoom c.form
  PartRoom (calls c) = (c.function + 1 < 2 ^ 32) × (Each NameRoom c.inputs × Each NameRoom c.outputs)

  abbrev pub OuterRoom : Outer → Type 0
  OuterRoom o = Each PartRoom o.parts × FormRoom o.cell.form

  abbrev pub StepRoom : Option Outer → Type 0
  StepRoom None = Unit {0}
  StepRoom (Some o) = OuterRoom o

  abbrev pub AwaitedRoom : Awaited → Type 0
  AwaitedRoom (scalar x) = OwnedRoom x.what
  AwaitedRoom (array x) = OwnedRoom x.what

  abbrev mutual
    pub StmtRoom : Stmt → Type 0
    StmtRoom (stmt at n a) = ActionRoom a

    pub ActionRoom : Action → Type 0
    ActionRoom (declare v) = Unit {0}
    ActionRoom (call_alone p ps c) = Each PartRoom ps × PartRoom (calls c)
    ActionRoom (assign x o) = OwnedRoom x.what × OuterRoom o
    ActionRoom (fill a o) = OwnedRoom a.what × OuterRoom o
    ActionRoom (insert a i o) = OwnedRoom a.what × (OuterRoom i × OuterRoom o)
    ActionRoom (print p o) = OuterRoom o
    ActionRoom (assert p o) = OuterRoom o
    ActionRoom (when c b) = OuterRoom c × BlockRoom b
    ActionRoom (choose c b d) = OuterRoom c × (BlockRoom b × BlockRoom d)
    ActionRoom (range lo hi st v t b) = OuterRoom lo × (OuterRoom hi × (StepRoom st × BlockRoom b))
    ActionRoom (each a v t b) = OwnedRoom a.what × BlockRoom b
    ActionRoom (wait ns b) = Each AwaitedRoom ns × BlockRoom b

    pub BlockRoom : Block → Type 0
    BlockRoom no_stmts = Unit {0}
    BlockRoom (stmts s b) = StmtRoom s × BlockRoom b

abbrev pub FunctionRoom : Function → Type 0
FunctionRoom f = BlockRoom f.inputs f.body

abbrev pub CoreRoom : Core → Type 0
CoreRoom c = BlockRoom 0 c.body × Each FunctionRoom c.functions
