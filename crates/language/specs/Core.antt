-- The core of a script: its tree with names resolved, and with the cells of each statement listed once, in reading
-- order. States docs/LANGUAGE.md: Cells; Calls.
use Rattle.std.specs.Prelude.{ℕ, List, Option, ℤ}
use Rattle.values.specs.declared.value.Scalar.{Scalar}
use Rattle.values.specs.Operators.{Operation}

-- the binding of a name in the block instance that owns it: a variable or a cell, by its node, or the i-th input or
-- output of the function whose body it is
pub data Owned : Type 0 where
  local : (node : ℕ) → Owned
  input output : (i : ℕ) → Owned

-- a name: the number of path steps between its use and its owner, and its binding there
pub record Name : Type 0 where
  pub up : ℕ
  pub what : Owned

-- the variable or cell of this block instance with that node
abbrev pub here : ℕ → Name
here n = record { up = 0; what = local n }

-- an expression whose inner cells and composite calls are separated and named by their nodes; a whole array occurs
-- where its elements are used
mutual
  pub data Expr : Type 0 where
    literal : Scalar → Expr
    name : Name → Expr
    whole : (array : Name) → Expr
    operator : Operation → Exprs → Expr

  pub data Exprs : Type 0 where
    none : Exprs
    also : Expr → Exprs → Exprs

-- the form of a cell: an expression, or the element of an array at the index that the cell of that node has
pub data Form : Type 0 where
  compute : Expr → Form
  read : (array : Name) → (index : ℕ) → Form

-- a cell: its node and its form (docs/LANGUAGE.md, Cells)
pub record Cell : Type 0 where
  pub node : ℕ
  pub form : Form

-- a call of a composite function: the offset of the called name, the index of the function, and the names bound to its
-- inputs and outputs: an input to an argument's cell or to an array, an output to a variable (docs/LANGUAGE.md, Calls)
pub record Call : Type 0 where
  pub at : ℕ
  pub function : ℕ
  pub inputs : List Name
  pub outputs : List Name

-- a part of an outermost cell or before a call: an inner cell or a call
pub data Part : Type 0 where
  inner : Cell → Part
  calls : Call → Part

-- an outermost cell of a statement, which is nested in no other, with its nested parts
pub record Outer : Type 0 where
  pub parts : List Part
  pub cell : Cell

-- a scalar or an array for which a `wait` waits
pub data Awaited : Type 0 where
  scalar array : Name → Awaited

mutual
  -- a statement: the offset of its first token, its node, and its action
  pub data Stmt : Type 0 where
    stmt : (at node : ℕ) → Action → Stmt

  -- the action of a statement, with its outermost cells; loop variables are named by their nodes
  pub data Action : Type 0 where
    declare : (variable : ℕ) → Action
    call_alone : (priority : ℤ) → List Part → Call → Action
    assign : (target : Name) → (right : Outer) → Action
    fill : (array : Name) → (right : Outer) → Action
    insert : (array : Name) → (index right : Outer) → Action
    print : (priority : ℤ) → (arguments : Outer) → Action
    assert : (priority : ℤ) → (arguments : Outer) → Action
    when : (condition : Outer) → (then_block : Block) → Action
    choose : (condition : Outer) → (then_block else_block : Block) → Action
    range : (low high : Outer) → (step : Option Outer) → (value : ℕ) → (turn : Option ℕ) → (body : Block) → Action
    each : (array : Name) → (value : ℕ) → (key : Option ℕ) → (body : Block) → Action
    wait : List Awaited → (content : Block) → Action

  pub data Block : Type 0 where
    no_stmts : Block
    stmts : Stmt → Block → Block

-- a function: the numbers of its inputs and outputs, and its body
pub record Function : Type 0 where
  pub inputs : ℕ
  pub outputs : ℕ
  pub body : Block

-- a script: its block and its functions
pub record Core : Type 0 where
  pub body : Block
  pub functions : List Function
