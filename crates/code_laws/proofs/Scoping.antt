-- Blocks of a core in scopes: where each name that a statement reads or stores comes from, and whether it is an array.
use Rattle.std.specs.Prelude.{◌≡◌, ◌⊎◌, ℕ, Bool, true, false, List, [], ◌∷◌, Some, slice_get}
use Rattle.language.specs.Core.{Name, here, Expr, Exprs, literal, name, whole, operator, none, also, Form, compute, read, Cell, Call, Part, inner, calls, Outer, Awaited, scalar, array, stmt, Action, declare, call_alone, assign, fill, insert, print, assert, when, choose, each, wait, Block, no_stmts, stmts}
use Rattle.language.specs.Members.{◌∈◌}
use Rattle.language.specs.Scopes.{Typ, Visible, Scope, deeper, Signature}
use Rattle.language.proofs.Tested.{roles_of}
use Rattle.language_laws.specs.TypedValues.{own_parts}
use Rattle.language_accepted.proofs.Placed.{IsPlain, Loops}
use Rattle.code_laws.specs.Described.{is_array_shape}

-- a name is that of a visible variable, an array or a scalar
pub record SeesAs (g : Scope) (x : Name) (d : Bool) : Type 0 where
  pub variable : Visible
  pub visible : variable ∈ g
  pub is : x ≡ variable.refers_to
  pub shape : is_array_shape variable.type.shape ≡ d

-- where a scalar's name comes from: a visible variable, a cell that reads an element, or a call among the parts
pub data Comes (g : Scope) (all : List Part) : Name → Type 0 where
  of_scope : {x : Name} → SeesAs g x false → Comes g all x
  of_cell : {n i : ℕ} {a : Name} → inner (record { node = n; form = read a i }) ∈ all → Comes g all (here n)
  of_call : {n : ℕ} {c : Call} → calls c ∈ all → c.outputs ≡ here n ∷ [] → Comes g all (here n)

abbrev mutual
  pub ExprComes : Scope → List Part → Expr → Type 0
  ExprComes g all (literal v) = Unit {0}
  ExprComes g all (name x) = Comes g all x
  ExprComes g all (whole a) = SeesAs g a true
  ExprComes g all (operator o es) = AllCome g all es

  pub AllCome : Scope → List Part → Exprs → Type 0
  AllCome g all none = Unit {0}
  AllCome g all (also e es) = ExprComes g all e × AllCome g all es

abbrev pub FormComes : Scope → List Part → Form → Type 0
FormComes g all (compute e) = ExprComes g all e
FormComes g all (read a i) = SeesAs g a true

-- an array's name for an array, a cell among the parts for a scalar
pub data InputsCome (g : Scope) (all : List Part) : List Name → List Typ → Type 0 where
  no_input_comes : InputsCome g all [] []
  array_comes : {x : Name} {xs : List Name} {τ : Typ} {τs : List Typ} → is_array_shape τ.shape ≡ true → SeesAs g x true → InputsCome g all xs τs → InputsCome g all (x ∷ xs) (τ ∷ τs)
  cell_comes : {c : Cell} {x : Name} {xs : List Name} {τ : Typ} {τs : List Typ} → is_array_shape τ.shape ≡ false → inner c ∈ all → x ≡ here c.node → InputsCome g all xs τs → InputsCome g all (x ∷ xs) (τ ∷ τs)

pub data OutputsCome (g : Scope) : List Name → List Typ → Type 0 where
  no_output_comes : OutputsCome g [] []
  output_comes : {x : Name} {xs : List Name} {τ : Typ} {τs : List Typ} → SeesAs g x (is_array_shape τ.shape) → OutputsCome g xs τs → OutputsCome g (x ∷ xs) (τ ∷ τs)

-- the output of a call in an expression is a scalar of the statement
pub record Hidden (xs : List Name) (τs : List Typ) : Type 0 where
  pub node : ℕ
  pub is : xs ≡ here node ∷ []
  pub type : Typ
  pub typed : τs ≡ type ∷ []
  pub scalar : is_array_shape type.shape ≡ false

pub record CallComes (fs : List Signature) (outputs_come : List Name → List Typ → Type 0) (g : Scope) (all : List Part) (c : Call) : Type 0 where
  pub signature : Signature
  pub there : slice_get fs c.function ≡ Some signature
  pub inputs : InputsCome g all c.inputs signature.inputs
  pub outputs : outputs_come c.outputs signature.outputs

abbrev pub PartComes : List Signature → Scope → List Part → Part → Type 0
PartComes fs g all (inner c) = FormComes g all c.form
PartComes fs g all (calls c) = CallComes fs Hidden g all c

abbrev pub PartsCome : List Signature → Scope → List Part → List Part → Type 0
PartsCome fs g all ps = (p : Part) → p ∈ ps → PartComes fs g all p

-- the parts of a statement but a call that is the statement
abbrev pub before : Action → List Part
before (call_alone p ps c) = ps
before a = own_parts a

abbrev pub AwaitedSeen : Scope → Awaited → Type 0
AwaitedSeen g (scalar x) = SeesAs g x false
AwaitedSeen g (array x) = SeesAs g x true

-- what a statement stores, goes over or waits for, and the cell that it works out itself
abbrev pub OwnComes : List Signature → Scope → Action → Type 0
OwnComes fs g (assign x o) = SeesAs g x false × FormComes g (before (assign x o)) o.cell.form
OwnComes fs g (fill x o) = SeesAs g x true × FormComes g (before (fill x o)) o.cell.form
OwnComes fs g (insert x i o) = SeesAs g x true
OwnComes fs g (print p o) = FormComes g (before (print p o)) o.cell.form
OwnComes fs g (assert p o) = FormComes g (before (assert p o)) o.cell.form
OwnComes fs g (call_alone p ps c) = CallComes fs (OutputsCome g) g ps c
OwnComes fs g (each x v t b) = SeesAs g x true
OwnComes fs g (wait ns b) = (x : Awaited) → x ∈ ns → AwaitedSeen g x
OwnComes fs g a = Unit {0}

pub record StmtComes (fs : List Signature) (g : Scope) (a : Action) : Type 0 where
  pub parts : PartsCome fs g (before a) (before a)
  pub own : OwnComes fs g a

-- a scalar variable of the loop
pub record IsRole (a : Action) (v : Visible) : Type 0 where
  pub node : ℕ
  pub is : v.refers_to ≡ here node
  pub role : node ∈ roles_of a
  pub shape : is_array_shape v.type.shape ≡ false

-- what a loop's body sees: what is seen round it, and the loop's own variables
abbrev pub LoopSees : Scope → Action → Scope → Type 0
LoopSees g a h = (v : Visible) → v ∈ h → (v ∈ deeper g) ⊎ IsRole a v

-- a block in a scope, with the types of what it declares
pub data InScopes (fs : List Signature) (type_of : ℕ → Typ) : Scope → Block → Type 0 where
  scoped_end : {g : Scope} → InScopes fs type_of g no_stmts
  scoped_declaration : {g : Scope} {v at n : ℕ} {w : Visible} {b : Block} → w.refers_to ≡ here v → type_of v ≡ w.type → InScopes fs type_of (w ∷ g) b → InScopes fs type_of g (stmts (stmt at n (declare v)) b)
  scoped_plain : {g : Scope} {at n : ℕ} {a : Action} {b : Block} → IsPlain a → StmtComes fs g a → InScopes fs type_of g b → InScopes fs type_of g (stmts (stmt at n a) b)
  scoped_when : {g : Scope} {at n : ℕ} {c : Outer} {d b : Block} → StmtComes fs g (when c d) → InScopes fs type_of (deeper g) d → InScopes fs type_of g b → InScopes fs type_of g (stmts (stmt at n (when c d)) b)
  scoped_choose : {g : Scope} {at n : ℕ} {c : Outer} {d e b : Block} → StmtComes fs g (choose c d e) → InScopes fs type_of (deeper g) d → InScopes fs type_of (deeper g) e → InScopes fs type_of g b
      → InScopes fs type_of g (stmts (stmt at n (choose c d e)) b)
  scoped_loop : {g h : Scope} {at n : ℕ} {a : Action} {d b : Block} → Loops a d → StmtComes fs g a → LoopSees g a h → InScopes fs type_of h d → InScopes fs type_of g b → InScopes fs type_of g (stmts (stmt at n a) b)
  scoped_wait : {g : Scope} {at n : ℕ} {ns : List Awaited} {d b : Block} → StmtComes fs g (wait ns d) → InScopes fs type_of g d → InScopes fs type_of g b → InScopes fs type_of g (stmts (stmt at n (wait ns d)) b)
