-- Code: bodies of entries in flat lists.
use Rattle.std.specs.Prelude.{ℕ, zero, suc, Bool, true, false, ◌&&◌, List, [], ◌∷◌, ◌++◌, map, Option, Some, None, ℤ, pos, nat_eq}
use Rattle.values.specs.declared.key.Key.{Key}
use Rattle.values.specs.declared.value.Scalar.{Scalar}
use Rattle.values.specs.declared.value.Scalar.TheVariants.{Number}
use Rattle.values.specs.Values.{same_truth}
use Rattle.values.specs.Operators.{Operation}
-- engines run control items, workers run leaf items
pub use Rattle.work_queue.specs.declared.entry.Kind.{Kind}
pub use Rattle.work_queue.specs.declared.entry.Kind.TheVariants.{Control, Leaf}

-- a variable with a datum in each instance of its block: its node in the source, and whether it is an array
pub record Variable : Type 0 where
  pub node : ℕ
  pub array : Bool

-- a variable of a block, or in a function's body an input or output of the function, by its index among the arguments
-- of the call
pub data Owned : Type 0 where
  Local : Variable → Owned
  Parameter : (index : ℕ) → (array : Bool) → Owned

-- a name as seen from a block: its owner lies `up` steps of the path further out
pub record Name : Type 0 where
  pub up : ℕ
  pub owned : Owned

-- a need: a scalar that is stored, an array that is closed, or an element of an array, at a scalar's value or at a key
pub data Need : Type 0 where
  Stored : Name → Need
  Closed : Name → Need
  At : (array index : Name) → Need
  AtKey : (array : Name) → (key : Key) → Need

-- an expression over constants and over the answers to needs, which are given by their indexes in the entry's list
mutual
  pub data Expr : Type 0 where
    constant : Scalar → Expr
    need : ℕ → Expr
    operation : Operation → Exprs → Expr

  pub data Exprs : Type 0 where
    no_operand : Exprs
    operand : Expr → Exprs → Exprs

-- the argument that a call passes for an input: a name of the caller, or a literal, which has no datum
pub data Argument : Type 0 where
  Named : Name → Argument
  Fixed : Scalar → Argument

-- the body of a loop, and the nodes of its variables: the value, and the key or number of the turn
pub record Loop : Type 0 where
  pub body : ℕ
  pub value : ℕ
  pub turn : Option ℕ

-- one of the `wait` statements that were merged into one entry: the offset of the statement, and its needs
pub record Header : Type 0 where
  pub at : ℕ
  pub needs : List Need

-- the act of an entry, performed when it ends
pub data Act : Type 0 where
  Cell : Expr → Act
  Read : Act
  Call : (body : ℕ) → (inputs : List Argument) → (outputs : List Name) → Act
  Set : (target : Name) → Expr → Act
  Fill : (target : Name) → Exprs → Act
  Copy : (target : Name) → Act
  InsertElement : (target : Name) → (index right : Expr) → Act
  Print : Expr → Act
  Assert : Expr → Act
  If : Expr → (then_body : ℕ) → (else_body : Option ℕ) → Act
  Range : (low high step : Expr) → Loop → Act
  Each : Loop → Act
  Wait : (headers : List Header) → (body : ℕ) → Act

-- an entry of a body
pub record Entry : Type 0 where
  pub node : ℕ  -- the variable of this node gets the value of a cell or an element read
  pub at : ℕ  -- the offset of its statement, where its faults are reported
  pub offset : ℕ  -- the offset that a listing shows, and that the paths of the blocks that it opens have
  pub priority : ℤ
  pub needs : List Need
  pub act : Act
  pub reads : List Name  -- what it may read, by itself or through entries that it leads to
  pub writes : List Name  -- what it may write, likewise

-- the opener of a body: the start of the run, a wait, a branch or loop, or the calls of its function
pub data Opener : Type 0 where
  ByMain : Opener
  ByWait : (entry : ℕ) → Opener
  ByStep : (entry : ℕ) → Opener
  ByCalls : Opener

-- a block of the source: its opener, the variables that it declares, and its entries in order
pub record Body : Type 0 where
  pub opener : Opener
  pub makes : List Variable
  pub entries : List ℕ

-- body 0 is the script
pub record Code : Type 0 where
  pub entries : List Entry
  pub bodies : List Body

-- the name of a variable within its own block
abbrev pub here : Variable → Name
here v = record { up = 0; owned = Local v }

-- the scalar of a node
abbrev pub scalar : ℕ → Variable
scalar n = record { node = n; array = false }

-- the owned variable or parameter is an array
abbrev pub is_array_owned : Owned → Bool
is_array_owned (Local v) = v.array
is_array_owned (Parameter k b) = b

-- the name refers to an array
abbrev pub is_array_name : Name → Bool
is_array_name r = is_array_owned r.owned

-- the kind of an act: engines run control acts, workers run leaf acts
abbrev pub kind_of : Act → Kind
kind_of (Cell e) = Leaf
kind_of Read = Control
kind_of (Call b rs os) = Control
kind_of (Set r e) = Leaf
kind_of (Fill r es) = Leaf
kind_of (Copy r) = Control
kind_of (InsertElement r i e) = Control
kind_of (Print e) = Leaf
kind_of (Assert e) = Leaf
kind_of (If e b d) = Control
kind_of (Range l h s w) = Control
kind_of (Each w) = Control
kind_of (Wait hs b) = Control

-- an entry without effect, and a body without entries
abbrev pub blank_entry : Entry
blank_entry = record { node = 0; at = 0; offset = 0; priority = pos 0; needs = []; act = Print (constant (Number (pos 0))); reads = []; writes = [] }

abbrev pub blank_body : Body
blank_body = record { opener = ByMain; makes = []; entries = [] }

-- the member at an index, from 0
abbrev pub nth : {X : Type 0} → X → List X → ℕ → X
nth d [] n = d
nth d (x ∷ xs) zero = x
nth d (x ∷ xs) (suc n) = nth d xs n

-- the entry and the body of a number; a blank one if there is none
abbrev pub entry : Code → ℕ → Entry
entry C i = nth blank_entry C.entries i

abbrev pub body : Code → ℕ → Body
body C b = nth blank_body C.bodies b

-- the entry of the call whose function name is at an offset
abbrev pub call_from : ℕ → List Entry → ℕ → ℕ
call_from i [] at = 0
call_from i (e ∷ es) at = elim (is_call e.act && nat_eq e.offset at) [ true ↦ i | false ↦ call_from (suc i) es at ]
  where
    is_call : Act → Bool
    is_call (Call b rs os) = true
    is_call _ = false

-- the call to which a path's step with this offset belongs
abbrev pub call_at : Code → ℕ → ℕ
call_at C at = call_from 0 C.entries at

-- the arguments of a call: its inputs, followed by its outputs
abbrev pub arguments : Act → List Argument
arguments (Call b rs os) = rs ++ map Named os
arguments _ = []

-- the argument for a parameter: that at its index, if it is an array or a scalar as the parameter is; a literal is a
-- scalar
abbrev pub argument_in : List Argument → ℕ → Bool → Option Argument
argument_in [] k b = None
argument_in (Named r ∷ rs) zero b = elim (same_truth (is_array_name r) b) [ true ↦ Some (Named r) | false ↦ None ]
argument_in (Fixed v ∷ rs) zero b = elim b [ true ↦ None | false ↦ Some (Fixed v) ]
argument_in (x ∷ rs) (suc k) b = argument_in rs k b

-- the argument of the call at an offset
abbrev pub argument : Code → ℕ → ℕ → Bool → Option Argument
argument C at k b = argument_in (arguments (entry C (call_at C at)).act) k b

-- the ways to open a body: at the path of the entry, by a step, or by the step of a call
pub data Way : Type 0 where
  InPlace Through Calling : Way

-- the bodies that an act can open
abbrev pub ways : Act → List (Way × ℕ)
ways (Cell e) = []
ways Read = []
ways (Call b rs os) = (Calling, b) ∷ []
ways (Set r e) = []
ways (Fill r es) = []
ways (Copy r) = []
ways (InsertElement r i e) = []
ways (Print e) = []
ways (Assert e) = []
ways (If e b None) = (Through, b) ∷ []
ways (If e b (Some d)) = (Through, b) ∷ (Through, d) ∷ []
ways (Range l h s w) = (Through, w.body) ∷ []
ways (Each w) = (Through, w.body) ∷ []
ways (Wait hs b) = (InPlace, b) ∷ []

-- the names that an entry of a node stores into itself, except for the variables of a loop
abbrev pub stored_of : ℕ → Act → List Name
stored_of n (Cell e) = here (scalar n) ∷ []
stored_of n Read = here (scalar n) ∷ []
stored_of n (Call b rs os) = []
stored_of n (Set r e) = r ∷ []
stored_of n (Fill r es) = r ∷ []
stored_of n (Copy r) = r ∷ []
stored_of n (InsertElement r i e) = r ∷ []
stored_of n (Print e) = []
stored_of n (Assert e) = []
stored_of n (If e b d) = []
stored_of n (Range l h s w) = []
stored_of n (Each w) = []
stored_of n (Wait hs b) = []

-- the targets of an entry: the names that it stores into itself, or that its function stores into
abbrev pub targets_of : ℕ → Act → List Name
targets_of n (Call b rs os) = os
targets_of n a = stored_of n a

abbrev pub targets : Entry → List Name
targets e = targets_of e.node e.act

-- the loop of an act
abbrev pub loop_of : Act → Option Loop
loop_of (Range l h s w) = Some w
loop_of (Each w) = Some w
loop_of _ = None

-- the variable for the key or number of a loop's turn, if it has one
abbrev pub turn_variables : Option ℕ → List Variable
turn_variables None = []
turn_variables (Some n) = scalar n ∷ []

-- the variables of a loop, which are data of the block of each turn
abbrev pub loop_variables : Loop → List Variable
loop_variables w = scalar w.value ∷ turn_variables w.turn

-- the names in a need
abbrev pub needed : Need → List Name
needed (Stored r) = r ∷ []
needed (Closed r) = r ∷ []
needed (At a r) = a ∷ r ∷ []
needed (AtKey a k) = a ∷ []
