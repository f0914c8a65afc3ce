-- Properties of the core of an accepted script: its names are declared, its calls are found, and its nodes are
-- distinct.
use Rattle.std.specs.Prelude.{◌≡◌, ◌⊎◌, ℕ, suc, List, [], ◌∷◌, length, Option, Some, slice_get, ℤ, Bool, true, false}
use Rattle.language.specs.Core.{Owned, local, output, Name, here, whole, operator, Exprs, Form, compute, Cell, Call, Part, Outer, Stmt, stmt, Action, declare, call_alone, assign, fill, insert, when, choose, range, each, wait, Awaited, Block, Function, Core}
use Rattle.language.specs.Members.{◌∈◌}
use Rattle.language.specs.Parts.{block_list, script_blocks, script_stmts, cells, stmt_calls, call_at, by_name, by_element}
use Rattle.language.specs.Places.{Path, place}
use Rattle.values.specs.Operators.{literal}

-- a statement itself assigns or writes a name
abbrev pub IsOwnTarget : Name → Action → Type 0
IsOwnTarget x a = (x ∈ by_name a) ⊎ (x ∈ by_element a)

-- the blocks that a header opens under keys
abbrev pub header_blocks : Action → List Block
header_blocks (when c b) = b ∷ []
header_blocks (choose c b d) = b ∷ d ∷ []
header_blocks (range lo hi st v k b) = b ∷ []
header_blocks (each a v k b) = b ∷ []
header_blocks _ = []

-- a block declares the binding of a name
pub record Declares (b : Block) (what : Owned) : Type 0 where
  pub node : ℕ
  pub at : ℕ
  pub stmt_node : ℕ
  pub is : what ≡ local node
  pub there : stmt at stmt_node (declare node) ∈ block_list b

-- a name is a target in a block or its nested blocks, this many steps further out as seen from the block
pub data Uses : Block → ℕ → Owned → Type 0 where
  own : {b : Block} {at n up : ℕ} {what : Owned} {a : Action}
      → stmt at n a ∈ block_list b → IsOwnTarget (record { up = up; what = what }) a → Uses b up what
  inside : {b c : Block} {at n up : ℕ} {what : Owned} {a : Action}
      → stmt at n a ∈ block_list b → c ∈ header_blocks a → Uses c (suc up) what → Uses b up what
  in_wait : {b c : Block} {at n up : ℕ} {what : Owned} {ns : List Awaited}
      → stmt at n (wait ns c) ∈ block_list b → Uses c up what → (Declares c what → ⊥) → Uses b up what

-- a call in an expression: its one output is a variable of the statement, which no statement declares
pub record IsHidden (s : Core) (c : Call) : Type 0 where
  pub node : ℕ
  pub is : c.outputs ≡ here node ∷ []
  pub undeclared : (b : Block) → b ∈ script_blocks s → Declares b (local node) → ⊥

-- a statement that consists of this call alone
pub record IsAlone (st : Stmt) (c : Call) : Type 0 where
  pub at : ℕ
  pub node : ℕ
  pub priority : ℤ
  pub parts : List Part
  pub is : st ≡ stmt at node (call_alone priority parts c)

-- names occur where they are declared, and calls are found
pub record NamesFound (s : Core) : Type 0 where
  -- a node is declared in one block
  pub one_block : (b b' : Block) (what : Owned) → b ∈ script_blocks s → b' ∈ script_blocks s → Declares b what → Declares b' what → b ≡ b'
  -- a name occurs in the block that declares it, or in a wait of it; in a function's body its outputs are also visible
  pub script_names : (up : ℕ) (what : Owned) → Uses s.body up what → (up ≡ 0) × Declares s.body what
  pub header_names : (b c : Block) (at n : ℕ) (a : Action) (what : Owned) → b ∈ script_blocks s → stmt at n a ∈ block_list b → c ∈ header_blocks a
      → Uses c 0 what → Declares c what
  pub wait_names : (c : Block) (up : ℕ) (what : Owned) → c ∈ script_blocks s → Uses c up what → Declares c what → up ≡ 0
  pub function_names : (i : ℕ) (f : Function) (up : ℕ) (what : Owned) → slice_get s.functions i ≡ Some f → Uses f.body up what
      → (up ≡ 0) × (Declares f.body what ⊎ ((j : ℕ) × (what ≡ output j)))
  -- calls are found by their offsets, and have an output for each output that the body sets
  pub call_found : (b : Block) (st : Stmt) (c : Call) → b ∈ script_blocks s → st ∈ block_list b → c ∈ stmt_calls st → call_at s c.at ≡ Some c
  pub call_outputs : (b : Block) (st : Stmt) (c : Call) (f : Function) (j : ℕ) → b ∈ script_blocks s → st ∈ block_list b → c ∈ stmt_calls st
      → slice_get s.functions c.function ≡ Some f → Uses f.body 0 (output j) → (x : Name) × (slice_get c.outputs j ≡ Some x)
  pub call_count : (b : Block) (st : Stmt) (c : Call) (f : Function) → b ∈ script_blocks s → st ∈ block_list b → c ∈ stmt_calls st
      → slice_get s.functions c.function ≡ Some f → length c.outputs ≡ f.outputs
  pub call_kinds : (b : Block) (st : Stmt) (c : Call) → b ∈ script_blocks s → st ∈ block_list b → c ∈ stmt_calls st → IsAlone st c ⊎ IsHidden s c

-- the output of a call in an expression belongs to no other call
pub record CallsApart (s : Core) : Type 0 where
  pub hidden_once : (st st' : Stmt) (c c' : Call) (h : IsHidden s c) (h' : IsHidden s c') → st ∈ script_stmts s → st' ∈ script_stmts s
      → c ∈ stmt_calls st → c' ∈ stmt_calls st' → h.node ≡ h'.node → c ≡ c'

-- a form that results in a whole array
pub data IsMany : Form → Type 0 where
  a_list : {es : Exprs} → IsMany (compute (operator literal es))
  a_copy : {a : Name} → IsMany (compute (whole a))

-- cells have nodes of their own, and a whole array is assigned only to an array
pub record CellsApart (s : Core) : Type 0 where
  pub cell_once : (st st' : Stmt) (c c' : Cell) → st ∈ script_stmts s → st' ∈ script_stmts s → c ∈ cells st → c' ∈ cells st' → c.node ≡ c'.node
      → (st ≡ st') × (c ≡ c')
  pub assign_apart : (at n : ℕ) (x : Name) (o : Outer) (st : Stmt) (c : Cell) (path path' : Path) → stmt at n (assign x o) ∈ script_stmts s
      → st ∈ script_stmts s → c ∈ cells st → place s path x ≡ (path', c.node) → ⊥
  pub fill_many : (at n : ℕ) (x : Name) (c : Outer) → stmt at n (fill x c) ∈ script_stmts s → IsMany c.cell.form

-- a variable of a loop: the one for the value, or the one for the number or key of the turn
pub data Role : Stmt → ℕ → Bool → Type 0 where
  range_value_role : {at n x : ℕ} {lo hi : Outer} {st : Option Outer} {t : Option ℕ} {b : Block} → Role (stmt at n (range lo hi st x t b)) x true
  range_turn_role : {at n x t : ℕ} {lo hi : Outer} {st : Option Outer} {b : Block} → Role (stmt at n (range lo hi st x (Some t) b)) t false
  each_value_role : {at n x : ℕ} {a : Name} {t : Option ℕ} {b : Block} → Role (stmt at n (each a x t b)) x true
  each_key_role : {at n x t : ℕ} {a : Name} {b : Block} → Role (stmt at n (each a x (Some t) b)) t false

-- loop variables have nodes of their own
pub record LoopsApart (s : Core) : Type 0 where
  pub role_once : (st st' : Stmt) (x : ℕ) (r r' : Bool) → st ∈ script_stmts s → st' ∈ script_stmts s → Role st x r → Role st' x r' → (st ≡ st') × (r ≡ r')
  pub role_cells : (st st' : Stmt) (c : Cell) (r : Bool) → st ∈ script_stmts s → st' ∈ script_stmts s → c ∈ cells st → Role st' c.node r → ⊥
  pub role_assign : (at n : ℕ) (x : Name) (o : Outer) (st : Stmt) (y : ℕ) (r : Bool) (path path' : Path) → stmt at n (assign x o) ∈ script_stmts s
      → st ∈ script_stmts s → Role st y r → place s path x ≡ (path', y) → ⊥

-- writing statements have nodes of their own
pub record WritersApart (s : Core) : Type 0 where
  pub fill_once : (at n at' : ℕ) (x x' : Name) (c c' : Outer) → stmt at n (fill x c) ∈ script_stmts s → stmt at' n (fill x' c') ∈ script_stmts s
      → (x ≡ x') × (c ≡ c')
  pub insert_once : (at n at' : ℕ) (x x' : Name) (i i' c c' : Outer) → stmt at n (insert x i c) ∈ script_stmts s
      → stmt at' n (insert x' i' c') ∈ script_stmts s → (i ≡ i') × (c ≡ c')
  pub fill_insert : (at n at' : ℕ) (x x' : Name) (i c c' : Outer) → stmt at n (fill x c) ∈ script_stmts s
      → stmt at' n (insert x' i c') ∈ script_stmts s → ⊥

-- the properties of the core of each accepted script
pub record WellFormed (s : Core) : Type 0 where
  pub names : NamesFound s
  pub calls : CallsApart s
  pub cells : CellsApart s
  pub loops : LoopsApart s
  pub writers : WritersApart s
