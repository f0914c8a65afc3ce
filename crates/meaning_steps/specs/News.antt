-- The facts that a round derives from a statement, given what is seen at its path and what was derived before. States
-- docs/LANGUAGE.md: Knowledge.
use Rattle.std.specs.Prelude.{◌≡◌, ◌≢◌, ℕ, ℤ, Bool, true, false, ◌&&◌, List, [], ◌∷◌, ◌++◌, length, Option, Some, None, Result, Ok, Err, zero, suc}
use Rattle.values.specs.declared.fault.OpFault.{OpFault}
use Rattle.values.specs.declared.key.Key.{Key}
use Rattle.values.specs.declared.map.Element.{Element}
use Rattle.values.specs.declared.value.Scalar.{Scalar}
use Rattle.values.specs.declared.value.Value.{Value}
use Rattle.values.specs.declared.value.Value.TheVariants.{One, Many}
use Rattle.values.specs.Keys.{value_key}
use Rattle.values.specs.Maps.{element as entry}
use Rattle.values.specs.Ranges.{range_count}
use Rattle.language.specs.Core.{Name, Cell, Call, Outer, Stmt, stmt, Action, assign, fill, insert, print, when, choose, range, each, Core}
use Rattle.language.specs.Facts.{Fault, operation, element_twice, too_deep, Fact, value, element, line, fault, Knowledge, IsKey}
use Rattle.language.specs.Meaning.{Gives, Comes, LiveStmt}
use Rattle.language.specs.Members.{◌∈◌}
use Rattle.language.specs.Openings.{Bounds, bounds}
use Rattle.language.specs.Parts.{stmt_at, stmt_node, stmt_action, stmt_calls, cells, outer_cells, script_stmts}
use Rattle.language.specs.Places.{Path, Place, place, max_path_steps}
use Rattle.meaning_steps.specs.Environment.{Sight, Outcome, outcome}

-- the facts derived before, as tests: a variable has a value; the statement of a node has written a key of an array; a
-- key has two writers; a statement has its line; a fault is at an offset and a node; the path has the maximum length
pub record Past : Type 0 where
  pub valued : Name → Bool
  pub written : Name → Key → ℕ → Bool
  pub twice : Name → Key → Bool
  pub lined : ℕ → Bool
  pub faulted : Fault → ℕ → ℕ → Bool
  pub deep : Bool

-- the facts derived before at a path are those known there
pub record Recalls (s : Core) (K : Knowledge) (path : Path) (m : Past) : Type 0 where
  pub valued_so : (x : Name) → m.valued x ≡ true → (v : Value) × K (value (place s path x) v)
  pub written_so : (a : Name) (k : Key) (n : ℕ) → m.written a k n ≡ true → (v : Scalar) × K (element (place s path a) k (path, n) v)
  pub written_all : (a : Name) (k : Key) (n : ℕ) (v : Scalar) → K (element (place s path a) k (path, n) v) → m.written a k n ≡ true
  pub twice_so : (a : Name) (k : Key) (n : ℕ) → m.twice a k ≡ true → (w : Place) × (u : Scalar) × K (element (place s path a) k w u) × (w ≢ (path, n))
  pub twice_all : (a : Name) (k : Key) (n : ℕ) (w : Place) (v u : Scalar) → K (element (place s path a) k (path, n) v) → K (element (place s path a) k w u) → w ≢ (path, n) → m.twice a k ≡ true
  pub lined_so : (n : ℕ) → m.lined n ≡ true → (bytes : List ℕ) × K (line (path, n) bytes)
  pub faulted_so : (f : Fault) (at n : ℕ) → m.faulted f at n ≡ true → K (fault f at (path, n))
  pub deep_so : m.deep ≡ true → length path ≡ max_path_steps
  pub deep_all : length path ≡ max_path_steps → m.deep ≡ true

-- CELLS

-- no fact if it is known already
abbrev pub unless : Bool → Fact → List Fact
unless true f = []
unless false f = f ∷ []

abbrev pub come_by : Option Value → Outcome → Option Value
come_by (Some v) o = Some v
come_by None (Some (Ok v)) = Some v
come_by None (Some (Err f)) = None
come_by None None = None

-- the value that a cell has after the round
abbrev pub comes : Sight → Cell → Option Value
comes g c = come_by (g.cell c.node) (outcome g c.form)

abbrev pub cell_by : Past → Path → (at n : ℕ) → Option Value → Outcome → List Fact
cell_by m path at n (Some v) o = []
cell_by m path at n None (Some (Ok v)) = value (path, n) v ∷ []
cell_by m path at n None (Some (Err f)) = unless (m.faulted f at n) (fault f at (path, n))
cell_by m path at n None None = []

abbrev pub cell_told : Sight → Past → Path → ℕ → Cell → List Fact
cell_told g m path at c = cell_by m path at c.node (g.cell c.node) (outcome g c.form)

abbrev pub cells_told : Sight → Past → Path → ℕ → List Cell → List Fact
cells_told g m path at [] = []
cells_told g m path at (c ∷ cs) = cell_told g m path at c ++ cells_told g m path at cs

-- EFFECTS OF STATEMENTS

abbrev pub assigned_told : Core → Past → Path → Name → Option Value → List Fact
assigned_told s m path x (Some v) = unless (m.valued x) (value (place s path x) v)
assigned_told s m path x None = []

-- a new write, or its fault if the key has two writers
abbrev pub element_by : Core → Past → Path → (at n : ℕ) → Name → Key → Scalar → (written twice : Bool) → List Fact
element_by s m path at n a k v false t = element (place s path a) k (path, n) v ∷ []
element_by s m path at n a k v true true = unless (m.faulted element_twice at n) (fault element_twice at (path, n))
element_by s m path at n a k v true false = []

abbrev pub element_told : Core → Past → Path → (at n : ℕ) → Name → Key → Scalar → List Fact
element_told s m path at n a k v = element_by s m path at n a k v (m.written a k n) (m.twice a k)

abbrev pub elements_told : Core → Past → Path → (at n : ℕ) → Name → List Element → List Fact
elements_told s m path at n a [] = []
elements_told s m path at n a (e ∷ es) = element_told s m path at n a e.key e.value ++ elements_told s m path at n a es

abbrev pub filled_told : Core → Past → Path → (at n : ℕ) → Name → Option Value → List Fact
filled_told s m path at n a (Some (Many es)) = elements_told s m path at n a es
filled_told s m path at n a (Some (One v)) = []
filled_told s m path at n a None = []

abbrev pub key_in : Option Value → Option Key
key_in (Some v) = value_key v
key_in None = None

abbrev pub one_in : Option Value → Option Scalar
one_in (Some (One v)) = Some v
one_in (Some (Many es)) = None
one_in None = None

abbrev pub inserted_told : Core → Past → Path → (at n : ℕ) → Name → Option Key → Option Scalar → List Fact
inserted_told s m path at n a (Some k) (Some v) = element_told s m path at n a k v
inserted_told s m path at n a (Some k) None = []
inserted_told s m path at n a None v = []

abbrev pub text_in : Option Value → Option (List ℕ)
text_in (Some (One (Scalar.Text t))) = Some t
text_in (Some (One (Scalar.Number z))) = None
text_in (Some (One (Scalar.Truth t))) = None
text_in (Some (Many es)) = None
text_in None = None

abbrev pub printed_told : Past → Path → ℕ → Option (List ℕ) → List Fact
printed_told m path n (Some bytes) = unless (m.lined n) (line (path, n) bytes)
printed_told m path n None = []

-- HEADERS

abbrev pub with_value : Option Value → Option (List Value) → Option (List Value)
with_value (Some v) (Some vs) = Some (v ∷ vs)
with_value (Some v) None = None
with_value None vs = None

-- the values that cells have after the round
abbrev pub comes_all : Sight → List Cell → Option (List Value)
comes_all g [] = Some []
comes_all g (c ∷ cs) = with_value (comes g c) (comes_all g cs)

abbrev pub count_of : Option Bounds → Option (Result ℕ OpFault)
count_of (Some r) = Some (range_count r.low r.high r.step)
count_of None = None

abbrev pub positive : ℕ → Bool
positive zero = false
positive (suc n) = true

abbrev pub some_turn : Option (Result ℕ OpFault) → Bool
some_turn (Some (Ok n)) = positive n
some_turn (Some (Err f)) = false
some_turn None = false

abbrev pub some_item : List Element → Bool
some_item [] = false
some_item (e ∷ es) = true

abbrev pub branch_by : List Value → (other : Bool) → Bool
branch_by (One (Scalar.Truth true) ∷ []) other = true
branch_by (One (Scalar.Truth false) ∷ []) other = other
branch_by _ other = false

abbrev pub items_by : List Value → Bool
items_by (Many es ∷ []) = some_item es
items_by _ = false

-- a header opens a block for the values of its cells or the elements of its array
abbrev pub opens_some : Action → List Value → Bool
opens_some (when c b) vs = branch_by vs false
opens_some (choose c b d) vs = branch_by vs true
opens_some (range lo hi st x t b) vs = some_turn (count_of (bounds vs))
opens_some (each a x t b) vs = items_by vs
opens_some _ vs = false

abbrev pub deep_by : Past → Path → (at n : ℕ) → Bool → List Fact
deep_by m path at n true = unless (m.faulted too_deep at n) (fault too_deep at (path, n))
deep_by m path at n false = []

abbrev pub deep_told : Past → Path → (at n : ℕ) → Action → Option (List Value) → List Fact
deep_told m path at n header (Some vs) = deep_by m path at n (m.deep && opens_some header vs)
deep_told m path at n header None = []

abbrev pub bad_by : Past → Path → (at n : ℕ) → Option (Result ℕ OpFault) → List Fact
bad_by m path at n (Some (Err f)) = unless (m.faulted (operation f) at n) (fault (operation f) at (path, n))
bad_by m path at n (Some (Ok i)) = []
bad_by m path at n None = []

abbrev pub bad_told : Past → Path → (at n : ℕ) → Option (List Value) → List Fact
bad_told m path at n (Some vs) = bad_by m path at n (count_of (bounds vs))
bad_told m path at n None = []

abbrev pub items_told : Past → Path → (at n : ℕ) → Bool → Action → List Element → List Fact
items_told m path at n true header es = deep_told m path at n header (Some (Many es ∷ []))
items_told m path at n false header es = []

-- the facts of a statement that follow from the values of its outermost cells
abbrev pub own_told : Core → Sight → Past → Path → (at n : ℕ) → Action → List Fact
own_told s g m path at n (assign x e) = assigned_told s m path x (comes g e.cell)
own_told s g m path at n (fill a e) = filled_told s m path at n a (comes g e.cell)
own_told s g m path at n (insert a i e) = inserted_told s m path at n a (key_in (comes g i.cell)) (one_in (comes g e.cell))
own_told s g m path at n (print p e) = printed_told m path n (text_in (comes g e.cell))
own_told s g m path at n (when c b) = deep_told m path at n (when c b) (comes_all g (outer_cells (when c b)))
own_told s g m path at n (choose c b d) = deep_told m path at n (choose c b d) (comes_all g (outer_cells (choose c b d)))
own_told s g m path at n (range lo hi st x t b) =
    bad_told m path at n (comes_all g (outer_cells (range lo hi st x t b))) ++ deep_told m path at n (range lo hi st x t b) (comes_all g (outer_cells (range lo hi st x t b)))
own_told s g m path at n (each a x t b) = items_told m path at n (g.closed a) (each a x t b) (g.elements a)
own_told s g m path at n _ = []

abbrev pub some_call : List Call → Bool
some_call [] = false
some_call (c ∷ cs) = true

-- THE FACTS OF A STATEMENT
abbrev pub news : Core → Sight → Past → Path → Stmt → List Fact
news s g m path st =
    cells_told g m path (stmt_at st) (cells st)
    ++ (own_told s g m path (stmt_at st) (stmt_node st) (stmt_action st) ++ deep_by m path (stmt_at st) (stmt_node st) (m.deep && some_call (stmt_calls st)))

-- PREMISES

-- a write of a live statement, with the values that its cells have after the round
pub data Wrote (s : Core) (K : Knowledge) (path : Path) : Stmt → Place → Key → Scalar → Type 0 where
  by_fill : {at n : ℕ} {a : Name} {c : Outer} {es : List Element} {k : Key} {v : Scalar}
      → Comes s K path c.cell (Many es) → entry k v ∈ es → Wrote s K path (stmt at n (fill a c)) (place s path a) k v
  by_insert : {at n : ℕ} {a : Name} {i c : Outer} {u : Value} {k : Key} {v : Scalar}
      → Comes s K path i.cell u → IsKey u k → Comes s K path c.cell (One v) → Wrote s K path (stmt at n (insert a i c)) (place s path a) k v

-- a live statement that wrote, with the offset and the node of this one: a declaration with a right side is two
-- statements
pub record Writer (s : Core) (K : Knowledge) (path : Path) (st : Stmt) (a : Place) (k : Key) (v : Scalar) : Type 0 where
  pub writing : Stmt
  pub live : LiveStmt s K path writing
  pub at_is : stmt_at writing ≡ stmt_at st
  pub node_is : stmt_node writing ≡ stmt_node st
  pub wrote : Wrote s K path writing a k v

-- the known facts of live statements agree with what the statements derive
pub record IsSteady (s : Core) (K : Knowledge) : Type 0 where
  pub cell_same : (path : Path) (st : Stmt) (c : Cell) (v : Value) (r : Result Value Fault) → LiveStmt s K path st → c ∈ cells st → K (value (path, c.node) v) → Gives s K path c.form r → r ≡ Ok v
  pub assign_same : (path : Path) (at n : ℕ) (x : Name) (c : Outer) (v u : Value) → LiveStmt s K path (stmt at n (assign x c)) → Comes s K path c.cell v → K (value (place s path x) u) → v ≡ u
  pub element_same : (path : Path) (st : Stmt) (a : Place) (k : Key) (v u : Scalar) → LiveStmt s K path st → Wrote s K path st a k v → K (element a k (path, stmt_node st) u) → v ≡ u
  pub print_same : (path : Path) (at n : ℕ) (p : ℤ) (c : Outer) (bytes bits : List ℕ) → LiveStmt s K path (stmt at n (print p c)) → Comes s K path c.cell (One (Scalar.Text bytes)) → K (line (path, n) bits) → bytes ≡ bits
  pub wrote : (path : Path) (st : Stmt) (a : Place) (k : Key) (v : Scalar) → LiveStmt s K path st → K (element a k (path, stmt_node st) v) → Writer s K path st a k v

-- statements of one node have one offset, and prints of one node have one line
pub record NodesTell (s : Core) : Type 0 where
  pub one_at : (st x : Stmt) → st ∈ script_stmts s → x ∈ script_stmts s → stmt_node st ≡ stmt_node x → stmt_at st ≡ stmt_at x
  pub one_line : (at at' n : ℕ) (p p' : ℤ) (c c' : Outer) → stmt at n (print p c) ∈ script_stmts s → stmt at' n (print p' c') ∈ script_stmts s → c ≡ c'

-- a fact derived from some live statement
pub record ToldOf (s : Core) (K : Knowledge) (g : Path → Sight) (m : Path → Past) (f : Fact) : Type 0 where
  pub path : Path
  pub st : Stmt
  pub live : LiveStmt s K path st
  pub told : f ∈ news s (g path) (m path) path st
