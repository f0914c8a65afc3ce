-- Outcomes of the meaning of a script: its lines, its faults, its blocked statements, and whether it writes no key
-- twice. States docs/LANGUAGE.md: Blocked statements; Faults; Printing.
use Rattle.std.specs.Prelude.{ℕ, true, List, [], ◌∷◌, map, IsPermutation}
use Rattle.values.specs.declared.key.Key.{Key}
use Rattle.values.specs.declared.value.Scalar.{Scalar}
use Rattle.values.specs.declared.value.Scalar.TheVariants.{Truth}
use Rattle.values.specs.declared.value.Value.{Value}
use Rattle.values.specs.declared.value.Value.TheVariants.{One}
use Rattle.language.specs.Core.{Cell, stmt, Action, declare, call_alone, assign, fill, insert, print, assert, when, choose, range, each, wait, Core}
use Rattle.language.specs.Facts.{Fault, value, element, line, fault, Knowledge, OneWriter}
use Rattle.language.specs.Meaning.{LiveStmt, Ready, Known}
use Rattle.language.specs.Members.{◌∈◌}
use Rattle.language.specs.Parts.{outer_cells}
use Rattle.language.specs.Places.{Path, Place, place}

-- the choice of a header is known
abbrev pub IsReady : Core → Knowledge → Path → Action → Type 0
IsReady s K path a = (vs : List Value) × Ready s K path a vs

-- a statement has its own fact: the value of its right side, its element write, its line, that its assertion is true, its choice
abbrev pub OwnFact : Core → Knowledge → Path → ℕ → Action → Type 0
OwnFact s K path n (declare v) = ⊥
OwnFact s K path n (call_alone p ps c) = ⊥
OwnFact s K path n (assign x c) = (v : Value) × K (value (path, c.cell.node) v)
OwnFact s K path n (fill a c) = (v : Value) × K (value (path, c.cell.node) v)
OwnFact s K path n (insert a i c) = (k : Key) × (v : Scalar) × K (element (place s path a) k (path, n) v)
OwnFact s K path n (print p c) = (bytes : List ℕ) × K (line (path, n) bytes)
OwnFact s K path n (assert p c) = K (value (path, c.cell.node) (One (Truth true)))
OwnFact s K path n (when c b) = IsReady s K path (when c b)
OwnFact s K path n (choose c b d) = IsReady s K path (choose c b d)
OwnFact s K path n (range lo hi st x t b) = IsReady s K path (range lo hi st x t b)
OwnFact s K path n (each a x t b) = IsReady s K path (each a x t b)
OwnFact s K path n (wait ns b) = IsReady s K path (wait ns b)

-- a statement that can be blocked: all but declarations and calls alone (docs/LANGUAGE.md, Blocked statements)
abbrev pub Counts : Action → Type 0
Counts (declare v) = ⊥
Counts (call_alone p ps c) = ⊥
Counts _ = Unit {0}

-- a live statement that has neither its own fact nor a fault at itself or at an outermost cell (docs/LANGUAGE.md, Blocked statements)
pub record Stuck (s : Core) (K : Knowledge) (path : Path) (at n : ℕ) (a : Action) : Type 0 where
  pub live : LiveStmt s K path (stmt at n a)
  pub counts : Counts a
  pub no_fact : ¬ OwnFact s K path n a
  pub no_fault : (f : Fault) → ¬ K (fault f at (path, n))
  pub no_cell_fault : (c : Cell) (f : Fault) → c ∈ outer_cells a → ¬ K (fault f at (path, c.node))

-- a blocked statement, by its offset and path
abbrev pub Blocked : Core → Knowledge → ℕ → Path → Type 0
Blocked s K at path = (n : ℕ) × (a : Action) × Stuck s K path at n a

-- a fault, by its kind, the offset of its statement and its path (docs/LANGUAGE.md, Faults)
abbrev pub Faults : Knowledge → Fault → ℕ → Path → Type 0
Faults K f at path = (n : ℕ) × K (fault f at (path, n))

-- a line with its writer
abbrev pub Written : Type 0
Written = Place × List ℕ

abbrev pub texts : List Written → List (List ℕ)
texts ls = map (λ l. l.1) ls

-- no writer occurs twice
abbrev pub OnceEach : List Written → Type 0
OnceEach [] = Unit {0}
OnceEach (l ∷ ls) = ((bytes : List ℕ) → ¬ (◌∈◌ {X = Written} (l.0, bytes) ls)) × OnceEach ls

-- these are the known lines, in some order (docs/LANGUAGE.md, Printing)
pub record Lines (K : Knowledge) (lines : List (List ℕ)) : Type 0 where
  pub listing : List Written
  pub once : OnceEach listing
  pub known : (w : Place) (bytes : List ℕ) → ◌∈◌ {X = Written} (w, bytes) listing → K (line w bytes)
  pub all : (w : Place) (bytes : List ℕ) → K (line w bytes) → ◌∈◌ {X = Written} (w, bytes) listing
  pub permuted : IsPermutation (texts listing) lines

-- in no round does one key of one array have two writers (docs/LANGUAGE.md, Knowledge)
abbrev pub Clean : Core → Type 0
Clean s = (n : ℕ) (a : Place) → OneWriter (Known s n) a
