-- The sets that a program takes to be live, closed and known of names. Conditions that every ready block is open and
-- every finished array is closed.
use Rattle.std.specs.Prelude.{◌≡◌, ◌⊎◌, ℕ, ◌<◌, pos, true, false, List, length, Some, slice_get}
use Rattle.values.specs.declared.key.Key.{Key}
use Rattle.values.specs.declared.value.Scalar.{Scalar}
use Rattle.values.specs.declared.value.Value.{Value}
use Rattle.language.specs.Core.{local, Name, Call, Outer, Stmt, stmt, Action, declare, insert, wait, Awaited, Block, Function, Core}
use Rattle.language.specs.Facts.{Knowledge, IsKey, value, element}
use Rattle.language.specs.Meaning.{Closed, HasValue, LiveStmt, Ready}
use Rattle.language.specs.Members.{◌∈◌}
use Rattle.language.specs.Openings.{InTurn, Opens}
use Rattle.language.specs.Parts.{block_list, script_blocks, script_stmts, stmt_calls}
use Rattle.language.specs.Places.{Path, Place, place, max_path_steps}
use Rattle.meaning_steps.specs.Kept.{scalar_by}
use Rattle.meaning_steps.specs.Taken.{Taken}
use Rattle.meaning_facts.specs.declared.facts.Place.{Place as Spot}
use Rattle.meaning_facts.specs.declared.fact_base.FactBase.{FactBase}
use Rattle.meaning_cells.specs.Chosen.{Chosen, chosen_in, have_come_in}
use Rattle.meaning_cells.specs.Ending.{Goal, IsDone}
use Rattle.meaning_facts.specs.Keeping.{kept_of}
use Rattle.meaning_facts.specs.Paths.{child_at, path_of}
use Rattle.meaning_facts.specs.Sighted.{closed_at, sight_of}
use Rattle.meaning_facts.specs.Indexed.{one_writer_in}
use Rattle.meaning_facts.specs.Store.{variable_in, variables_of, writes_at}
use Rattle.meaning_invariants.specs.Never.{never_ends}

-- a live statement in an instance
pub record Active : Type 0 where
  pub instance : ℕ
  pub statement : Stmt

abbrev pub active : ℕ → Stmt → Active
active i st = record { instance = i; statement = st }

-- a statement is in the list, in an instance at a path
pub record IsListed (l : FactBase) (ls : List Active) (path : Path) (st : Stmt) : Type 0 where
  pub instance : ℕ
  pub within : instance < length l.instances.all.items
  pub there : active instance st ∈ ls
  pub path_is : path_of l.instances.all.items instance ≡ path

-- the listed statements are taken to be live, and the arrays and scalars of the fact base to be closed and known
abbrev pub taken_by : FactBase → List Active → Taken
taken_by l ls = record {
  live = λ path st. IsListed l ls path st;
  closed = λ a. (kept_of l).closed a ≡ true;
  has = λ p v. scalar_by ((kept_of l).value p) ((kept_of l).turn p) ≡ Some v;
}

-- the listed statements are live, the closed arrays are closed in the meaning, and loop variables have the values of
-- their turns
pub record IsRight (s : Core) (K : Knowledge) (l : FactBase) (ls : List Active) : Type 0 where
  pub within : (a : Active) → a ∈ ls → a.instance < length l.instances.all.items
  pub live : (a : Active) → a ∈ ls → LiveStmt s K (path_of l.instances.all.items a.instance) a.statement
  pub closed : (a : Place) → (kept_of l).closed a ≡ true → Closed s K a
  pub turn : (p : Place) (v : Scalar) → (kept_of l).turn p ≡ Some v → HasValue s K p v

-- the statements of a block are listed in the child of an instance at a step
pub record HasBlock (l : FactBase) (ls : List Active) (i at : ℕ) (k : Key) (b : Block) : Type 0 where
  pub instance : ℕ
  pub opened : child_at l.instances i at k ≡ Some instance
  pub listed : (st : Stmt) → st ∈ block_list b → active instance st ∈ ls

-- every ready block is open
pub record IsAllOpen (s : Core) (K : Knowledge) (l : FactBase) (ls : List Active) : Type 0 where
  pub script : (st : Stmt) → st ∈ block_list s.body → active 0 st ∈ ls
  pub blocks : (i at n : ℕ) (header : Action) (c : Chosen) (vs : List Value) (k : Key) (b : Block)
      → active i (stmt at n header) ∈ ls → chosen_in (sight_of l i) header ≡ Some c → Ready s K (path_of l.instances.all.items i) header vs → Opens header vs k b
      → length (path_of l.instances.all.items i) < max_path_steps → HasBlock l ls i at k b
  pub turns : (i at n x j : ℕ) (header : Action) (c : Chosen) (vs : List Value) (k : Key) (b : Block) (v : Scalar)
      → active i (stmt at n header) ∈ ls → chosen_in (sight_of l i) header ≡ Some c → Ready s K (path_of l.instances.all.items i) header vs → Opens header vs k b
      → InTurn header vs k x v → child_at l.instances i at k ≡ Some j → variable_in (variables_of l.instances.all.items j) x ≡ Some v
  pub waits : (i at n : ℕ) (ns : List Awaited) (b : Block) (st : Stmt)
      → active i (stmt at n (wait ns b)) ∈ ls → have_come_in (sight_of l i) ns ≡ true → st ∈ block_list b → active i st ∈ ls
  pub calls : (i : ℕ) (st : Stmt) (c : Call) (f : Function) → active i st ∈ ls → c ∈ stmt_calls st → slice_get s.functions c.function ≡ Some f
      → length (path_of l.instances.all.items i) < max_path_steps → HasBlock l ls i c.at (Key.Number (pos 0)) f.body

-- a variable of an instance, with the block that declares it
abbrev pub Candidate : Type 0
Candidate = Spot × Block

-- the block that declares a variable, which is among the candidates unless it never ends there
pub record IsDeclared (s : Core) (levels : ℕ) (arrays : List Candidate) (i at m n : ℕ) : Type 0 where
  pub block : Block
  pub in_script : block ∈ script_blocks s
  pub there : stmt at m (declare n) ∈ block_list block
  pub listed : (◌∈◌ {X = Candidate} (record { instance = i; node = n }, block) arrays) ⊎ (never_ends s levels (local n) block ≡ true)

-- the goal that a block is finished for a variable of its instance
abbrev pub goal_of : Spot → Block → Goal
goal_of p b = record { instance = p.instance; what = local p.node; block = b }

-- every finished array is closed
pub record IsAllClosed (s : Core) (levels : ℕ) (l : FactBase) (ls : List Active) (arrays : List Candidate) : Type 0 where
  pub declared : (i at m n : ℕ) → active i (stmt at m (declare n)) ∈ ls → IsDeclared s levels arrays i at m n
  pub ended : (p : Spot) (b : Block) → ◌∈◌ {X = Candidate} (p, b) arrays → closed_at l p ≡ false
      → IsDone s l (goal_of p b) → one_writer_in (writes_at l.facts p) ≡ true → ⊥

-- the index of each written element is known
pub record HasIndexes (s : Core) (K : Knowledge) : Type 0 where
  pub index : (path : Path) (at n : ℕ) (x : Name) (i c : Outer) (k : Key) (v : Scalar) → stmt at n (insert x i c) ∈ script_stmts s → K (element (place s path x) k (path, n) v)
      → (u : Value) × K (value (path, i.cell.node) u) × IsKey u k
