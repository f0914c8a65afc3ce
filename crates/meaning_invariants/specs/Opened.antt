-- Invariants of what a program has opened of a script so far: lists of its live statements, of pending headers, and of
-- variables that may close.
use Rattle.std.specs.Prelude.{◌≡◌, ◌⊎◌, ℕ, ◌<◌, pos, true, false, List, [], ◌∷◌, length, Option, Some, None, slice_get}
use Rattle.values.specs.declared.key.Key.{Key}
use Rattle.values.specs.declared.value.Scalar.{Scalar}
use Rattle.values.specs.declared.value.Value.{Value}
use Rattle.language.specs.Core.{Call, Stmt, stmt, Action, declare, wait, Awaited, Block, Function, Core}
use Rattle.language.specs.Facts.{Knowledge}
use Rattle.language.specs.Meaning.{Closed, Live, LiveStmt, Ready}
use Rattle.language.specs.Members.{◌∈◌}
use Rattle.language.specs.Openings.{Branches, InTurn, Opens}
use Rattle.language.specs.Parts.{block_list, call_at, input_name, output_name, script_stmts, stmt_action, stmt_at, stmt_calls}
use Rattle.language.specs.Places.{Path, max_path_steps}
use Rattle.meaning_facts.specs.declared.facts.Place.{Place as Spot}
use Rattle.meaning_facts.specs.declared.instances.InstanceBindings.{InstanceBindings}
use Rattle.meaning_facts.specs.declared.instances.Instances.{Instances}
use Rattle.paths.specs.declared.steps.Step.{Step}
use Rattle.meaning_facts.specs.declared.fact_base.FactBase.{FactBase}
use Rattle.meaning_cells.specs.Chosen.{Chosen, chosen_in, have_come_in}
use Rattle.meaning_facts.specs.Keeping.{place_view, IsPlaced}
use Rattle.meaning_facts.specs.Paths.{child_at, path_of, IsOpen}
use Rattle.meaning_facts.specs.Sighted.{closed_at, sight_of}
use Rattle.meaning_facts.specs.Store.{given_at, spot, variable_in, variables_of}
use Rattle.meaning_cells.specs.Taking.{OpensBy}
use Rattle.meaning_invariants.specs.Held.{with_instances, Holds}
use Rattle.meaning_invariants.specs.Active.{Active, active, Candidate, HasBlock, IsDeclared}

-- headers have distinct offsets, and no call has one of them
pub record OffsetsApart (s : Core) : Type 0 where
  pub headers : (x y : Stmt) → x ∈ script_stmts s → y ∈ script_stmts s → Branches (stmt_action x) → Branches (stmt_action y) → stmt_at x ≡ stmt_at y → x ≡ y
  pub no_call : (x : Stmt) → x ∈ script_stmts s → Branches (stmt_action x) → call_at s (stmt_at x) ≡ None

-- what opened an instance at a step, with its variables: a ready header, with the values of that turn; or a call
pub data Origin (s : Core) (K : Knowledge) (path : Path) (at : ℕ) (k : Key) (variable : ℕ → Option Scalar) : Type 0 where
  of_header : {n : ℕ} {header : Action} {vs : List Value} {b : Block} → LiveStmt s K path (stmt at n header) → Ready s K path header vs → Opens header vs k b
      → ((x : ℕ) (v : Scalar) → InTurn header vs k x v → variable x ≡ Some v) → ((x : ℕ) (v : Scalar) → variable x ≡ Some v → InTurn header vs k x v)
      → Origin s K path at k variable
  of_call : {st : Stmt} {c : Call} → LiveStmt s K path st → c ∈ stmt_calls st → c.at ≡ at → ((x : ℕ) → variable x ≡ None) → Origin s K path at k variable

-- an array marked as closed is in an existing instance, and is closed in the meaning
pub record IsClosedSo (s : Core) (K : Knowledge) (l : FactBase) (p : Spot) : Type 0 where
  pub within : p.instance < length l.instances.all.items
  pub so : Closed s K (place_view l.instances.all.items p)

-- a variable is declared by a live block
pub record IsCandidate (s : Core) (K : Knowledge) (l : FactBase) (p : Spot) (b : Block) : Type 0 where
  pub within : p.instance < length l.instances.all.items
  pub live : Live s K (path_of l.instances.all.items p.instance) b
  pub at : ℕ
  pub node : ℕ
  pub there : stmt at node (declare p.node) ∈ block_list b

-- a statement is live in an existing instance
pub record IsActive (s : Core) (K : Knowledge) (l : FactBase) (a : Active) : Type 0 where
  pub within : a.instance < length l.instances.all.items
  pub so : LiveStmt s K (path_of l.instances.all.items a.instance) a.statement

-- what was opened and closed so far is right; the statements of the script are listed, and so are the variables that
-- live blocks declare, except those that never end
pub record IsSoFar (s : Core) (K : Knowledge) (levels : ℕ) (l : FactBase) (ls : List Active) (arrays : List Candidate) : Type 0 where
  pub holds : Holds K l
  pub placed : IsPlaced s l.instances
  pub live : (a : Active) → a ∈ ls → IsActive s K l a
  pub closed : (p : Spot) → closed_at l p ≡ true → IsClosedSo s K l p
  pub origins : (i at : ℕ) (k : Key) (j : ℕ) → child_at l.instances i at k ≡ Some j → Origin s K (path_of l.instances.all.items i) at k (variable_in (variables_of l.instances.all.items j))
  pub script : (st : Stmt) → st ∈ block_list s.body → active 0 st ∈ ls
  pub declared : (i at m n : ℕ) → active i (stmt at m (declare n)) ∈ ls → IsDeclared s levels arrays i at m n
  pub candidates : (p : Spot) (b : Block) → ◌∈◌ {X = Candidate} (p, b) arrays → IsCandidate s K l p b

-- the bodies of the calls of a statement are listed, each in a child of its instance
abbrev pub AreCalled : Core → FactBase → List Active → Active → Type 0
AreCalled s l ls a = (c : Call) (f : Function) → c ∈ stmt_calls a.statement → slice_get s.functions c.function ≡ Some f
    → length (path_of l.instances.all.items a.instance) < max_path_steps → HasBlock l ls a.instance c.at (Key.Number (pos 0)) f.body

-- what a statement opens is listed: it opens nothing; or its choice is known, with the blocks that it opens; or it is a
-- `wait`, with its content
pub data IsOpened (s : Core) (K : Knowledge) (l : FactBase) (ls : List Active) (a : Active) : Type 0 where
  nothing : (Branches (stmt_action a.statement) → ⊥) → ((ns : List Awaited) (b : Block) → stmt_action a.statement ≡ wait ns b → ⊥) → IsOpened s K l ls a
  branches : {vs : List Value} → Ready s K (path_of l.instances.all.items a.instance) (stmt_action a.statement) vs → Branches (stmt_action a.statement)
      → ((k : Key) (b : Block) → Opens (stmt_action a.statement) vs k b → length (path_of l.instances.all.items a.instance) < max_path_steps → HasBlock l ls a.instance (stmt_at a.statement) k b)
      → IsOpened s K l ls a
  content : (ns : List Awaited) (b : Block) → stmt_action a.statement ≡ wait ns b → ((st : Stmt) → st ∈ block_list b → active a.instance st ∈ ls) → IsOpened s K l ls a

-- the blocks of these statements are listed, except those of pending headers
pub record ArePassed (s : Core) (K : Knowledge) (l : FactBase) (ls passed waiting : List Active) : Type 0 where
  pub called : (a : Active) → a ∈ passed → AreCalled s l ls a
  pub opened : (a : Active) → a ∈ passed → IsOpened s K l ls a ⊎ (a ∈ waiting)

-- the choice of a header is not known to its instance
pub record IsUnready (l : FactBase) (a : Active) : Type 0 where
  pub choice : chosen_in (sight_of l a.instance) (stmt_action a.statement) ≡ None
  pub names : (ns : List Awaited) (b : Block) → stmt_action a.statement ≡ wait ns b → have_come_in (sight_of l a.instance) ns ≡ false

-- there are more instances and statements; everything present stays, and sees what it saw
pub record GoesOn (l : FactBase) (ls : List Active) (m : FactBase) (ms : List Active) : Type 0 where
  pub within : (i : ℕ) → i < length l.instances.all.items → i < length m.instances.all.items
  pub path_same : (i : ℕ) → i < length l.instances.all.items → path_of m.instances.all.items i ≡ path_of l.instances.all.items i
  pub children : (i at : ℕ) (k : Key) (j : ℕ) → child_at l.instances i at k ≡ Some j → child_at m.instances i at k ≡ Some j
  pub sight_same : (i : ℕ) → i < length l.instances.all.items → sight_of m i ≡ sight_of l i
  pub listed : (a : Active) → a ∈ ls → a ∈ ms

-- a choice that an instance sees is that of a ready header, with its loop variables
pub record IsChoice (s : Core) (K : Knowledge) (path : Path) (x : Action) (c : Chosen) : Type 0 where
  pub values : List Value
  pub ready : Ready s K path x values
  pub opens : OpensBy x values c

-- the choices that an instance sees are right
pub record SeesChoices (s : Core) (K : Knowledge) (l : FactBase) : Type 0 where
  pub choice : (i : ℕ) (x : Action) (c : Chosen) → i < length l.instances.all.items → chosen_in (sight_of l i) x ≡ Some c → IsChoice s K (path_of l.instances.all.items i) x c
  pub names : (i : ℕ) (ns : List Awaited) (b : Block) → i < length l.instances.all.items → have_come_in (sight_of l i) ns ≡ true → Ready s K (path_of l.instances.all.items i) (wait ns b) []

-- a permitted opening of a block at a step of an instance, with its bindings: the block is live there, by a header or a
-- call; inputs and outputs are at the places of the names of the call
pub record IsOpening (s : Core) (K : Knowledge) (l : FactBase) (i : ℕ) (x : Step) (g : InstanceBindings) (b : Block) : Type 0 where
  pub within : i < length l.instances.all.items
  pub short : length (path_of l.instances.all.items i) < max_path_steps
  pub live : Live s K ((x.offset, x.key) ∷ path_of l.instances.all.items i) b
  pub inputs : (j : ℕ) → given_at g.inputs.items j i ≡ spot l.instances.all.items i (input_name (call_at s x.offset) j)
  pub outputs : (j : ℕ) → given_at g.outputs.items j i ≡ spot l.instances.all.items i (output_name (call_at s x.offset) j)
  pub origin : Origin s K (path_of l.instances.all.items i) x.offset x.key (variable_in g.variables.items)

-- the child of an instance at a step, which existed or is opened now
pub data IsChildOf (l : FactBase) (i : ℕ) (x : Step) (g : InstanceBindings) : FactBase → ℕ → Type 0 where
  was_there : {child : ℕ} → child_at l.instances i x.offset x.key ≡ Some child → IsChildOf l i x g l child
  is_new : {u : Instances} → child_at l.instances i x.offset x.key ≡ None → IsOpen l.instances i x g u → IsChildOf l i x g (with_instances l u) (length l.instances.all.items)
