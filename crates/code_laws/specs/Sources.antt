-- Properties of code by which every wait leads to a waiting statement: each scalar that can be read has a source, and
-- cells wait only for cells before them.
use Rattle.std.specs.Prelude.{◌≡◌, ◌⊎◌, ℕ, ◌<◌, Bool, true, false, Some}
use Rattle.dataflow.specs.System.{In}
use Rattle.task_code.specs.Code.{Variable, Name, Loop, Act, Cell, Read, Call, If, Wait, ByStep, Code, Way, entry, body, here, scalar, is_array_name, stored_of, loop_of, loop_variables, ways}
use Rattle.task_code.specs.Whole.{Seen}
use Rattle.task_code.specs.Exact.{needs_of}

-- a cell, or an element read: it passes its value to later entries
abbrev pub is_cell : Act → Bool
is_cell (Cell e) = true
is_cell Read = true
is_cell _ = false

-- an act that opens a block for every result that is not a fault
abbrev pub always_opens : Act → Bool
always_opens (Call b rs os) = true
always_opens (If e b (Some d)) = true
always_opens (Wait hs b) = true
always_opens _ = false

module _ (C : Code) where
  -- the variable is one of the loop that opens the body, which stores it
  pub record IsTurns (b : ℕ) (v : Variable) : Type 0 where
    pub opener : ℕ
    pub opens : (body C b).opener ≡ ByStep opener
    pub loop : Loop
    pub loops : loop_of (entry C opener).act ≡ Some loop
    pub variable : In v (loop_variables loop)

  -- an entry of the body may write the variable
  pub record IsAssigned (b : ℕ) (v : Variable) : Type 0 where
    pub assigner : ℕ
    pub there : In assigner (body C b).entries
    pub right : In (here v) (entry C assigner).writes

  -- an entry of a body that the entry opens this way may write the variable of the name
  pub record HandsOn (i : ℕ) (w : Way) (b : ℕ) (r : Name) : Type 0 where
    pub holder : ℕ
    pub there : In holder (body C b).entries
    pub inside : Name
    pub seen : Seen C (entry C i).offset w inside r
    pub right : In inside (entry C holder).writes

  -- a body that a run may reach: the script's, and those that an entry of such a body can open
  pub data Reached : ℕ → Type 0 where
    at_start : Reached 0
    by_entry : {b d : ℕ} (i : ℕ) (w : Way) → Reached b → In i (body C b).entries → In {X = Way × ℕ} (w, d) (ways (entry C i).act) → Reached d

  -- each scalar that can be read is stored in the end, if nothing waits
  pub record FindsSources : Type 0 where
    -- a scalar that an entry of its own block may read is a loop's variable, or an entry of that block may write it
    pub assigned : (b j : ℕ) (v : Variable) → Reached b → In v (body C b).makes → v.array ≡ false → In j (body C b).entries → In (here v) (entry C j).reads → IsTurns b v ⊎ IsAssigned b v
    -- an entry that may write a scalar stores it itself, or always opens a block, and passes the right to whichever it
    -- opens
    pub handed : (b i : ℕ) (r : Name) → Reached b → In i (body C b).entries → In r (entry C i).writes → is_array_name r ≡ false
        → In r (stored_of (entry C i).node (entry C i).act) ⊎ ((always_opens (entry C i).act ≡ true) × ((w : Way) (d : ℕ) → In (w, d) (ways (entry C i).act) → HandsOn i w d r))

  -- a cell that needs another one's value stands after it
  abbrev pub CellsFollow : Type 0
  CellsFollow = (i j : ℕ) → is_cell (entry C i).act ≡ true → is_cell (entry C j).act ≡ true → In (here (scalar (entry C j).node)) (needs_of (entry C i)) → j < i
