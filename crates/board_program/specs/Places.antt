-- Slots of variables, looked up by a number of each.
use Rattle.std.specs.Prelude.{◌≡◌, nat_eq, nat_lt, ℕ, zero, suc, ◌+◌, ◌-◌, ◌*◌, List, [], ◌∷◌, ◌++◌, length, Option, Some, None, slice_index_or, if◌then◌else◌}
use Rattle.indexmap.specs.IndexMap.{get}
use Rattle.task_code.specs.Code.{Local, Name, Owned, Parameter, Variable}
use Rattle.board_program.specs.Spots.{place_from}
use Rattle.board_program.specs.Tables.{first_count, shape_of}
use Rattle.board_program.specs.declared.variable_index.VariableIndex.{VariableIndex}
use Rattle.board_program.specs.declared.program.LocalVariable.{LocalVariable}

-- the lookup number of a variable; no two variables share one
abbrev pub number_of : Variable → ℕ
number_of v = 2 * v.node + (if v.array then 1 else 0)

-- the index of a number in a table of this size, whose first entry is that of the least number
abbrev pub index_from : (least size n : ℕ) → Option ℕ
index_from least size n = if nat_lt n least then None else if nat_lt (n - least) size then Some (n - least) else None

-- an entry of the table is one more than a slot, or 0 if there is none
abbrev pub entry_place : ℕ → Option ℕ
entry_place e = if nat_eq e 0 then None else Some (e - 1)

abbrev pub entry_or : List ℕ → Option ℕ → Option ℕ → Option ℕ
entry_or table far None = far
entry_or table far (Some k) = entry_place (slice_index_or table k 0)

-- the slot of a number: from the table if it covers the number, and else from the map
abbrev pub place_at : VariableIndex → ℕ → Option ℕ
place_at m n = entry_or m.table.items (get nat_eq m.far n) (index_from m.least (length m.table.items) n)

-- the slot at which a variable is found
abbrev pub place_in : VariableIndex → Variable → Option ℕ
place_in m v = place_at m (number_of v)

-- a number has this slot in the new index, and all other slots are unchanged
pub record NotesPlace (old new : VariableIndex) (n p : ℕ) : Type 0 where
  pub each : (q : ℕ) → place_at new q ≡ (if nat_eq n q then Some p else place_at old q)

-- each variable is found at its first index among those that a block declares
pub record FindsPlaces (ms : List Variable) (m : VariableIndex) : Type 0 where
  pub each : (v : Variable) → place_in m v ≡ place_from 0 v ms

-- the number of occurrences of each variable among the names, counted at its first index
abbrev pub counts_from : List Variable → List Name → ℕ → List Variable → List ℕ
counts_from ms rs n [] = []
counts_from ms rs n (v ∷ vs) = first_count ms n v rs ∷ counts_from ms rs (suc n) vs

-- the counts of names, for any variables that the index finds
pub record CountsOf (m : VariableIndex) (many : ℕ) (rs : List Name) (cs : List ℕ) : Type 0 where
  pub counts : (ms : List Variable) → FindsPlaces ms m → length ms ≡ many → cs ≡ counts_from ms rs 0 ms

-- counts to which more names are added
pub record CountsMore (m : VariableIndex) (more : List Name) (old new : List ℕ) : Type 0 where
  pub counts : (ms : List Variable) (rs : List Name) → FindsPlaces ms m → old ≡ counts_from ms rs 0 ms → new ≡ counts_from ms (rs ++ more) 0 ms

-- the slot of a name that is one of the block's own variables
abbrev pub own_place : VariableIndex → Name → Option ℕ
own_place m r = by r.up r.owned
  where
    by : ℕ → Owned → Option ℕ
    by zero (Local v) = place_in m v
    by zero (Parameter k a) = None
    by (suc up) x = None

-- variables with counts, from an index on
abbrev pub with_counts : ℕ → (reads writes : List ℕ) → List Variable → List LocalVariable
with_counts n cs ds [] = []
with_counts n cs ds (v ∷ vs) = record { shape = shape_of v.array; reads = slice_index_or cs n 0; writes = slice_index_or ds n 0 } ∷ with_counts (suc n) cs ds vs
