-- The effect of an item that ends: the blocks that it opens, its stores and its printed lines.
use Rattle.std.specs.Prelude.{ℕ, zero, suc, Bool, true, false, ◌&&◌, List, [], ◌∷◌, ◌++◌, map, take, drop, length, Option, Some, None, pos, nat_le}
use Rattle.dataflow.specs.System.{Bad, Effect, Good, Opening, Outcome, Write}
use Rattle.std.specs.List.{flat_map}
use Rattle.task_code.specs.Code.{Act, Assert, Call, Cell, Code, Copy, Each, Fill, If, Loop, Print, InsertElement, Range, Read, Set, Wait, body, entry, here, loop_of, scalar}
use Rattle.task_code.specs.Compute.{Computed, Elements, EntryFault, Fails, Gives, Inserts, Opens, Takes, TooDeep, Turns, key_scalar}
use Rattle.task_code.specs.Places.{Datum, Place, Step, place_at}
use Rattle.values.specs.declared.key.Key.{Key}
use Rattle.values.specs.declared.key.Key.TheVariants.{Number as number_key}
use Rattle.values.specs.declared.value.Scalar.{Scalar}
use Rattle.values.specs.Limits.{chunk_size, max_path_steps}

-- the task that opens the script, or an entry in an instance of a block; chunk c of a loop begins at turn c times
-- `chunk_size`, and other entries have chunk 0 alone
pub data Task : Type 0 where
  Main : Task
  Item : (entry : ℕ) → (path : List Step) → (chunk : ℕ) → Task

-- the key of a scalar
abbrev pub only : Key
only = number_key (pos 0)

-- the list in chunk 0, empty in all others
abbrev pub at_first : {X : Type 0} → ℕ → List X → List X
at_first zero xs = xs
at_first (suc c) xs = []

-- the remaining turns of a loop at chunk c
abbrev pub left_at : {X : Type 0} → ℕ → List X → List X
left_at zero xs = xs
left_at (suc c) xs = left_at c (drop chunk_size xs)

-- the turns of chunk c: at most `chunk_size`
abbrev pub chunk : {X : Type 0} → ℕ → List X → List X
chunk c xs = take chunk_size (left_at c xs)

-- the list is not empty
abbrev pub is_some_list : {X : Type 0} → List X → Bool
is_some_list [] = false
is_some_list (x ∷ xs) = true

-- a loop's turns
abbrev pub turns_of : Computed → Elements
turns_of (Turns ts) = ts
turns_of _ = []

-- the path extended by one step
abbrev pub step_at : ℕ → Key → List Step → List Step
step_at offset k p = record { offset = offset; key = k } ∷ p

-- the block of an `else`, if there is one
abbrev pub else_instance : Option ℕ → List Step → List (ℕ × List Step)
else_instance None q = []
else_instance (Some b) q = (b, q) ∷ []

-- the block that a condition opens
abbrev pub branch_instances : Computed → ℕ → Option ℕ → ℕ → List Step → List (ℕ × List Step)
branch_instances (Takes true) b d offset p = (b, step_at offset (number_key (pos 0)) p) ∷ []
branch_instances (Takes false) b d offset p = else_instance d (step_at offset (number_key (pos 1)) p)
branch_instances _ b d offset p = []

-- the blocks of turns
abbrev pub turn_instances : Loop → ℕ → List Step → Elements → List (ℕ × List Step)
turn_instances w offset p ts = map (λ (t : Key × Scalar). (w.body, step_at offset t.0 p)) ts

-- the blocks that an entry opens
abbrev pub instances : Act → ℕ → List Step → ℕ → Computed → List (ℕ × List Step)
instances (Cell e) offset p c x = []
instances Read offset p c x = []
instances (Call b rs os) offset p c x = at_first c ((b, step_at offset (number_key (pos 0)) p) ∷ [])
instances (Set r e) offset p c x = []
instances (Fill r es) offset p c x = []
instances (Copy r) offset p c x = []
instances (InsertElement r i e) offset p c x = []
instances (Print e) offset p c x = []
instances (Assert e) offset p c x = []
instances (If e b d) offset p c x = at_first c (branch_instances x b d offset p)
instances (Range l h s w) offset p c x = turn_instances w offset p (chunk c (turns_of x))
instances (Each w) offset p c x = turn_instances w offset p (chunk c (turns_of x))
instances (Wait hs b) offset p c x = at_first c ((b, p) ∷ [])

-- one more item for the remaining turns of a loop, if there are any
abbrev pub rest_if : Bool → ℕ → List Step → ℕ → List (Opening Task Place)
rest_if true i p c = record { makes = []; tasks = Item i p (suc c) ∷ [] } ∷ []
rest_if false i p c = []

-- the rest of a loop, if turns remain
abbrev pub rest : Option Loop → ℕ → List Step → ℕ → Computed → List (Opening Task Place)
rest None i p c x = []
rest (Some w) i p c x = rest_if (is_some_list (left_at (suc c) (turns_of x))) i p c

-- the write of a scalar to a place
abbrev pub stored_at : Place → Computed → List (Write Place Key Scalar)
stored_at d (Fails f) = []
stored_at d (Gives v) = record { place = d; key = only; value = v } ∷ []
stored_at d (Inserts xs) = []
stored_at d (Takes b) = []
stored_at d (Turns ts) = []
stored_at d Opens = []

-- the writes of elements to a place
abbrev pub inserted_at : Place → Computed → List (Write Place Key Scalar)
inserted_at d (Fails f) = []
inserted_at d (Gives v) = []
inserted_at d (Inserts xs) = map (λ (x : Key × Scalar). record { place = d; key = x.0; value = x.1 }) xs
inserted_at d (Takes b) = []
inserted_at d (Turns ts) = []
inserted_at d Opens = []

-- the write of the variable for the key or number of a turn
abbrev pub turn_bound : Option ℕ → List Step → Key → List (Write Place Key Scalar)
turn_bound None q k = []
turn_bound (Some n) q k = record { place = Datum q (scalar n); key = only; value = key_scalar k } ∷ []

-- the writes of the variables of a turn into its block
abbrev pub bound : Loop → ℕ → List Step → Key × Scalar → List (Write Place Key Scalar)
bound w offset p t =
    record { place = Datum (step_at offset t.0 p) (scalar w.value); key = only; value = t.1 } ∷ turn_bound w.turn (step_at offset t.0 p) t.0

-- the lines that an entry prints
abbrev pub prints : Act → Computed → List Scalar
prints (Print e) (Gives v) = v ∷ []
prints _ _ = []

-- the act opens its blocks by a step
abbrev pub steps_on : Act → Bool
steps_on (Call b rs os) = true
steps_on (If e b d) = true
steps_on (Range l h s w) = true
steps_on (Each w) = true
steps_on _ = false

-- the path would exceed the maximum number of steps
abbrev pub is_too_deep : Act → List Step → List (ℕ × List Step) → Bool
is_too_deep a p ss = nat_le max_path_steps (length p) && (steps_on a && is_some_list ss)

-- an effect, or TooDeep in its place
abbrev pub limited : Bool → Effect Task Place Key Scalar → Outcome Task Place Key Scalar EntryFault
limited true e = Bad TooDeep
limited false e = Good e

-- the outcome of an item: its own fault first, then TooDeep
abbrev pub outcome_of : Computed → Bool → Effect Task Place Key Scalar → Outcome Task Place Key Scalar EntryFault
outcome_of (Fails f) b e = Bad f
outcome_of (Gives v) b e = limited b e
outcome_of (Inserts xs) b e = limited b e
outcome_of (Takes t) b e = limited b e
outcome_of (Turns ts) b e = limited b e
outcome_of Opens b e = limited b e

module _ (C : Code) where
  -- the block of a body in the instance of a path: its data and its items
  abbrev pub block : ℕ × List Step → Opening Task Place
  block s = record { makes = map (Datum s.1) (body C s.0).makes; tasks = map (λ j. Item j s.1 0) (body C s.0).entries }

  -- the writes of an entry
  abbrev pub stores : Act → ℕ → ℕ → List Step → ℕ → Computed → List (Write Place Key Scalar)
  stores (Cell e) node offset p c x = stored_at (place_at C p (here (scalar node))) x
  stores Read node offset p c x = stored_at (place_at C p (here (scalar node))) x
  stores (Call b rs os) node offset p c x = []
  stores (Set r e) node offset p c x = stored_at (place_at C p r) x
  stores (Fill r es) node offset p c x = inserted_at (place_at C p r) x
  stores (Copy r) node offset p c x = inserted_at (place_at C p r) x
  stores (InsertElement r i e) node offset p c x = inserted_at (place_at C p r) x
  stores (Print e) node offset p c x = []
  stores (Assert e) node offset p c x = []
  stores (If e b d) node offset p c x = []
  stores (Range l h s w) node offset p c x = flat_map (bound w offset p) (chunk c (turns_of x))
  stores (Each w) node offset p c x = flat_map (bound w offset p) (chunk c (turns_of x))
  stores (Wait hs b) node offset p c x = []

  -- the whole effect of an item with this result
  abbrev pub effect_at : ℕ → List Step → ℕ → Computed → Effect Task Place Key Scalar
  effect_at i p c x =
      let e = entry C i in
      record {
        writes = stores e.act e.node e.offset p c x;
        lines = prints e.act x;
        opens = map block (instances e.act e.offset p c x) ++ rest (loop_of e.act) i p c x;
      }
