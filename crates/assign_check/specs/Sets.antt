-- Sets of numbers, and the numbers of assignments to a variable in parts of a block.
use Rattle.std.specs.Prelude.{◌≡◌, ℕ, ◌+◌, Bool, false, ◌&&◌, ◌||◌, cond, nat_eq, List, [], ◌∷◌, map, Option, Some, None, Vec, slice_get, get_or}
use Rattle.std.specs.Global.{Global}
use Rattle.language.specs.Core.{Owned, local, input, output}
use Rattle.language.specs.Members.{◌∈◌}
use Rattle.types.specs.Typed.{owned_name}
use Rattle.assign_check.specs.declared.counts.count.BranchCounts.{BranchCounts}
use Rattle.assign_check.specs.declared.counts.count.AssignCounts.{AssignCounts}
use Rattle.assign_check.specs.declared.counts.sets.CountSets.{CountSets}
use Rattle.assign_check.specs.Faults.{same, is_before, sums, has_more}

-- SETS

-- a bit vector has each number at which it is true; an empty one has the number 0 alone
abbrev pub has : List Bool → ℕ → Bool
has [] n = nat_eq n 0
has (b ∷ bs) n = get_or (b ∷ bs) n false

-- the indices at which a list is true, counted from k
abbrev pub numbers_from : ℕ → List Bool → List ℕ
numbers_from k [] = []
numbers_from k (b ∷ bs) = cond b (k ∷ numbers_from (k + 1) bs) (numbers_from (k + 1) bs)

abbrev pub numbers : List Bool → List ℕ
numbers [] = 0 ∷ []
numbers (b ∷ bs) = numbers_from 0 (b ∷ bs)

-- two lists with the same numbers
pub record Same (ms ns : List ℕ) : Type 0 where
  pub to : (n : ℕ) → n ∈ ms → n ∈ ns
  pub back : (n : ℕ) → n ∈ ns → n ∈ ms

-- one of two sets has a number that the other does not have
abbrev pub differ : List ℕ → List ℕ → Bool
differ ms ns = has_more ms ns || has_more ns ms

-- A SET FOR EACH VARIABLE

abbrev pub items_or : Option (Vec Bool Global) → List Bool
items_or None = []
items_or (Some v) = v.items

abbrev pub set_in : List (Vec Bool Global) → ℕ → List Bool
set_in vs n = items_or (slice_get vs n)

abbrev pub set_at : CountSets → Owned → List Bool
set_at s (local n) = set_in s.locals.items n
set_at s (input i) = set_in s.inputs.items i
set_at s (output i) = set_in s.outputs.items i

-- no variable has a set
abbrev pub are_empty : BranchCounts → Type 0
are_empty b = (x : Owned) → (set_at b.one x ≡ []) × (set_at b.other x ≡ [])

-- PARTS OF A BLOCK

-- the variables of the parts
abbrev pub names : List AssignCounts → List Owned
names ps = map (λ p. owned_name p.of) ps

-- the numbers of assignments to a variable by all parts together
abbrev pub part_sums : Owned → List AssignCounts → List ℕ
part_sums x [] = 0 ∷ []
part_sums x (p ∷ ps) = cond (same (owned_name p.of) x) (sums (numbers p.set.items) (part_sums x ps)) (part_sums x ps)

-- a variable that is declared before statement n has different sets in the two tables
abbrev pub is_apart : ℕ → CountSets → CountSets → Owned → Bool
is_apart n one other x = is_before n x && differ (numbers (set_at one x)) (numbers (set_at other x))

-- a variable that is declared before statement n has different numbers of assignments in the two branches
abbrev pub parts_apart : ℕ → List AssignCounts → List AssignCounts → Owned → Bool
parts_apart n ps qs x = is_before n x && differ (part_sums x ps) (part_sums x qs)
