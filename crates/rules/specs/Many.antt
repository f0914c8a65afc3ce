-- The inputs of an item that misses more than two, and their index.
use Rattle.std.specs.Prelude.{◌≡◌, ◌⊎◌, ℕ, suc, ◌<◌, Bool, true, false, if◌then◌else◌, List, [], ◌∷◌, length, replicate, Option, Some, None, slice_index_or}
use Rattle.std.specs.declared.boxed.Box.{Box}
use Rattle.rules.specs.declared.input.Input.{Input}
use Rattle.rules.specs.declared.input.Input.TheVariants.{Whole}
use Rattle.rules.specs.declared.many_inputs.InputIndex.{InputIndex}
use Rattle.rules.specs.declared.subscribers.SlotNote.{SlotNote}
use Rattle.rules.specs.Inputs.{covers}
use Rattle.rules.specs.Places.{IsAt, is_at}

-- the input at this index of a list
abbrev pub input_at : List Input → ℕ → Input
input_at inputs k = slice_index_or inputs k (Whole 0)

-- the input at this index is known
abbrev pub is_known : InputIndex → ℕ → Bool
is_known index k = slice_index_or index.known.items k false

-- the inputs of a list that are not known, in order
abbrev pub left_of : List Input → (ℕ → Bool) → List Input
left_of [] known = []
left_of (i ∷ rest) known = if known 0 then left_of rest (λ k. known (suc k)) else i ∷ left_of rest (λ k. known (suc k))

-- the contents of the box, if there is one
abbrev pub index_in : {A : Type 0} → Option (Box InputIndex A) → Option InputIndex
index_in None = None
index_in (Some index) = Some index.value

-- there is an index in which the input at this place is known
abbrev pub known_in : Option InputIndex → ℕ → Bool
known_in None k = false
known_in (Some index) k = is_known index k

-- the missing inputs of a list: all, or with an index those that are not known
abbrev pub left_in : List Input → Option InputIndex → List Input
left_in inputs None = inputs
left_in inputs (Some index) = left_of inputs (is_known index)

-- each index of the list is noted at all addresses of the input there
abbrev pub AreNoted : List Input → List SlotNote → Type 0
AreNoted inputs notes = (k : ℕ) → k < length inputs → (a : ℕ) → is_at a (input_at inputs k) ≡ true → IsAt notes a k

-- the input recorded last, if any, covers this one
abbrev pub knows : Option Input → Input → Bool
knows None i = false
knows (Some last) i = covers last i

-- The index records which inputs are known and how many are not, and finds each. All inputs covered by the one recorded
-- last are known.
pub record IsIndexed (inputs : List Input) (index : InputIndex) : Type 0 where
  pub size : length index.known.items ≡ length inputs
  pub left : index.left ≡ length (left_of inputs (is_known index))
  pub noted : AreNoted inputs index.places.notes
  pub last : (k : ℕ) → k < length inputs → knows index.last (input_at inputs k) ≡ true → is_known index k ≡ true

-- an index of inputs none of which is known
pub record IsFresh (inputs : List Input) (index : InputIndex) : Type 0 where
  pub known : index.known.items ≡ replicate (length inputs) false
  pub left : index.left ≡ length inputs
  pub last : index.last ≡ None
  pub noted : AreNoted inputs index.places.notes

-- some inputs that the input covers have become known, and the missing ones are counted
pub record Marks (i : Input) (inputs : List Input) (old new : InputIndex) : Type 0 where
  pub places : new.places ≡ old.places
  pub size : length new.known.items ≡ length old.known.items
  pub left : new.left ≡ length (left_of inputs (is_known new))
  pub kept : (k : ℕ) → is_known old k ≡ true → is_known new k ≡ true
  pub only : (k : ℕ) → is_known new k ≡ true → (is_known old k ≡ true) ⊎ (covers i (input_at inputs k) ≡ true)
