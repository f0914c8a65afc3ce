-- Waiting items, and the effect of an input on them.
use Rattle.std.specs.Prelude.{◌≡◌, max, ℕ, ◌+◌, ◌<◌, ◌≤◌, ◌==◌, Bool, false, not, if◌then◌else◌, List, [], ◌∷◌, ◌++◌, length, filter, map, filter_map, Option, Some, None, IsPermutation}
use Rattle.std.specs.List.{AllByRecursion}
use Rattle.rules.specs.declared.input.Input.{Input}
use Rattle.rules.specs.Inputs.{covers}

-- an item with the inputs that it still misses
pub record Waiting : Type 0 where
  pub item : ℕ
  pub missing : List Input

-- the waiting items, in some order, and the number of further items that are sure to find room
pub record Listing : Type 0 where
  pub waiting : List Waiting
  pub room : ℕ

-- no item waits, and no room is promised
abbrev pub empty : Listing
empty = record { waiting = []; room = 0 }

-- the item without the missing inputs that the input covers
abbrev pub with_known : Input → Waiting → Waiting
with_known i w = record w { missing = filter (λ j. not (covers i j)) w.missing }

-- no input is missing
abbrev pub is_ready : Waiting → Bool
is_ready w = length w.missing == 0

-- each of the items misses some input
abbrev pub EachMisses : List Waiting → Type 0
EachMisses ws = AllByRecursion (λ w. is_ready w ≡ false) ws

-- a waiting item after the input is known: none if this was its last missing input
abbrev pub after_known : Input → Waiting → Option Waiting
after_known i w = if is_ready (with_known i w) then None else Some (with_known i w)

-- the items that still wait after the input is known, each without what is known now
abbrev pub still_waiting : Input → List Waiting → List Waiting
still_waiting i ws = filter_map (after_known i) ws

-- the items whose last missing input this was
abbrev pub woken : Input → List Waiting → List ℕ
woken i ws = map (λ w. w.item) (filter (λ w. is_ready (with_known i w)) ws)

-- the items but for those with this number
abbrev pub without_item : ℕ → List Waiting → List Waiting
without_item x ws = filter (λ w. not (w.item == x)) ws

-- a list was extended by these items, in some order
pub record IsListed (items old new : List ℕ) : Type 0 where
  pub said : List ℕ
  pub is : new ≡ old ++ said
  pub all : IsPermutation items said

-- one more item waits, and uses one place of the room, if there was any
pub record IsAdded (old new : Listing) (w : Waiting) : Type 0 where
  pub waiting : IsPermutation (w ∷ old.waiting) new.waiting
  pub room : old.room ≤ new.room + 1
  pub had_room : 0 < old.room → new.room + 1 ≡ old.room

-- the same items, with room for at least n
abbrev pub with_room : ℕ → Listing → Listing
with_room n l = record l { room = max l.room n }

-- each item that left has released its place
abbrev pub GivesRoomBack : Listing → Listing → Type 0
GivesRoomBack old new = new.room + length new.waiting ≡ old.room + length old.waiting
