-- Lists of entries in the order in which they are taken.
use Rattle.std.specs.Prelude.{◌≡◌, ◌≤◌, ◌<ℤ◌, ◌⊎◌, All, Contains, ℕ, ℤ, Bool, false, cond, Option, Some, None, ◌||◌, List, [], ◌∷◌}
use Rattle.std.specs.List.{AllByRecursion}
use Rattle.std.specs.List.Sorted.{IsSortedByKey}
use Rattle.work_queue.specs.declared.entry.QueueEntry.{QueueEntry}
use Rattle.work_queue.specs.declared.entry.Kind.{Kind}
use Rattle.work_queue.specs.Order.{order, precedes, same}

-- none of these entries is taken before x
abbrev pub IsFirst : QueueEntry → List QueueEntry → Type 0
IsFirst x ys = AllByRecursion (λ y. precedes y x ≡ false) ys

-- no entry follows one that is taken after it
abbrev pub IsInOrder : List QueueEntry → Type 0
IsInOrder [] = Unit {0}
IsInOrder (x ∷ xs) = IsFirst x xs × IsInOrder xs

-- the entries with x inserted in order, after any equal ones
abbrev pub inserted : QueueEntry → List QueueEntry → List QueueEntry
inserted x [] = x ∷ []
inserted x (y ∷ ys) = cond (precedes x y) (x ∷ y ∷ ys) (y ∷ inserted x ys)

-- the entries without the first occurrence of x
abbrev pub erased : QueueEntry → List QueueEntry → List QueueEntry
erased x [] = []
erased x (y ∷ ys) = cond (same x y) ys (y ∷ erased x ys)

-- x is one of the entries
abbrev pub holds : QueueEntry → List QueueEntry → Bool
holds x [] = false
holds x (y ∷ ys) = same x y || holds x ys

-- the entry that is taken first
abbrev pub first_of : List QueueEntry → Option QueueEntry
first_of [] = None
first_of (x ∷ xs) = Some x

-- the item of a list of both kinds for an entry of this kind
abbrev pub listed : Kind → QueueEntry → Kind × ℤ × ℕ
listed kind e = (kind, e.priority, e.no)

-- x is taken no later than y: it has a greater priority, or the same one and no greater number
abbrev pub ComesNoLater : QueueEntry → QueueEntry → Type 0
ComesNoLater x y = (y.priority <ℤ x.priority) ⊎ ((x.priority ≡ y.priority) × (x.no ≤ y.no))

-- x is one of the entries, and is taken no later than each of them
abbrev pub IsForemost : QueueEntry → List QueueEntry → Type 0
IsForemost x xs = Contains xs x × All (ComesNoLater x) xs

-- an entry with this number is the foremost
abbrev pub IsTakenFirst : ℕ → List QueueEntry → Type 0
IsTakenFirst n xs = (x : QueueEntry) × (x.no ≡ n) × IsForemost x xs

-- the number of the entry that is taken first
abbrev pub first_number : List QueueEntry → Option ℕ
first_number [] = None
first_number (x ∷ xs) = Some x.no

-- the entry of an item of a list of both kinds
abbrev pub entry_of : Kind × ℤ × ℕ → QueueEntry
entry_of l = record { priority = l.1; no = l.2 }

-- no item of the list is taken before the previous one, whatever their kinds
abbrev pub IsListedInOrder : List (Kind × ℤ × ℕ) → Type 0
IsListedInOrder ls = IsSortedByKey entry_of order ls
