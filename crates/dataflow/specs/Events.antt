-- Counts over a list of events: those of a worker, those that give an item back, and the items that they enable.
use Rattle.std.specs.Prelude.{◌≡◌, ℕ, suc, ◌+◌, nat_eq, if◌then◌else◌, List, [], ◌∷◌, length, None, Some}
use Rattle.dataflow.specs.System.{In, Distinct, System}
use Rattle.dataflow.specs.Machine.{Item, State, Event, Begin, End, Back, Enabled, Step, start}

-- the worker of an event
abbrev pub worker_of : Event → ℕ
worker_of (Begin w n) = w
worker_of (End w n) = w
worker_of (Back w n) = w

-- number of events of the worker
abbrev pub tally : List Event → ℕ → ℕ
tally [] w = 0
tally (e ∷ es) w = (if nat_eq (worker_of e) w then 1 else 0) + tally es w

-- number of events that give an item back
abbrev pub backs : List Event → ℕ
backs [] = 0
backs (Begin w n ∷ es) = backs es
backs (End w n ∷ es) = backs es
backs (Back w n ∷ es) = suc (backs es)

module _ {T D K V E : Type 0} (S : System T D K V E) where
  -- an item of this number is enabled and does not run
  pub record CanBegin (s : State T D K V E) (number : ℕ) : Type 0 where
    pub item : Item T
    pub there : In item s.items
    pub number_is : item.number ≡ number
    pub idle : item.runs ≡ None
    pub enabled : Enabled S s item.task

  -- an item of this number runs on the worker
  pub record RunsOn (s : State T D K V E) (worker number : ℕ) : Type 0 where
    pub item : Item T
    pub there : In item s.items
    pub number_is : item.number ≡ number
    pub runs : item.runs ≡ Some worker

  -- the items that can begin after a step and could not before, without duplicates
  pub record NewlyAt (old new : State T D K V E) (numbers : List ℕ) : Type 0 where
    pub once : Distinct numbers
    pub all : (n : ℕ) → CanBegin new n → (CanBegin old n → ⊥) → In n numbers
    pub can : (n : ℕ) → In n numbers → CanBegin new n
    pub could_not : (n : ℕ) → In n numbers → CanBegin old n → ⊥

  -- the total number of these items along the steps of these events
  abbrev pub NewlyAlong : State T D K V E → List Event → ℕ → Type 0
  NewlyAlong old [] n = n ≡ 0
  NewlyAlong old (e ∷ es) n = (new : State T D K V E) × Step S old e new × ((numbers : List ℕ) × NewlyAt old new numbers × ((m : ℕ) × NewlyAlong new es m × (n ≡ length numbers + m)))

  -- number of times that, in a run of these events, an item can begin after an event and could not before
  abbrev pub Newly : List Event → ℕ → Type 0
  Newly events n = NewlyAlong (start S) events n
