-- The other items after the end of an item.
use Rattle.std.specs.List.{list_all}
use Rattle.std.specs.Ordering.{int_eq}
use Rattle.std.specs.Prelude.{◌≡◌, ◌⊎◌, ℕ, zero, suc, ℤ, ◌+◌, ◌≤◌, Bool, true, false, not, ◌&&◌, List, [], ◌∷◌, ◌++◌, map, length, filter, Option, Some, None, nat_lt, if◌then◌else◌, IsPermutation}
use Rattle.dataflow.specs.System.{Distinct, In}
use Rattle.board_history.specs.Ending.{job_kind, job_priority, status_after, with_statuses, missed_first}
use Rattle.board_history.specs.Fields.{Counted, Does, Fields, Frame, Job, Ready, Row, Script, Waiter, Waiting, Want, row_of, slot_at}
use Rattle.board_history.specs.Marking.{kind_eq}
use Rattle.board_history.specs.Needs.{job_missed}
use Rattle.task_code.specs.Code.{Code, Kind, entry}
use Rattle.task_code.specs.Shape.{is_plain}
use Rattle.board_program.specs.Spots.{layout_of}
use Rattle.board_program.specs.Tables.{body_of}
use Rattle.board_data.specs.Wanted.{is_nil}

-- fields with these instances and data, and nothing else
abbrev pub seen : List (Option Frame) → List (Option Counted) → Fields
seen fs cs =
    record {
      frames = fs;
      rows = [];
      cells = cs;
      waiting = [];
      turns = λ n. None;
      queue = λ k z. [];
      lines = [];
      fault = None;
      running = 0;
      newly = [];
    }

-- the `count` numbers that follow the first ones
abbrev pub numbers_behind : (first count : ℕ) → List ℕ
numbers_behind first zero = []
numbers_behind first (suc n) = numbers_behind first n ++ (first + suc n) ∷ []

module _ (C : Code) where
  -- the instance of the job's entry exists, and its body has the entry
  abbrev pub IsSeen : List (Option Frame) → Job → Type 0
  IsSeen fs Script = Unit {0}
  IsSeen fs (Does k e c) = (f : Frame) × (slot_at fs k ≡ Some f) × (body_of C e ≡ f.body)

  -- the number of inputs for which the item of a job may wait
  abbrev pub needs_of : Job → ℕ
  needs_of Script = 0
  needs_of (Does k e c) = length (entry C e).needs

  -- the job needs only scalars and closed arrays
  abbrev pub is_plain_job : Job → Bool
  is_plain_job Script = true
  is_plain_job (Does k e c) = list_all is_plain (entry C e).needs

  -- the same number for a new item; one for the rest of a loop waits for nothing
  abbrev pub first_needs : Job → ℕ
  first_needs Script = 0
  first_needs (Does k e zero) = length (entry C e).needs
  first_needs (Does k e (suc c)) = 0

  -- the job of a row has this kind and this priority
  abbrev pub runs_so : Kind → ℤ → Option Row → Bool
  runs_so k z None = false
  runs_so k z (Some r) = kind_eq (job_kind C r.job) k && int_eq (job_priority C r.job) z

  module _ (fs : List (Option Frame)) (cs : List (Option Counted)) where
    -- the inputs that the item of a job misses, and those of a new one
    abbrev pub misses : Job → List (Want ℕ)
    misses j = job_missed C (layout_of C) (seen fs cs) j

    abbrev pub misses_first : Job → List (Want ℕ)
    misses_first j = missed_first C (layout_of C) (seen fs cs) j

    -- a woken item misses nothing, or needs an element and may wait for at most two inputs
    abbrev pub IsShort : Job → Type 0
    IsShort j = ((needs_of j ≤ 2) × (is_plain_job j ≡ false)) ⊎ (misses j ≡ [])

    module _ (rows : List Row) (first : ℕ) where
      -- the inputs that the item of a row misses: rows up to `first` are old, the others are new
      abbrev pub row_misses : ℕ → Option Row → List (Want ℕ)
      row_misses m None = []
      row_misses m (Some r) = if nat_lt first m then misses_first r.job else misses r.job

      abbrev pub missed_at : ℕ → List (Want ℕ)
      missed_at m = row_misses m (row_of rows m)

      abbrev pub can_begin : ℕ → Bool
      can_begin m = is_nil (missed_at m)

      abbrev pub waiter_at : ℕ → Waiter
      waiter_at m = record { item = m; missing = missed_at m }

      -- the items of these numbers were settled: those that miss nothing are ready and in the queue, the others wait;
      -- the item that ended is over
      pub record AreSettled (number : ℕ) (before : List Waiter) (queued : Kind → ℤ → List ℕ) (done : List ℕ) (new : List Row) (waiting : List Waiter) (queue : Kind → ℤ → List ℕ) (newly : List ℕ) : Type 0 where
        pub rows_are : new ≡ with_statuses (status_after number newly) 1 rows
        pub newly_are : IsPermutation (filter can_begin done) newly
        pub waits : IsPermutation (before ++ map waiter_at (filter (λ m. not (can_begin m)) done)) waiting
        pub queue_is : (k : Kind) (z : ℤ) → IsPermutation (queued k z ++ filter (λ m. runs_so k z (row_of rows m)) (filter can_begin done)) (queue k z)

      -- the items of these numbers wait, and each is settled once; none of them is the one that ended
      pub record AreToSettle (number : ℕ) (ms : List ℕ) : Type 0 where
        pub waits : (m : ℕ) → In m ms → (r : Row) × (row_of rows m ≡ Some r) × (r.status ≡ Waiting)
        pub seen_job : (m : ℕ) (r : Row) → In m ms → row_of rows m ≡ Some r → IsSeen fs r.job
        pub others : (m : ℕ) → In m ms → m ≡ number → ⊥
        pub once : Distinct ms

      -- each item of these numbers misses nothing, or needs an element and may wait for at most two inputs
      abbrev pub AreShort : List ℕ → Type 0
      AreShort ms = (m : ℕ) (r : Row) → In m ms → row_of rows m ≡ Some r → IsShort r.job

-- consistent rows, waiting items and queue: exactly the items marked as waiting wait, once, and exactly those marked as
-- ready are in the queue
pub record ItemsFit (F : Fields) : Type 0 where
  pub waits : (m : ℕ) (r : Row) → row_of F.rows m ≡ Some r → r.status ≡ Waiting → (w : Waiter) × In w F.waiting × (w.item ≡ m)
  pub waiting : (w : Waiter) → In w F.waiting → (w.missing ≡ [] → ⊥) × ((r : Row) × (row_of F.rows w.item ≡ Some r) × (r.status ≡ Waiting))
  pub once : Distinct (map (λ (w : Waiter). w.item) F.waiting)
  pub queued : (k : Kind) (z : ℤ) (m : ℕ) → In m (F.queue k z) → (r : Row) × (row_of F.rows m ≡ Some r) × (r.status ≡ Ready)
  pub queued_once : (k : Kind) (z : ℤ) → Distinct (F.queue k z)
