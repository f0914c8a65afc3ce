-- The guarantees for every state that a run reaches.
use Rattle.std.specs.List.Sorted.{IsPermutation}
use Rattle.std.specs.Prelude.{◌⊎◌, ◌≡◌, ℕ, ◌<◌, false, List, [], ◌∷◌, ◌++◌, map, None, Some, suc, length}
use Rattle.dataflow.specs.System.{In, Distinct, Input, Answer, Write, Effect, Good, System}
use Rattle.dataflow.specs.Facts.{Live, Written, Closed, Known, Ever, Faulty, Clean, EverGiven}
use Rattle.dataflow.specs.Machine.{Item, State, Fault, OfTask, Begin, End, Back, ClosedByRights, Free, Holds, IsKnown, Enabled, SeesAll, Step}
use Rattle.dataflow.specs.Events.{CanBegin, RunsOn}

module _ {T D K V E : Type 0} (S : System T D K V E) where
  -- the lines that these facts print; the latest fact is first in the list
  abbrev pub lines_of : List (T × Effect T D K V) → List V
  lines_of [] = []
  lines_of (p ∷ log) = lines_of log ++ p.1.lines

  -- the tasks of these facts
  abbrev pub tasks_in_log : List (T × Effect T D K V) → List T
  tasks_in_log log = map (λ (p : T × Effect T D K V). p.0) log

  -- the tasks of these items
  abbrev pub tasks_in_items : List (Item T) → List T
  tasks_in_items items = map (λ (i : Item T). i.task) items

  -- the numbers of these items
  abbrev pub numbers_of : List (Item T) → List ℕ
  numbers_of items = map (λ (i : Item T). i.number) items

  -- some lines of the meaning: those of some facts, without duplicates
  pub record IsPartOfLines (xs : List V) : Type 0 where
    pub facts : List (T × Effect T D K V)
    pub once : Distinct (tasks_in_log facts)
    pub known : (t : T) (e : Effect T D K V) → In (t, e) facts → Ever S t e
    pub is : xs ≡ lines_of facts

  -- all lines of the meaning: those of all facts, without duplicates
  pub record IsAllLines (xs : List V) : Type 0 where
    pub facts : List (T × Effect T D K V)
    pub once : Distinct (tasks_in_log facts)
    pub known : (t : T) (e : Effect T D K V) → In (t, e) facts → Ever S t e
    pub all : (t : T) (e : Effect T D K V) → Ever S t e → In (t, e) facts
    pub is : xs ≡ lines_of facts

  -- what is stored, closed, printed and reported is part of the meaning after some round
  pub record Agrees (s : State T D K V E) : Type 0 where
    pub round : ℕ
    pub stored : (w : Write D K V) → In w s.stored → Written S (Known S round) w.place w.key w.value
    pub closed : (a : D) → ClosedByRights S s a → Closed S (Known S round) a
    pub items : (i : Item T) → In i s.items → Live S (Known S round) i.task
    pub lines : IsPartOfLines s.lines
    -- a fault is the task's own and a fault of the meaning; no element is ever written twice
    pub fault : (t : T) (f : Fault E) → s.fault ≡ Some (t, f) → (own : E) × (f ≡ OfTask own) × Faulty S t own
    -- all items made so far are different live tasks
    pub made : List T
    pub made_once : Distinct made
    pub made_all : s.next ≡ suc (length made)
    pub made_live : (t : T) → In t made → Live S (Known S round) t

  -- the state has the whole meaning: it is clean and without fault, and all lines are printed; the remaining items are
  -- the live tasks that never have a fact
  pub record Complete (s : State T D K V E) : Type 0 where
    pub clean : Clean S
    pub no_fault : (t : T) (f : E) → Faulty S t f → ⊥
    pub lines : IsAllLines s.lines
    pub blocked_live : (i : Item T) → In i s.items → (n : ℕ) × Live S (Known S n) i.task
    pub blocked_never : (i : Item T) → In i s.items → (e : Effect T D K V) → Ever S i.task e → ⊥
    -- the known inputs of these items are those that are known in the meaning
    pub blocked_known : (i : Item T) (n : Input D K) → In i s.items → In n (S.inputs i.task) → IsKnown S s n → EverGiven S n
    pub blocked_unknown : (i : Item T) (n : Input D K) → In i s.items → In n (S.inputs i.task) → EverGiven S n → IsKnown S s n
    pub blocked_all : (n : ℕ) (t : T) → Live S (Known S n) t → ((e : Effect T D K V) → Ever S t e → ⊥) → In t (tasks_in_items s.items)

  -- the machine is never stuck, and has each item once
  pub record GoesOn (s : State T D K V E) : Type 0 where
    -- without a fault, a running item can end
    pub ends : (i : Item T) (w : ℕ) → s.fault ≡ None → In i s.items → i.runs ≡ Some w → (new : State T D K V E) × Step S s (End w i.number) new
    -- without a fault, an enabled item that does not run can begin
    pub begins : (i : Item T) (w : ℕ) → s.fault ≡ None → In i s.items → i.runs ≡ None → Enabled S s i.task → (new : State T D K V E) × Step S s (Begin w i.number) new
    -- no enabled item would write a scalar that has a value
    pub unset : (i : Item T) (xs : List (Answer K V)) (e : Effect T D K V) → In i s.items → SeesAll S s (S.inputs i.task) xs → S.effect i.task xs ≡ Good e → (d : D) (k : K) (v u : V) → S.is_array d ≡ false → In (record { place = d; key = k; value = v }) e.writes → Holds S s d k u → ⊥
    -- no enabled item would write an element into a closed array
    pub still_open : (i : Item T) (xs : List (Answer K V)) (e : Effect T D K V) → In i s.items → SeesAll S s (S.inputs i.task) xs → S.effect i.task xs ≡ Good e → (w : Write D K V) → In w e.writes → ClosedByRights S s w.place → ⊥
    -- no two items have the same task or the same number
    pub once : Distinct (tasks_in_items s.items)
    pub one_number : Distinct (numbers_of s.items)
    pub below_next : (i : Item T) → In i s.items → i.number < s.next

  -- exactly these events have a step while no fault is recorded: Begin of an enabled item that does not run; End and
  -- Back of an item that runs on that worker
  pub record HasSteps (s : State T D K V E) : Type 0 where
    pub begin : (w n : ℕ) → s.fault ≡ None → CanBegin S s n → (new : State T D K V E) × Step S s (Begin w n) new
    pub begin_only : (w n : ℕ) (new : State T D K V E) → Step S s (Begin w n) new → (s.fault ≡ None) × CanBegin S s n
    pub end : (w n : ℕ) → s.fault ≡ None → RunsOn S s w n → (new : State T D K V E) × Step S s (End w n) new
    pub end_only : (w n : ℕ) (new : State T D K V E) → Step S s (End w n) new → (s.fault ≡ None) × RunsOn S s w n
    pub back : (w n : ℕ) → s.fault ≡ None → RunsOn S s w n → (new : State T D K V E) × Step S s (Back w n) new
    pub back_only : (w n : ℕ) (new : State T D K V E) → Step S s (Back w n) new → (s.fault ≡ None) × RunsOn S s w n

  -- two final states are equivalent: they have the same lines up to their order and the same remaining tasks; what one
  -- has stored the other has too, unless it is free there
  pub record SameEnd (s t : State T D K V E) : Type 0 where
    pub lines : IsPermutation s.lines t.lines
    pub blocked : (u : T) → In u (tasks_in_items s.items) → In u (tasks_in_items t.items)
    pub places : (a : D) → In a s.places → In a t.places ⊎ Free S t a
    pub stored : (w : Write D K V) → In w s.stored → In w t.stored ⊎ Free S t w.place
