-- The log of a run: the effects of its items, derived from the steps.
use Rattle.std.specs.Prelude.{◌≡◌, suc, ◌+◌, List, [], ◌∷◌, ◌++◌, length}
use Rattle.std.proofs.Common.{inl, inr}
use Rattle.dataflow.specs.System.{In, Distinct, Effect, Outcome, Good, Bad, System}
use Rattle.dataflow.specs.Log.{Waits, IsLog}
use Rattle.dataflow.specs.Promises.{lines_of, tasks_in_log, tasks_in_items}
use Rattle.dataflow.specs.Machine.{Item, State, Event, Begin, End, Back, After, Step, Steps, Run, start}

module _ {T D K V E : Type 0} (S : System T D K V E) where
  -- the log after an End: the effect of the item is added; a fault adds nothing
  abbrev pub log_after : (old : State T D K V E) (t : T) (others : List (Item T)) (r : Outcome T D K V E) (new : State T D K V E) → After S old t others r new → List (T × Effect T D K V) → List (T × Effect T D K V)
  log_after old t others (Bad f) new x log = log
  log_after old t others (Good e) new (inl x) log = log
  log_after old t others (Good e) new (inr x) log = (t, e) ∷ log

  -- the log after one step; Begin and Back add nothing
  abbrev pub log_of_step : (old : State T D K V E) (event : Event) (new : State T D K V E) → Step S old event new → List (T × Effect T D K V) → List (T × Effect T D K V)
  log_of_step old (Begin w n) new x log = log
  log_of_step old (Back w n) new x log = log
  log_of_step old (End w n) new x log = log_after old x.1.item.task (x.1.before ++ x.1.after) (S.effect x.1.item.task x.1.answers) new x.1.result log

  -- the log after several steps
  abbrev pub log_of_steps : (old : State T D K V E) (events : List Event) (new : State T D K V E) → Steps S old events new → List (T × Effect T D K V) → List (T × Effect T D K V)
  log_of_steps old [] new x log = log
  log_of_steps old (e ∷ es) new x log = log_of_steps x.0 es new x.2 (log_of_step old e x.0 x.1 log)

  -- the log of a run
  abbrev pub log_of : (events : List Event) (s : State T D K V E) → Run S events s → List (T × Effect T D K V)
  log_of events s run = log_of_steps (start S) events s run []

  -- the relation between a log and the state that it leads to
  pub record LeadsTo (log : List (T × Effect T D K V)) (s : State T D K V E) : Type 0 where
    -- the log is possible
    pub is_log : IsLog S log
    -- each item but the remaining ones has ended
    pub count : s.next ≡ suc (length log + length s.items)
    -- the lines are those that the log prints
    pub lines : s.lines ≡ lines_of S log
    -- no task was opened twice: ended and remaining tasks are all different
    pub once : Distinct (tasks_in_log S log ++ tasks_in_items S s.items)
    -- the remaining items are the tasks that wait after the log
    pub waits : (i : Item T) → In i s.items → Waits S log i.task
    pub has : (t : T) → Waits S log t → In t (tasks_in_items S s.items)
