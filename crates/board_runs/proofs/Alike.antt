-- States to which one list of events leads: they can go on alike, and they are quiet alike.
use Rattle.std.proofs.Common.{◌≡◌, ◌∙◌, sym, subst, ℕ, List, None}
use Rattle.dataflow.specs.Events.{CanBegin, RunsOn}
use Rattle.dataflow.specs.History.{log_of}
use Rattle.dataflow.specs.Laws.{Laws}
use Rattle.dataflow.specs.Machine.{Back, Begin, End, Event}
use Rattle.dataflow.specs.Promises.{HasSteps}
use Rattle.dataflow.specs.System.{In}
use Rattle.dataflow.proofs.Determined.{run_determined}
use Rattle.dataflow.proofs.Follows.{Follows, reads_enabled, sees_enabled}
use Rattle.dataflow.proofs.Headline.{complete, goes_on}
use Rattle.dataflow.proofs.Known.{sees, sees_only}
use Rattle.dataflow.proofs.Numbers.{run_numbered}
use Rattle.dataflow.proofs.Possible.{has_steps}
use Rattle.dataflow.proofs.Steps.{run_follows}
use Rattle.task_code.specs.Code.{Code}
use Rattle.task_code.specs.Machine.{CodeItem, CodeLog, CodeState, CodeStep, Enabled, Quiet, Run}
use Rattle.task_code.specs.Places.{Step}
use Rattle.task_code.specs.Runs.{Blocked}
use Rattle.task_code.specs.System.{code_system}
use Rattle.task_code.specs.Whole.{IsCode}
use Rattle.task_code.proofs.Blocks.{blocked_here, ever_blocked}
use Rattle.task_code.proofs.Kept.{code_laws}

module _ (C : Code) (whole : IsCode C) where
  abbrev laws : Laws (code_system C)
  laws = code_laws C whole

  follows : (es : List Event) (s : CodeState) (x : Run C es s) → Follows (code_system C) s (log_of (code_system C) es s x)
  follows es s x = run_follows (code_system C) laws es s x

  -- an item that is enabled in one is in the other
  enabled_too : (es : List Event) (s t : CodeState) → Run C es s → Run C es t → (i : CodeItem) → In i s.items → Enabled C s i.task → Enabled C t i.task
  enabled_too es s t x y i here enabled =
      let log = log_of (code_system C) es s x in
      let f = follows es s x in
      let same = run_determined (code_system C) laws es s t x y in
      let g : Follows (code_system C) t log = subst (λ (l : CodeLog). Follows (code_system C) t l) (sym same.log_is) (follows es t y) in
      let waits = f.items.waits i here in
      let xs = sees (code_system C) laws s log f i.task enabled in
      let read = reads_enabled (code_system C) laws s log f i.task waits xs.0 xs.1 in
      sees_only (code_system C) laws t log g i.task xs.0 (sees_enabled (code_system C) laws t log g i.task waits xs.0 read)

  -- what is among the items of one is among those of the other
  item_too : (es : List Event) (s t : CodeState) → Run C es s → Run C es t → (i : CodeItem) → In i s.items → In i t.items
  item_too es s t x y i here = subst (λ (is : List CodeItem). In i is) (run_determined (code_system C) laws es s t x y).same.items here

  no_fault_too : (es : List Event) (s t : CodeState) → Run C es s → Run C es t → s.fault ≡ None → t.fault ≡ None
  no_fault_too es s t x y none = sym (run_determined (code_system C) laws es s t x y).same.fault ∙ none

  pub quiet_too : (es : List Event) (s t : CodeState) → Run C es s → Run C es t → Quiet C s → Quiet C t
  quiet_too es s t x y q = record {
    no_fault = no_fault_too es s t x y q.no_fault;
    idle = λ i here. q.idle i (item_too es t s y x i here);
    none_enabled = λ i here enabled. q.none_enabled i (item_too es t s y x i here) (enabled_too es t s y x i here enabled);
  }

  -- and then the same statements are blocked
  pub blocked_too : (es : List Event) (s t : CodeState) → Run C es s → Run C es t → Quiet C s → (at : ℕ) (path : List Step) → Blocked C s at path → Blocked C t at path
  blocked_too es s t x y q at path b =
      blocked_here C whole t (complete (code_system C) laws t (log_of (code_system C) es t y) (follows es t y) (quiet_too es s t x y q)) at path
      (ever_blocked C whole s (complete (code_system C) laws s (log_of (code_system C) es s x) (follows es s x) q) at path b)

  steps_of : (es : List Event) (s : CodeState) → Run C es s → HasSteps (code_system C) s
  steps_of es s x = has_steps (code_system C) laws s (goes_on (code_system C) laws s (log_of (code_system C) es s x) (follows es s x) (run_numbered (code_system C) es s x))

  runs_too : (es : List Event) (s t : CodeState) → Run C es s → Run C es t → (w n : ℕ) → RunsOn (code_system C) s w n → RunsOn (code_system C) t w n
  runs_too es s t x y w n r = record { item = r.item; there = item_too es s t x y r.item r.there; number_is = r.number_is; runs = r.runs }

  can_begin_too : (es : List Event) (s t : CodeState) → Run C es s → Run C es t → (n : ℕ) → CanBegin (code_system C) s n → CanBegin (code_system C) t n
  can_begin_too es s t x y n c = record {
    item = c.item;
    there = item_too es s t x y c.item c.there;
    number_is = c.number_is;
    idle = c.idle;
    enabled = enabled_too es s t x y c.item c.there c.enabled;
  }

  -- an event that has a step from one has a step from the other
  pub step_too : (es : List Event) (s t : CodeState) → Run C es s → Run C es t → (e : Event) (new : CodeState) → CodeStep C s e new → (other : CodeState) × CodeStep C t e other
  step_too es s t x y (Begin w n) new z =
      let only = (steps_of es s x).begin_only w n new z in
      (steps_of es t y).begin w n (no_fault_too es s t x y only.0) (can_begin_too es s t x y n only.1)
  step_too es s t x y (End w n) new z =
      let only = (steps_of es s x).end_only w n new z in
      (steps_of es t y).end w n (no_fault_too es s t x y only.0) (runs_too es s t x y w n only.1)
  step_too es s t x y (Back w n) new z =
      let only = (steps_of es s x).back_only w n new z in
      (steps_of es t y).back w n (no_fault_too es s t x y only.0) (runs_too es s t x y w n only.1)
