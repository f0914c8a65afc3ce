-- The queue of a board after an End without fault, and the turns that an item of a loop keeps.
use Rattle.std.proofs.Common.{◌≡◌, inl, inr, ℕ, suc, ◌<◌, List, ◌∷◌, ◌++◌, refl, sym, ap, ◌∙◌, subst, Option, None, Some, arith, []}
use Rattle.std.specs.Prelude.{ℤ}
use Rattle.dataflow.specs.System.{Answer, In, tasks_of}
use Rattle.dataflow.specs.Machine.{End, Event, Run, SeesAll, new_items}
use Rattle.dataflow.specs.Events.{CanBegin, NewlyAt}
use Rattle.dataflow.specs.History.{log_of}
use Rattle.dataflow.proofs.Counted.{can_begin_is}
use Rattle.dataflow.proofs.Follows.{Follows}
use Rattle.dataflow.proofs.Known.{answers_are_one, one_value}
use Rattle.dataflow.proofs.Lists.{in_left, in_map, in_seam, in_split, seam_in}
use Rattle.dataflow.proofs.Numbers.{Numbered, number_of_item, run_numbered, step_numbered}
use Rattle.dataflow.proofs.Steps.{run_follows}
use Rattle.board_history.specs.CodeReplay.{replayed}
use Rattle.board_history.specs.Elements.{code_tests}
use Rattle.board_history.specs.Ending.{OpensItems, QueueAfter, job_kind, job_priority}
use Rattle.board_history.specs.Fields.{Does, Fields, Frame, Job, Layout, Row, Script, row_of, task_of}
use Rattle.board_history.specs.Stands.{ItemsStand, QueueStands, Queued, Stands, turns_left}
use Rattle.board_history.specs.Static.{computed_by}
use Rattle.board_history.proofs.Elements.{code_told}
use Rattle.board_history.proofs.EndedItems.{enabled_later, new_above, opens_items, step}
use Rattle.board_history.proofs.Marking.{RowIs, row_found}
use Rattle.board_history.proofs.Replays.{run_replayed}
use Rattle.board_history.proofs.Seen.{OneValue, all_known, all_told, answers_see}
use Rattle.board_history.proofs.Tests.{none_some, some_same}
use Rattle.task_code.proofs.Kept.{code_laws}
use Rattle.task_code.specs.Code.{Code, Kind}
use Rattle.task_code.specs.Effects.{Item, Task, left_at, turns_of}
use Rattle.task_code.specs.Machine.{CodeItem, CodeState, CodeStep}
use Rattle.task_code.specs.Places.{Step}
use Rattle.task_code.specs.System.{code_system, task_inputs, task_kind, task_priority}
use Rattle.task_code.specs.Whole.{IsCode}
use Rattle.values.specs.declared.key.Key.{Key}
use Rattle.values.specs.declared.value.Scalar.{Scalar}
use Rattle.board_history.proofs.Standing.{one_number}

-- an item that goes on with a loop, and whose answers are these, keeps what is left of the turns
pub turns_told : (C : Code) → IsCode C → (L : Layout) (es : List Event) (F : Fields) (x : Stands C L es F) (i : CodeItem) → In i x.state.items → (e c : ℕ) (p : List Step) → i.task ≡ Item e p (suc c) → (xs : List (Answer Key Scalar)) → SeesAll (code_system C) x.state (task_inputs C i.task) xs → F.turns i.number ≡ Some (left_at (suc c) (turns_of (computed_by C i.task xs)))
turns_told C I L es F x i h e c p q xs known =
    let run = (run_replayed (code_system C) code_tests (code_told C) (code_laws C I) es x.state x.reached).0 in
    let log = log_of (code_system C) es x.state run in
    let f = run_follows (code_system C) (code_laws C I) es x.state run in
    let one : OneValue (code_system C) code_tests (code_told C) x.state = one_value (code_system C) (code_laws C I) x.state log f in
    let a = all_told (code_system C) code_tests (code_told C) x.state one (task_inputs C i.task) (all_known (code_system C) code_tests (code_told C) x.state (task_inputs C i.task) xs known) in
    let same = (answers_are_one (code_system C) (code_laws C I) x.state log f).one i h a.0 xs (answers_see (code_system C) code_tests (code_told C) x.state one (task_inputs C i.task) a.0 a.1) known in
    x.turns.kept i h
    ∙ ap (turns_left C i.task) (a.1 ∙ ap Some same)
    ∙ subst (λ (u : Task). turns_left C u (Some xs) ≡ Some (left_at (suc c) (turns_of (computed_by C u xs)))) (sym q) refl

-- who runs a job, and its priority
kind_of_job : (C : Code) (fs : List (Option Frame)) (j : Job) → job_kind C j ≡ task_kind C (task_of fs j)
kind_of_job C fs Script = refl
kind_of_job C fs (Does k e c) = refl

priority_of_job : (C : Code) (fs : List (Option Frame)) (j : Job) → job_priority C j ≡ task_priority C (task_of fs j)
priority_of_job C fs Script = refl
priority_of_job C fs (Does k e c) = refl

module _ (C : Code) (I : IsCode C) (L : Layout) (es : List Event) (F : Fields) (x : Stands C L es F) (w n : ℕ) (t : CodeState) (reached : replayed C (es ++ End w n ∷ []) ≡ Some t) (good : t.fault ≡ None) (G : Fields) (items : ItemsStand C G t) (new : NewlyAt (code_system C) x.state t G.newly) (after : QueueAfter C F G) where
  abbrev s : CodeState
  s = x.state

  run : Run (code_system C) es s
  run = (run_replayed (code_system C) code_tests (code_told C) (code_laws C I) es s x.reached).0

  follows : Follows (code_system C) s (log_of (code_system C) es s run)
  follows = run_follows (code_system C) (code_laws C I) es s run

  ended : CodeStep C s (End w n) t
  ended = step C I L es F x w n t reached good

  abbrev o : OpensItems (code_system C) s w n t
  o = opens_items (code_system C) s t w n ended good

  numbers : Numbered (code_system C) s
  numbers = run_numbered (code_system C) es s run

  numbers_after : Numbered (code_system C) t
  numbers_after = step_numbered (code_system C) s (End w n) t numbers ended

  -- an item that could begin before is there afterwards, and can begin
  still : (k : Kind) (z : ℤ) (m : ℕ) → Queued C s k z m → Queued C t k z m
  still k z m q =
      elim (in_seam q.item o.item o.before o.after (subst (λ (is : List CodeItem). In q.item is) o.there q.there)) [
        | inl g ↦ (let there : In q.item t.items = subst (λ (is : List CodeItem). In q.item is) (sym o.items) (in_left q.item (o.before ++ o.after) (new_items s.next (tasks_of o.effect.opens)) g) in
            record {
              item = q.item;
              there = there;
              number_is = q.number_is;
              idle = q.idle;
              enabled = enabled_later (code_system C) (code_laws C I) s t (log_of (code_system C) es s run) follows w n ended q.item q.item q.there there refl q.enabled;
              kind_is = q.kind_is;
              priority_is = q.priority_is;
            })
        | inr p ↦ none_some (sym q.idle ∙ ap (λ (i : CodeItem). i.runs) p ∙ o.runs)
      ]

  -- one that can begin now could before, or is newly enabled
  was : (k : Kind) (z : ℤ) (m : ℕ) → Queued C t k z m → CanBegin (code_system C) s m → Queued C s k z m
  was k z m q c =
      elim (in_split q.item (o.before ++ o.after) (new_items s.next (tasks_of o.effect.opens)) (subst (λ (is : List CodeItem). In q.item is) o.items q.there)) [
        | inl g ↦ (let there : In q.item s.items = subst (λ (is : List CodeItem). In q.item is) (sym o.there) (seam_in q.item o.item o.before o.after g) in
            let same = one_number s.items c.item q.item numbers.once c.there there (c.number_is ∙ sym q.number_is) in
            record {
              item = c.item;
              there = c.there;
              number_is = c.number_is;
              idle = c.idle;
              enabled = c.enabled;
              kind_is = ap (λ (i : CodeItem). task_kind C i.task) same ∙ q.kind_is;
              priority_is = ap (λ (i : CodeItem). task_priority C i.task) same ∙ q.priority_is;
            })
        | inr g ↦ (let a = new_above s.next (tasks_of o.effect.opens) q.item g in
            let b : c.item.number < s.next = numbers.below c.item.number (in_map number_of_item c.item s.items c.there) in
            let d = q.number_is in
            let e = c.number_is in
            absurd (omega arith))
      ]

  row_there : (i : CodeItem) → In i t.items → RowIs G.frames G.rows 1 i
  row_there i h = row_found G.frames 1 G.rows i (subst (λ (is : List CodeItem). In i is) (sym items.items) h)

  -- a row of an item's number is that item's
  row_is : (i : CodeItem) (h : In i t.items) (m : ℕ) (r : Row) → row_of G.rows m ≡ Some r → i.number ≡ m → (row_there i h).row ≡ r
  row_is i h m r q e =
      let f = row_there i h in
      let a = f.number_is in
      let at : m ≡ suc f.at = omega arith in
      some_same (sym f.there ∙ subst (λ (l : ℕ). row_of G.rows l ≡ Some r) at q)

  all : (k : Kind) (z : ℤ) (m : ℕ) → Queued C t k z m → In m (G.queue k z)
  all k z m q =
      elim (can_begin_is (code_system C) (code_laws C I) s (log_of (code_system C) es s run) follows m) [
        | inl c ↦ after.kept k z m (x.queue.all k z m (was k z m q c))
        | inr d ↦ (let g = new.all m (record { item = q.item; there = q.there; number_is = q.number_is; idle = q.idle; enabled = q.enabled }) d in
            let f = row_there q.item q.there in
            let e = f.number_is in
            let at : suc f.at ≡ m = (let n = q.number_is in omega arith) in
            let a = after.added m f.row (subst (λ (l : ℕ). row_of G.rows l ≡ Some f.row) at f.there) g in
            let kind : job_kind C f.row.job ≡ k = kind_of_job C G.frames f.row.job ∙ ap (task_kind C) (sym f.task_is) ∙ q.kind_is in
            let priority : job_priority C f.row.job ≡ z = priority_of_job C G.frames f.row.job ∙ ap (task_priority C) (sym f.task_is) ∙ q.priority_is in
            subst (λ (y : ℤ). In m (G.queue k y)) priority (subst (λ (j : Kind). In m (G.queue j (job_priority C f.row.job))) kind a))
      ]

  only : (k : Kind) (z : ℤ) (m : ℕ) → In m (G.queue k z) → Queued C t k z m
  only k z m h =
      elim (after.only k z m h) [
        | inl g ↦ still k z m (x.queue.only k z m g)
        | inr q ↦ (let c = new.can m q.2 in
            let f = row_there c.item c.there in
            let same = row_is c.item c.there m q.0 q.1 c.number_is in
            record {
              item = c.item;
              there = c.there;
              number_is = c.number_is;
              idle = c.idle;
              enabled = c.enabled;
              kind_is = ap (task_kind C) f.task_is ∙ sym (kind_of_job C G.frames f.row.job) ∙ ap (λ (y : Row). job_kind C y.job) same ∙ q.3;
              priority_is = ap (task_priority C) f.task_is ∙ sym (priority_of_job C G.frames f.row.job) ∙ ap (λ (y : Row). job_priority C y.job) same ∙ q.4;
            })
      ]

  pub queue_after : QueueStands C G t
  queue_after = record { all = all; only = only; once = after.once }
