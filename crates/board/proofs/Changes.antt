-- A board's fields after an item has begun, and after it was given back.
use Rattle.std.proofs.Common.{◌≡◌, ℕ, suc, ◌+◌, ◌-◌, ◌<◌, ◌≤◌, List, [], ◌∷◌, ◌++◌, refl, sym, ap, ◌∙◌, subst, Option, None, Some, length, Contains, arith}
use Rattle.std.specs.Prelude.{ℤ, ◌^◌, vec_capacity}
use Rattle.dataflow.specs.System.{In}
use Rattle.dataflow.specs.Machine.{Back, Begin, Event, Fault}
use Rattle.board_history.specs.Ending.{job_kind, job_priority}
use Rattle.board_history.specs.Fields.{Fields, Job, Layout, Ready, Row, Running, row_of, task_of}
use Rattle.board_history.specs.Marking.{begun_fields, with_status, returned_fields}
use Rattle.board_history.specs.Stands.{Stands}
use Rattle.board_history.proofs.Marking.{item}
use Rattle.board_history.proofs.Tests.{none_some, some_same}
use Rattle.task_code.specs.Code.{Code, Control, Kind, Leaf}
use Rattle.task_code.specs.Compute.{EntryFault}
use Rattle.task_code.specs.Effects.{Task}
use Rattle.task_code.specs.System.{task_kind, task_priority}
use Rattle.task_code.specs.Whole.{IsCode}
use Rattle.work_queue.specs.Both.{Both, of, with_changed}
use Rattle.work_queue.specs.Waiting as Waits
use Rattle.work_queue.proofs.InOrder.{holds_exactly}
use Rattle.board_program.specs.Spots.{layout_of}
use Rattle.board_instances.specs.View.{frames_view, rows_view}
use Rattle.paths.specs.declared.faults.Fault.{Fault as Noted}
use Rattle.board_data.specs.Wanted.{FewSlots}
use Rattle.board.specs.Board.{Rises}
use Rattle.board_data.specs.Data.{AreRising}
use Rattle.board.specs.Inside.{IsNoted, Stand}
use Rattle.board_items.specs.Settled.{StaysButOrder, one_more, one_less}
use Rattle.board_items.specs.View.{queue_view}
use Rattle.board.specs.Queues.{SameNumbers, with_queue}
use Rattle.board.specs.Rows.{IsReady, RunsOn}
use Rattle.board.specs.View.{fields_view}
use Rattle.board.specs.declared.state.BoardState.{BoardState}
use Rattle.board_changes.specs.declared.data_state.DataState.{DataState}
use Rattle.board.proofs.Entries.{number_held}
use Rattle.board.proofs.Moves.{begun, idle_ready, item_there, kind_of_job, priority_of_job, ready_item, returned, row_there}
use Rattle.board.proofs.Orders.{IsAlone, begun_order, returned_order}
use Rattle.board.proofs.Queues.{queue_kept}
use Rattle.board.proofs.Rooms.{back_fits, roomy_back, roomy_begun}

-- no fault is told where none was met
pub untold : (C : Code) (m : Option (Task × Fault EntryFault)) (f : Option Noted) → IsNoted C m f → f ≡ None → m ≡ None
untold C None f n e = refl
untold C (Some m) None n e = absurd n
untold C (Some m) (Some f) n e = none_some (sym e)

pub unmet : (C : Code) (m : Option (Task × Fault EntryFault)) (f : Option Noted) → IsNoted C m f → m ≡ None → f ≡ None
unmet C None None n e = refl
unmet C None (Some f) n e = absurd n
unmet C (Some m) f n e = none_some (sym e)

module _ (C : Code) (I : IsCode C) (L : Layout) (es : List Event) (F : Fields) (x : Stands C L es F) where
  -- where a number stands in the queue, there its item's job belongs
  queued_job : (n : ℕ) (r : Row) → row_of F.rows n ≡ Some r → (k : Kind) (z : ℤ) → In n (F.queue k z) → (r.status ≡ Ready) × (k ≡ job_kind C r.job) × (z ≡ job_priority C r.job)
  queued_job n r h k z m =
      let q = x.queue.only k z n m in
      let f = row_there C I L es F x q.item q.there in
      let e = f.number_is in
      let u = q.number_is in
      let place : suc f.at ≡ n = omega arith in
      let same : f.row ≡ r = some_same (sym f.there ∙ ap (λ (i : ℕ). row_of F.rows i) place ∙ h) in
      let job = ap (λ (y : Row). y.job) same in (
        sym (ap (λ (y : Row). y.status) same) ∙ idle_ready C I L es F x q.item q.there q.idle q.enabled f f.row.status refl,
        sym q.kind_is ∙ ap (task_kind C) f.task_is ∙ kind_of_job C F.frames f.row.job ∙ ap (job_kind C) job,
        sym q.priority_is ∙ ap (task_priority C) f.task_is ∙ priority_of_job C F.frames f.row.job ∙ ap (job_priority C) job,
      )

  ready_queued : (n : ℕ) (j : Job) → IsReady F.rows n j → In n (F.queue (job_kind C j) (job_priority C j))
  ready_queued n j h =
      x.queue.all (job_kind C j) (job_priority C j) n (record {
        item = item n (task_of F.frames j) None;
        there = item_there C I L es F x n (record { job = j; status = Ready }) h ready_item;
        number_is = refl;
        idle = refl;
        enabled = x.items.ready n (record { job = j; status = Ready }) h refl;
        kind_is = kind_of_job C F.frames j;
        priority_is = priority_of_job C F.frames j;
      })

  -- one that runs is not in the queue
  runs_unqueued : (w n : ℕ) (j : Job) → RunsOn F.rows w n j → (k : Kind) (z : ℤ) → In n (F.queue k z) → ⊥
  runs_unqueued w n j h k z m = clash (queued_job n (record { job = j; status = Running w }) h k z m).0
    where
      clash : Running w ≡ Ready → ⊥
      clash e = absurd (cc)

module _ (C : Code) (I : IsCode C) (es : List Event) (old new : BoardState) (s : Stand C es old) (free : old.fault ≡ None) (data_state : new.data_state ≡ old.data_state) (lines : new.lines ≡ old.lines) (fault : new.fault ≡ old.fault) (order : StaysButOrder old.items new.items) where
  x : Stands C (layout_of C) es (fields_view s.told old)
  x = s.stands

  none : s.told.fault ≡ None
  none = untold C s.told.fault old.fault s.fault free

  noted : IsNoted C s.told.fault new.fault
  noted = subst (λ (f : Option Noted). IsNoted C s.told.fault f) (sym fault) s.fault

  -- an entry that stands there
  pub begun_there : (n : ℕ) (j : Job) → IsReady (rows_view old.items.rows.items) n j → Contains (of (job_kind C j) old.items.queue).entries (record { priority = job_priority C j; no = n })
  begun_there n j h = by (job_kind C j) (ready_queued C I (layout_of C) es (fields_view s.told old) x n j h)
    where
      by : (k : Kind) → In n (queue_view old.items.queue k (job_priority C j)) → Contains (of k old.items.queue).entries (record { priority = job_priority C j; no = n })
      by Control m = (holds_exactly (record { priority = job_priority C j; no = n }) old.items.queue.control.entries).0 (number_held (job_priority C j) n old.items.queue.control.entries m)
      by Leaf m = (holds_exactly (record { priority = job_priority C j; no = n }) old.items.queue.leaf.entries).0 (number_held (job_priority C j) n old.items.queue.leaf.entries m)

  -- fields that have become the begun ones stand for the state of the history with that event
  pub begun_core : (w n : ℕ) (j : Job) → IsReady (rows_view old.items.rows.items) n j → rows_view new.items.rows.items ≡ with_status (rows_view old.items.rows.items) n (Running w)
      → new.items.queue ≡ with_changed (job_kind C j) (Waits.without (record { priority = job_priority C j; no = n })) old.items.queue
      → new.items.running ≡ old.items.running + 1 → new.items.newly.items ≡ [] → new.items.apart ≡ one_more (job_kind C j) old.items.apart → vec_capacity new.items.newly ≡ vec_capacity old.items.newly
      → length (rows_view old.items.rows.items) + 1 ≤ 2 ^ 64 - 1 → Stand C (es ++ Begin w n ∷ []) new
  begun_core w n j ready rows queue running newly apart capacity few =
      record {
        told = s.told;
        stands = subst (λ (F : Fields). Stands C (layout_of C) (es ++ Begin w n ∷ []) F) fields (queue_kept C (layout_of C) (es ++ Begin w n ∷ []) (begun_fields (fields_view s.told old) w n) (begun C I (layout_of C) es (fields_view s.told old) x none w n j ready) (queue_view new.items.queue) same);
        fault = noted;
        kept = record {
          few = subst (λ (v : DataState). FewSlots (frames_view v.instances.slots)) (sym data_state) s.kept.few;
          rising = subst (λ (v : DataState). AreRising v.store) (sym data_state) s.kept.rising;
          roomy = roomy_begun C old.items new.items n w j (record { priority = job_priority C j; no = n }) s.kept.roomy ready rows queue apart (subst (λ (m : ℕ). 0 < m) (sym capacity) s.kept.roomy.noted) few;
          rises = subst (λ (ns : List ℕ). Rises ns) (sym newly) tt;
        };
      }
    where
      alone : IsAlone old.items.queue (job_kind C j) (job_priority C j) n
      alone =
          record {
            there = ready_queued C I (layout_of C) es (fields_view s.told old) x n j ready;
            same_kind = λ l y h. (queued_job C I (layout_of C) es (fields_view s.told old) x n (record { job = j; status = Ready }) ready l y h).1;
            same_priority = λ l y h. (queued_job C I (layout_of C) es (fields_view s.told old) x n (record { job = j; status = Ready }) ready l y h).2;
          }

      same : SameNumbers (begun_fields (fields_view s.told old) w n).queue (queue_view new.items.queue)
      same = subst (λ (q : Both). SameNumbers (begun_fields (fields_view s.told old) w n).queue (queue_view q)) (sym queue) (begun_order old.items.queue (job_kind C j) (job_priority C j) n alone x.queue.once)

      fields : with_queue (queue_view new.items.queue) (begun_fields (fields_view s.told old) w n) ≡ fields_view s.told new
      fields =
          let a = order.rules in
          let run : new.items.running ≡ suc old.items.running = omega arith in
          cc

  -- fields that have become the returned ones do so too
  pub back_core : (w n : ℕ) (j : Job) → RunsOn (rows_view old.items.rows.items) w n j → rows_view new.items.rows.items ≡ with_status (rows_view old.items.rows.items) n Ready
      → new.items.queue ≡ with_changed (job_kind C j) (Waits.with_put (record { priority = job_priority C j; no = n })) old.items.queue
      → new.items.running ≡ old.items.running - 1 → new.items.newly.items ≡ n ∷ [] → new.items.apart ≡ one_less (job_kind C j) old.items.apart → 0 < vec_capacity new.items.newly
      → Stand C (es ++ Back w n ∷ []) new
  back_core w n j runs rows queue running newly apart capacity =
      record {
        told = s.told;
        stands = subst (λ (F : Fields). Stands C (layout_of C) (es ++ Back w n ∷ []) F) fields (queue_kept C (layout_of C) (es ++ Back w n ∷ []) (returned_fields (fields_view s.told old) n (job_kind C j) (job_priority C j)) (returned C I (layout_of C) es (fields_view s.told old) x none w n j runs) (queue_view new.items.queue) same);
        fault = noted;
        kept = record {
          few = subst (λ (v : DataState). FewSlots (frames_view v.instances.slots)) (sym data_state) s.kept.few;
          rising = subst (λ (v : DataState). AreRising v.store) (sym data_state) s.kept.rising;
          roomy = roomy_back C old.items new.items n w j (record { priority = job_priority C j; no = n }) s.kept.roomy runs rows queue apart capacity;
          rises = subst (λ (ns : List ℕ). Rises ns) (sym newly) (λ m h. absurd h, tt);
        };
      }
    where
      same : SameNumbers (returned_fields (fields_view s.told old) n (job_kind C j) (job_priority C j)).queue (queue_view new.items.queue)
      same = subst (λ (q : Both). SameNumbers (returned_fields (fields_view s.told old) n (job_kind C j) (job_priority C j)).queue (queue_view q)) (sym queue) (returned_order old.items.queue (job_kind C j) (job_priority C j) n (runs_unqueued C I (layout_of C) es (fields_view s.told old) x w n j runs) x.queue.once)

      fields : with_queue (queue_view new.items.queue) (returned_fields (fields_view s.told old) n (job_kind C j) (job_priority C j)) ≡ fields_view s.told new
      fields =
          let a = order.rules in
          cc

  -- and it has room
  pub back_room : (w n : ℕ) (j : Job) → RunsOn (rows_view old.items.rows.items) w n j → 0 < (of (job_kind C j) old.items.queue).room
  back_room w n j runs = back_fits C old.items n w j s.kept.roomy runs
