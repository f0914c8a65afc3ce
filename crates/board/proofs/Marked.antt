-- What begins and what is given back, by what has become of the items.
use Rattle.std.proofs.Common.{◌≡◌, ℕ, zero, suc, List, Some, ◌+◌, ◌-◌, ◌<◌, ◌≤◌, [], ◌∷◌, sym, ap, ◌∙◌, subst, length, Contains, arith}
use Rattle.std.specs.Prelude.{ℤ, ◌^◌, vec_capacity}
use Rattle.std.proofs.lemmas.List.{length-map}
use Rattle.board_history.specs.Ending.{job_kind, job_priority}
use Rattle.board_history.specs.Fields.{Job, Status, Ready, Row, Running, row_of}
use Rattle.board_history.specs.Marking.{with_status}
use Rattle.board_history.proofs.Tests.{none_some, some_same}
use Rattle.task_code.specs.Code.{Code}
use Rattle.work_queue.specs.Both.{of, with_changed}
use Rattle.work_queue.specs.Waiting.{with_put, without}
use Rattle.work_queue.specs.declared.entry.QueueEntry.{QueueEntry}
use Rattle.work_queue.specs.declared.entry.Kind.{Kind}
use Rattle.board_instances.specs.View.{row_view, rows_view}
use Rattle.board.specs.Marked.{HasBegun, HasReturned}
use Rattle.board_items.specs.Settled.{StaysButOrder, one_more, one_less}
use Rattle.board.specs.declared.state.BoardState.{BoardState}
use Rattle.board.proofs.Changes.{back_core, back_room, begun_core, begun_there}

abbrev entry : ℤ → ℕ → QueueEntry
entry z n = record { priority = z; no = n }

marked_here : (rows : List Row) (n : ℕ) (r : Row) (m : Status) → row_of rows n ≡ Some r → row_of (with_status rows n m) n ≡ Some (record { job = r.job; status = m })
marked_here [] n r m h = none_some h
marked_here (q ∷ rows) zero r m h = none_some h
marked_here (q ∷ rows) (suc zero) r m h = ap (λ (y : Row). Some (record { job = y.job; status = m })) (some_same h)
marked_here (q ∷ rows) (suc (suc n)) r m h = marked_here rows (suc n) r m h

module _ (C : Code) (old new : BoardState) (n : ℕ) (j : Job) (data_state : new.data_state ≡ old.data_state) (lines : new.lines ≡ old.lines) (fault : new.fault ≡ old.fault) (order : StaysButOrder old.items new.items) where
  pub has_begun : (w : ℕ) (k : Kind) (z : ℤ) → k ≡ job_kind C j → z ≡ job_priority C j
      → rows_view new.items.rows.items ≡ with_status (rows_view old.items.rows.items) n (Running w)
      → (Contains (of k old.items.queue).entries (entry z n) → new.items.queue ≡ with_changed k (without (entry z n)) old.items.queue)
      → (old.items.running + 1 < 2 ^ 64 → new.items.running ≡ old.items.running + 1) → new.items.newly.items ≡ [] → vec_capacity new.items.newly ≡ vec_capacity old.items.newly
      → new.items.apart ≡ one_more k old.items.apart → length old.items.rows.items + 1 ≤ 2 ^ 64 - 1 → HasBegun C w n j old new
  has_begun w k z kind priority rows queue running newly capacity apart few =
      record {
        stand = λ es I s free ready fits.
            begun_core C I es old new s free data_state lines fault order w n j ready rows (taken (begun_there C I es old new s free data_state lines fault order n j ready)) (running fits) newly
            (apart ∙ ap (λ (l : Kind). one_more l old.items.apart) kind) capacity (subst (λ (m : ℕ). m + 1 ≤ 2 ^ 64 - 1) (sym (length-map old.items.rows.items row_view)) few);
        running = running;
        newly = newly;
        fault = fault;
        data_state = data_state;
        runs = λ ready. ap (λ (rs : List Row). row_of rs n) rows ∙ marked_here (rows_view old.items.rows.items) n (record { job = j; status = Ready }) (Running w) ready;
      }
    where
      taken : Contains (of (job_kind C j) old.items.queue).entries (entry (job_priority C j) n) → new.items.queue ≡ with_changed (job_kind C j) (without (entry (job_priority C j) n)) old.items.queue
      taken =
          subst (λ (l : Kind). Contains (of l old.items.queue).entries (entry (job_priority C j) n) → new.items.queue ≡ with_changed l (without (entry (job_priority C j) n)) old.items.queue) kind
          (subst (λ (y : ℤ). Contains (of k old.items.queue).entries (entry y n) → new.items.queue ≡ with_changed k (without (entry y n)) old.items.queue) priority queue)

  pub has_returned : (k : Kind) (z : ℤ) → k ≡ job_kind C j → z ≡ job_priority C j
      → rows_view new.items.rows.items ≡ with_status (rows_view old.items.rows.items) n Ready
      → (0 < (of k old.items.queue).room → new.items.queue ≡ with_changed k (with_put (entry z n)) old.items.queue)
      → new.items.running ≡ old.items.running - 1 → (0 < vec_capacity old.items.newly → new.items.newly.items ≡ n ∷ []) → vec_capacity old.items.newly ≤ vec_capacity new.items.newly
      → new.items.apart ≡ one_less k old.items.apart → HasReturned C n j old new
  has_returned k z kind priority rows queue running newly capacity apart =
      record {
        stand = λ es w I s free runs.
            back_core C I es old new s free data_state lines fault order w n j runs rows (put (back_room C I es old new s free data_state lines fault order w n j runs)) running (newly s.kept.roomy.noted)
            (apart ∙ ap (λ (l : Kind). one_less l old.items.apart) kind) (let a = s.kept.roomy.noted in omega arith);
        newly = newly;
        running = running;
        fault = fault;
      }
    where
      put : 0 < (of (job_kind C j) old.items.queue).room → new.items.queue ≡ with_changed (job_kind C j) (with_put (entry (job_priority C j) n)) old.items.queue
      put =
          subst (λ (l : Kind). 0 < (of l old.items.queue).room → new.items.queue ≡ with_changed l (with_put (entry (job_priority C j) n)) old.items.queue) kind
          (subst (λ (y : ℤ). 0 < (of k old.items.queue).room → new.items.queue ≡ with_changed k (with_put (entry y n)) old.items.queue) priority queue)
