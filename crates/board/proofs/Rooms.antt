-- Room is kept for items that wait or run.
use Rattle.std.proofs.Common.{◌≡◌, ℕ, ◌+◌, ◌-◌, ◌<◌, ◌≤◌, Bool, true, false, ◌&&◌, List, [], ◌∷◌, refl, sym, ap, ◌∙◌, subst, length, arith}
use Rattle.std.specs.Prelude.{◌^◌, vec_capacity}
use Rattle.board_history.specs.Ending.{job_kind}
use Rattle.board_history.specs.Fields.{Job, Ready, Row, Running}
use Rattle.board_history.specs.Marking.{kind_eq, with_status}
use Rattle.task_code.specs.Code.{Code, Control, Kind, Leaf}
use Rattle.work_queue.specs.Both.{Both, of, with_changed}
use Rattle.work_queue.specs.Waiting.{with_put, without}
use Rattle.work_queue.specs.declared.entry.QueueEntry.{QueueEntry as Queued}
use Rattle.board_instances.specs.View.{rows_view}
use Rattle.board_items.specs.Settled.{one_more, one_less}
use Rattle.board_items.specs.Room.{IsRoomy, apart_in, is_apart}
use Rattle.board_items.proofs.Apart.{marked_at}
use Rattle.board_items.proofs.Progress.{Fits, counted_of, fits_of, less_roomy, one_counted, one_if, put_of, room_of, roomy_of}
use Rattle.board.specs.Rows.{IsReady, RunsOn}
use Rattle.board_items.specs.declared.items.Counts.{Counts}
use Rattle.board_items.specs.declared.items.Items.{Items}

one_most : (b : Bool) → one_if b ≤ 1
one_most true = omega arith
one_most false = omega arith

pub apart_few : (C : Code) (k : Kind) (rows : List Row) → apart_in C k rows ≤ length rows
apart_few C k [] = omega arith
apart_few C k (r ∷ rows) =
    let a = one_most (is_apart r.status && kind_eq k (job_kind C r.job)) in
    let b = apart_few C k rows in
    omega arith

-- one more of a kind, and one less in the queue
more_of : (k l : Kind) (a : Counts) (m : ℕ) → m ≤ counted_of k a + one_if (kind_eq k l) → m ≤ 2 ^ 64 - 1 → m ≤ counted_of k (one_more l a)
more_of Control Control a m h f = omega arith
more_of Control Leaf a m h f = omega arith
more_of Leaf Control a m h f = omega arith
more_of Leaf Leaf a m h f = omega arith

taken_of : (k l : Kind) (x : Queued) (q : Both) → room_of k (with_changed l (without x) q) ≡ room_of k q + one_if (kind_eq k l)
taken_of Control Control x q = refl
taken_of Control Leaf x q = omega arith
taken_of Leaf Control x q = omega arith
taken_of Leaf Leaf x q = refl

-- an item that begins keeps room for itself
pub roomy_begun : (C : Code) (old new : Items) (n w : ℕ) (j : Job) (x : Queued) → IsRoomy C old → IsReady (rows_view old.rows.items) n j → rows_view new.rows.items ≡ with_status (rows_view old.rows.items) n (Running w) → new.queue ≡ with_changed (job_kind C j) (without x) old.queue → new.apart ≡ one_more (job_kind C j) old.apart → 0 < vec_capacity new.newly → length (rows_view old.rows.items) + 1 ≤ 2 ^ 64 - 1 → IsRoomy C new
roomy_begun C old new n w j x room ready rows queue apart noted few = roomy_of C new fits noted
  where
    fits : (k : Kind) → Fits C k new
    fits k =
        let a = marked_at C k (rows_view old.rows.items) n (record { job = j; status = Ready }) (Running w) ready in
        let d = ap (apart_in C k) rows in
        let f = fits_of C old room k in
        let fc = f.counted in
        let ff = f.fits in
        let l = apart_few C k (rows_view old.rows.items) in
        let q = ap (room_of k) queue ∙ taken_of k (job_kind C j) x old.queue in
        let o = one_most (kind_eq k (job_kind C j)) in
        let c = more_of k (job_kind C j) old.apart (apart_in C k (rows_view new.rows.items)) (omega arith) (omega arith) in
        record { counted = subst (λ (z : Counts). apart_in C k (rows_view new.rows.items) ≤ counted_of k z) (sym apart) c; fits = omega arith }

-- one that is given back has room
pub back_fits : (C : Code) (old : Items) (n w : ℕ) (j : Job) → IsRoomy C old → RunsOn (rows_view old.rows.items) w n j → 0 < (of (job_kind C j) old.queue).room
back_fits C old n w j room runs = one_counted C old n (record { job = j; status = Running w }) runs refl room

pub roomy_back : (C : Code) (old new : Items) (n w : ℕ) (j : Job) (x : Queued) → IsRoomy C old → RunsOn (rows_view old.rows.items) w n j → rows_view new.rows.items ≡ with_status (rows_view old.rows.items) n Ready → new.queue ≡ with_changed (job_kind C j) (with_put x) old.queue → new.apart ≡ one_less (job_kind C j) old.apart → 0 < vec_capacity new.newly → IsRoomy C new
roomy_back C old new n w j x room runs rows queue apart noted =
    less_roomy C old new n (record { job = j; status = Running w }) Ready runs refl refl rows room apart (λ k. let e = ap (room_of k) queue ∙ put_of k (job_kind C j) x old.queue in omega arith) noted
