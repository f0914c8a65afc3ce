-- Counts of items that wait or run, where a status is changed.
use Rattle.std.proofs.Common.{◌≡◌, ◌∙◌, ℕ, zero, suc, ◌+◌, ◌≤◌, Bool, true, false, ◌&&◌, List, [], ◌∷◌, ◌++◌, refl, ap, subst, arith, Some}
use Rattle.std.specs.Prelude.{if◌then◌else◌}
use Rattle.board_history.specs.Ending.{job_kind}
use Rattle.board_history.specs.Fields.{Status, Row, row_of}
use Rattle.board_history.specs.Marking.{kind_eq, with_status}
use Rattle.board_history.proofs.Rows.{no_row}
use Rattle.board_history.proofs.Tests.{none_some, some_same}
use Rattle.task_code.specs.Code.{Code, Control, Kind, Leaf}
use Rattle.std.specs.Prelude.{vec_capacity}
use Rattle.board_instances.specs.View.{rows_view}
use Rattle.work_queue.specs.Both.{Both}
use Rattle.board_items.specs.Room.{IsRoomy, IsRoomyFor, apart_in, is_apart}
use Rattle.board_items.specs.declared.items.Counts.{Counts}
use Rattle.board_items.specs.declared.items.Items.{Items}

module _ (C : Code) (k : Kind) where
  abbrev counts : Status → Row → ℕ
  counts m r = if is_apart m && kind_eq k (job_kind C r.job) then 1 else 0

  marked : (rows : List Row) (j : ℕ) (r : Row) (m : Status) → row_of rows (suc j) ≡ Some r → apart_in C k (with_status rows (suc j) m) + counts r.status r ≡ apart_in C k rows + counts m r
  marked [] j r m h = none_some h
  marked (q ∷ rows) zero r m h =
      let e : q ≡ r = some_same h in
      subst (λ (x : Row). (counts m q + apart_in C k rows) + counts x.status x ≡ (counts q.status q + apart_in C k rows) + counts m x) e (omega arith)
  marked (q ∷ rows) (suc j) r m h = let z = marked rows j r m h in omega arith

  pub marked_at : (rows : List Row) (n : ℕ) (r : Row) (m : Status) → row_of rows n ≡ Some r → apart_in C k (with_status rows n m) + counts r.status r ≡ apart_in C k rows + counts m r
  marked_at rows zero r m h = no_row rows r h
  marked_at rows (suc j) r m h = marked rows j r m h

  and_false : (a b : Bool) → b ≡ false → ◌≡◌ {A = ℕ} (if a && b then 1 else 0) 0
  and_false true b h = ap (λ (x : Bool). if x then 1 else 0) h
  and_false false b h = refl

  -- of another kind
  pub counts_other : (m : Status) (r : Row) → kind_eq k (job_kind C r.job) ≡ false → counts m r ≡ 0
  counts_other m r h = and_false (is_apart m) (kind_eq k (job_kind C r.job)) h

  -- it is apart, or no longer
  pub counts_apart : (m : Status) (r : Row) → is_apart m ≡ true → kind_eq k (job_kind C r.job) ≡ true → counts m r ≡ 1
  counts_apart m r a h = (λ i. if a i && kind_eq k (job_kind C r.job) then 1 else 0) ∙ ap (λ (x : Bool). if x then 1 else 0) h

  pub counts_not : (m : Status) (r : Row) → is_apart m ≡ false → counts m r ≡ 0
  counts_not m r a = λ i. if a i && kind_eq k (job_kind C r.job) then 1 else 0

apart_append : (C : Code) (k : Kind) (xs ys : List Row) → apart_in C k (xs ++ ys) ≡ apart_in C k xs + apart_in C k ys
apart_append C k [] ys = zero_more (apart_in C k ys)
  where
    zero_more : (n : ℕ) → n ≡ 0 + n
    zero_more n = omega arith
apart_append C k (x ∷ xs) ys = let h = apart_append C k xs ys in omega arith

-- new rows for which there is room
pub placed_roomy : (C : Code) (controls leaves : ℕ) (old new : Items) (more : List Row) → IsRoomyFor C controls leaves old → rows_view new.rows.items ≡ rows_view old.rows.items ++ more → apart_in C Control more ≤ controls → apart_in C Leaf more ≤ leaves → new.queue ≡ old.queue → new.apart ≡ old.apart → new.newly ≡ old.newly → IsRoomy C new
placed_roomy C controls leaves old new more room e a b q z n =
    let c = ap (apart_in C Control) e ∙ apart_append C Control (rows_view old.rows.items) more in
    let d = ap (apart_in C Leaf) e ∙ apart_append C Leaf (rows_view old.rows.items) more in
    let q1 = ap (λ (x : Both). x.control.room) q in
    let q2 = ap (λ (x : Both). x.leaf.room) q in
    let z1 = ap (λ (x : Counts). x.controls) z in
    let z2 = ap (λ (x : Counts). x.leaves) z in
    let m = ap (λ v. vec_capacity v) n in
    let o1 = room.controls_counted in
    let o2 = room.leaves_counted in
    let o3 = room.controls_fit in
    let o4 = room.leaves_fit in
    let o5 = room.noted in
    record { controls_counted = omega arith; leaves_counted = omega arith; controls_fit = omega arith; leaves_fit = omega arith; noted = omega arith }
