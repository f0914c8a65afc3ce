-- What a board shows of its items.
use Rattle.std.proofs.Common.{◌≡◌, inl, inr, ℕ, zero, suc, List, [], ◌∷◌, refl, sym, ap, ◌∙◌, subst, None, Some, arith}
use Rattle.std.specs.Prelude.{ℤ, map, slice_get}
use Rattle.dataflow.specs.System.{In}
use Rattle.dataflow.specs.Machine.{Event}
use Rattle.board_history.specs.Ending.{job_kind, job_priority}
use Rattle.board_history.specs.Fields.{Over, Ready, Row, row_of, task_of}
use Rattle.board_history.proofs.Marking.{RowIs, item, status_is}
use Rattle.board_history.proofs.Tests.{none_some, some_same}
use Rattle.task_code.specs.Code.{Code, Kind}
use Rattle.task_code.specs.Machine.{CanBegin, CodeItem, CodeState}
use Rattle.task_code.specs.View.{event_view}
use Rattle.task_code.specs.System.{task_kind, task_priority}
use Rattle.task_code.specs.Whole.{IsCode}
use Rattle.board_program.specs.Spots.{layout_of}
use Rattle.board_instances.specs.View.{frames_view, status_view, rows_view}
use Rattle.board_instances.specs.declared.item.ItemStatus.{ItemStatus}
use Rattle.board_instances.specs.declared.item.ItemStatus.TheVariants as Marks
use Rattle.board.specs.History.{state_of}
use Rattle.board.specs.Inside.{IsSound, Stand}
use Rattle.board.specs.declared.board.Board.TheInside.{Inside}
use Rattle.board.specs.View.{fields_view}
use Rattle.board.specs.declared.state.BoardState.{BoardState}
use Rattle.board.proofs.Moves.{begins_ready, item_there, kind_of_job, priority_of_job, row_there}
use Rattle.board.proofs.Own.{state_here}
use Rattle.board.proofs.OwnWork.{ready_live}

in_place : (ns : List ℕ) (k n : ℕ) → slice_get ns k ≡ Some n → In n ns
in_place [] k n h = none_some h
in_place (m ∷ ns) zero n h = inl (sym (some_same h))
in_place (m ∷ ns) (suc k) n h = inr (in_place ns k n h)

module _ (C : Code) (I : IsCode C) (es : List Event) (core : BoardState) (s : Stand C es core) where
  abbrev rows : List Row
  rows = rows_view core.items.rows.items

  pub there : (i : CodeItem) → In i (state_of C es).items → RowIs (frames_view core.data_state.instances.slots) (rows_view core.items.rows.items) 1 i
  there i h = row_there C I (layout_of C) es (fields_view s.told core) s.stands i (subst (λ (t : CodeState). In i t.items) (state_here C I es core s) h)

  -- no item has a number without a row, or of a row that is over
  pub no_item : (n : ℕ) → row_of (rows_view core.items.rows.items) n ≡ None → (i : CodeItem) → In i (state_of C es).items → i.number ≡ n → ⊥
  no_item n h i m e =
      let f = there i m in
      let a = f.number_is in
      let place : suc f.at ≡ n = omega arith in
      none_some (sym h ∙ ap (λ (k : ℕ). row_of (rows_view core.items.rows.items) k) (sym place) ∙ f.there)

  pub over_item : (n : ℕ) (r : Row) → row_of (rows_view core.items.rows.items) n ≡ Some r → r.status ≡ Over → (i : CodeItem) → In i (state_of C es).items → i.number ≡ n → ⊥
  over_item n r h over i m e =
      let f = there i m in
      let a = f.number_is in
      let place : suc f.at ≡ n = omega arith in
      f.not_over (ap (λ (q : Row). q.status) (some_same (sym f.there ∙ ap (λ (k : ℕ). row_of (rows_view core.items.rows.items) k) place ∙ h)) ∙ over)

  -- the same with its priority
  pub some_ranked : (n : ℕ) (r : Row) → row_of (rows_view core.items.rows.items) n ≡ Some r → (r.status ≡ Over → ⊥) → (k : Kind) → k ≡ job_kind C r.job → (z : ℤ) → z ≡ job_priority C r.job → (i : CodeItem) × In i (state_of C es).items × (i.number ≡ n) × (k ≡ task_kind C i.task) × (z ≡ task_priority C i.task)
  some_ranked n r h live k e z p =
      elim (status_is r.status) [
        | inl over ↦ absurd (live over)
        | inr y ↦ (
          item n (task_of (frames_view core.data_state.instances.slots) r.job) y.runs,
          subst (λ (t : CodeState). In (item n (task_of (frames_view core.data_state.instances.slots) r.job) y.runs) t.items) (sym (state_here C I es core s)) (item_there C I (layout_of C) es (fields_view s.told core) s.stands n r h y),
          refl,
          e ∙ sym (kind_of_job C (frames_view core.data_state.instances.slots) r.job),
          p ∙ sym (priority_of_job C (frames_view core.data_state.instances.slots) r.job),
        )
      ]

  -- a live row is an item
  pub some_item : (n : ℕ) (r : Row) → row_of (rows_view core.items.rows.items) n ≡ Some r → (r.status ≡ Over → ⊥) → (k : Kind) → k ≡ job_kind C r.job → (i : CodeItem) × In i (state_of C es).items × (i.number ≡ n) × (k ≡ task_kind C i.task)
  some_item n r h live k e =
      elim (status_is r.status) [
        | inl over ↦ absurd (live over)
        | inr y ↦ (
          item n (task_of (frames_view core.data_state.instances.slots) r.job) y.runs,
          subst (λ (t : CodeState). In (item n (task_of (frames_view core.data_state.instances.slots) r.job) y.runs) t.items) (sym (state_here C I es core s)) (item_there C I (layout_of C) es (fields_view s.told core) s.stands n r h y),
          refl,
          e ∙ sym (kind_of_job C (frames_view core.data_state.instances.slots) r.job),
        )
      ]

-- one that could not begin before has a row that can now
pub newly_row : (a : Inside) (s : IsSound a) (k n : ℕ) → slice_get a.core.items.newly.items k ≡ Some n → (r : Row) × (row_of (rows_view a.core.items.rows.items) n ≡ Some r) × (r.status ≡ Over → ⊥)
newly_row a s k n h =
    let c = s.newly n (in_place a.core.items.newly.items k n h) in
    let b = subst (λ (t : CodeState). CanBegin a.program t n) (state_here a.program s.whole (map event_view a.history.items) a.core s.stand) c in
    let r = begins_ready a.program s.whole (layout_of a.program) (map event_view a.history.items) (fields_view s.stand.told a.core) s.stand.stands n b in
    (record { job = r.0; status = Ready }, r.1, ready_live)

pub no_row_there : (a : Inside) (s : IsSound a) (k n : ℕ) → slice_get a.core.items.newly.items k ≡ Some n → row_of (rows_view a.core.items.rows.items) n ≡ None → ⊥
no_row_there a s k n h e = let r = newly_row a s k n h in none_some (sym e ∙ r.1)

pub row_live : (a : Inside) (s : IsSound a) (k n : ℕ) → slice_get a.core.items.newly.items k ≡ Some n → (q : Row) → row_of (rows_view a.core.items.rows.items) n ≡ Some q → q.status ≡ Over → ⊥
row_live a s k n h q e o = let r = newly_row a s k n h in r.2 (ap (λ (y : Row). y.status) (some_same (sym r.1 ∙ e)) ∙ o)

pub live_status : (m : ItemStatus) → (m ≡ Marks.Over → ⊥) → status_view m ≡ Over → ⊥
live_status Marks.Waiting n h = absurd (cc)
live_status Marks.Ready n h = absurd (cc)
live_status (Marks.Running w) n h = absurd (cc)
live_status Marks.Over n h = n refl
