-- The fields of a board after an End without fault stand for the new state.
use Rattle.std.proofs.Common.{◌≡◌, ◌⊎◌, inl, inr, ℕ, zero, suc, ◌+◌, List, [], ◌∷◌, ◌++◌, map, length, refl, sym, ap, ◌∙◌, subst, None, Some, arith}
use Rattle.std.specs.Prelude.{◌-◌}
use Rattle.dataflow.specs.System.{Answer, Effect, Good, In}
use Rattle.dataflow.specs.Events.{CanBegin, NewlyAt}
use Rattle.dataflow.specs.Machine.{End, Event, SeesAll}
use Rattle.dataflow.proofs.Lists.{in_seam}
use Rattle.board_history.specs.CodeReplay.{replayed}
use Rattle.board_history.specs.Ending.{EndsTo, jobs_after, new_row, printed}
use Rattle.board_history.specs.Fields.{Does, Fields, Job, Layout, Over, Ready, Row, Running, Script, Waiter, Waiting, Status, Want, item_before, items_from, path_of, row_of, running_in, task_of}
use Rattle.board_history.specs.Stands.{AllStand, ItemsStand, QueueStands, Stands, wants}
use Rattle.board_history.proofs.EndedBase.{Ending, effect_is, here, numbers_t, o, one_t, own_row, row_there}
use Rattle.board_history.proofs.EndedCells.{names_after}
use Rattle.board_history.proofs.EndedContents.{data_after}
use Rattle.board_history.proofs.EndedFrames.{made, os, tasks_stay}
use Rattle.board_history.proofs.EndedItems.{items_after}
use Rattle.board_history.proofs.EndedQueue.{queue_after}
use Rattle.board_history.proofs.EndedRows.{NewItem, new_job, row_kept, row_of_new, row_split_at}
use Rattle.board_history.proofs.EndedSlots.{frames_after}
use Rattle.board_history.proofs.EndedTurns.{turns_stand}
use Rattle.board_history.proofs.EndedWaits.{item_split, new_item_in, old_item_in, waits_after, was_item}
use Rattle.board_history.proofs.Faulted.{runs_on}
use Rattle.board_history.proofs.Marking.{IsItem, item, item_not_over, status_is}
use Rattle.board_history.proofs.Remarked.{runs_of, snoc_first}
use Rattle.board_history.proofs.Ended.{good_is, outcome_is}
use Rattle.board_history.specs.Static.{computed_by}
use Rattle.board_history.proofs.Rows.{row_item}
use Rattle.board_history.proofs.Standing.{enabled_wants, wants_enabled, one_number}
use Rattle.board_history.proofs.Tests.{none_some, some_same, none_or}
use Rattle.task_code.specs.Code.{Code, entry}
use Rattle.task_code.specs.Effects.{Task, effect_at, instances, is_too_deep}
use Rattle.task_code.specs.Machine.{CodeItem, CodeState, Enabled}
use Rattle.task_code.specs.Places.{Place}
use Rattle.task_code.specs.System.{code_system, task_inputs}
use Rattle.task_code.specs.Whole.{IsCode}
use Rattle.values.specs.declared.key.Key.{Key}
use Rattle.values.specs.declared.value.Scalar.{Scalar}
use Rattle.board_history.proofs.EndedWants.{left_none}

waits_runs : {B : Type 0} {v : ℕ} → Waiting ≡ Running v → B
waits_runs h = absurd (cc)

ready_waits : {B : Type 0} → Ready ≡ Waiting → B
ready_waits h = absurd (cc)

-- a status of an item that does not run
idle_status : (m : Status) (y : IsItem m) → y.runs ≡ None → (m ≡ Waiting) ⊎ (m ≡ Ready)
idle_status Waiting y h = inl refl
idle_status Ready y h = inr refl
idle_status (Running v) y h = absurd (no_idle (Running v) y h refl)
  where
    no_idle : (m : Status) (y : IsItem m) → y.runs ≡ None → m ≡ Running v → ⊥
    no_idle m y h q = none_some (sym h ∙ runs_of m v y q)
idle_status Over y h = absurd (item_not_over Over y refl)

module _ (C : Code) (I : IsCode C) (L : Layout) (es : List Event) (F : Fields) (w n : ℕ) (t : CodeState) (G : Fields) (P : Ending C L es F w n t G) where
  abbrev jobs : List Job
  jobs = jobs_after C (made C I L es F w n t G P) P.row.job (os C I L es F w n t G P)

  abbrev rows : List Row
  rows = F.rows ++ map new_row jobs

  abbrev later : List (ℕ × Place)
  later = names_after C I L es F w n t G P

  -- nobody waits for an item exactly where it misses nothing
  misses_none : (i : CodeItem) → In i t.items → ((v : Waiter) → In v G.waiting → v.item ≡ i.number → ⊥) → wants C t i.task ≡ []
  misses_none i h no_one = elim (none_or (wants C t i.task)) [ inl z ↦ z | inr ne ↦ (let v = (waits_after C I L es F w n t G P).waits i h ne in absurd (no_one v.0 v.1 v.2)) ]

  no_one_waits : (i : CodeItem) → In i t.items → wants C t i.task ≡ [] → (v : Waiter) → In v G.waiting → v.item ≡ i.number → ⊥
  no_one_waits i h z v g e =
      let m = (waits_after C I L es F w n t G P).missing v g in
      let same : m.0 ≡ i = one_number t.items m.0 i (numbers_t C I L es F w n t G P).once m.1 h (m.2 ∙ e) in
      m.3 (left_none later v.missing (subst (λ (l : List (Want Place)). AllStand later v.missing l) (ap (λ (k : CodeItem). wants C t k.task) same ∙ z) m.4))

  -- the row of the item that ended runs
  own_runs : P.row.status ≡ Running w
  own_runs =
      let f = row_there C I L es F w n t G P (o C I L es F w n t G P).item (here C I L es F w n t G P) in
      let p = own_row C I L es F w n t G P f in
      ap (λ (r : Row). r.status) (sym p.0) ∙ elim (status_is f.row.status) [ inl z ↦ absurd (f.not_over z) | inr y ↦ runs_on w f.row.status y (sym (f.runs_is y) ∙ (o C I L es F w n t G P).runs) ]

  no_zero : {B : Type 0} (rs : List Row) (r : Row) → row_of rs zero ≡ Some r → B
  no_zero [] r h = none_some h
  no_zero (y ∷ rs) r h = none_some h

  -- the item of a row that waits
  waiting_item : (m : ℕ) (r : Row) → row_of rows m ≡ Some r → r.status ≡ Waiting → (i : CodeItem) × In i t.items × (i.number ≡ m) × (i.runs ≡ None)
  waiting_item zero r h q = no_zero rows r h
  waiting_item (suc j) r h q = elim (new_job F.rows jobs j r h) [ inl g ↦ old g | inr g ↦ new (row_split_at F.rows jobs (suc j) r g.2 h) ]
    where
      old : row_of F.rows (suc j) ≡ Some r → (i : CodeItem) × In i t.items × (i.number ≡ suc j) × (i.runs ≡ None)
      old g =
          let y : IsItem r.status = record { runs = None; is = λ k u is. ap (λ (m : Status). item_before k u m is) q } in
          let i = item (suc j) (task_of F.frames r.job) None in
          let there : In i P.x.state.items = subst (λ (is : List CodeItem). In i is) P.x.items.items (row_item F.frames 1 F.rows j (suc j) r g y (omega arith)) in
          elim (in_seam i (o C I L es F w n t G P).item (o C I L es F w n t G P).before (o C I L es F w n t G P).after (subst (λ (is : List CodeItem). In i is) (o C I L es F w n t G P).there there)) [
            | inl z ↦ (i, old_item_in C I L es F w n t G P i z, refl, refl)
            | inr z ↦ (let e : suc j ≡ n = ap (λ (k : CodeItem). k.number) z ∙ (o C I L es F w n t G P).number_is in
                let same : P.row ≡ r = some_same (sym P.row_is ∙ subst (λ (m : ℕ). row_of F.rows m ≡ Some r) e g) in
                waits_runs (sym q ∙ ap (λ (b : Row). b.status) (sym same) ∙ own_runs))
          ]

      new : (k : ℕ) × (suc j ≡ length F.rows + suc k) × (row_of (map new_row jobs) (suc k) ≡ Some r) → (i : CodeItem) × In i t.items × (i.number ≡ suc j) × (i.runs ≡ None)
      new p =
          let y = new_item_in C I L es F w n t G P p.0 (suc j) r p.2 (let e = p.1 in omega arith) in
          (record { number = suc j; task = task_of G.frames r.job; runs = None }, y.0, refl, refl)

  -- those newly enabled
  pub newly_at : NewlyAt (code_system C) P.x.state t G.newly
  newly_at = record { once = P.to.newly.once; all = all; can = can; could_not = could_not }
    where
      all : (m : ℕ) → CanBegin (code_system C) t m → (CanBegin (code_system C) P.x.state m → ⊥) → In m G.newly
      all m c not_before =
          let z = enabled_wants C t (one_t C I L es F w n t G P) c.item.task c.enabled in
          let quiet : (v : Waiter) → In v G.waiting → v.item ≡ m → ⊥ = λ v g e. no_one_waits c.item c.there z v g (e ∙ sym c.number_is) in
          elim (item_split C I L es F w n t G P c.item c.there) [ inl g ↦ old g quiet | inr x ↦ new x quiet ]
        where
          old : In c.item ((o C I L es F w n t G P).before ++ (o C I L es F w n t G P).after) → ((v : Waiter) → In v G.waiting → v.item ≡ m → ⊥) → In m G.newly
          old g quiet =
              let b = was_item C I L es F w n t G P c.item g in
              let r = row_there C I L es F w n t G P c.item b in
              let at : suc r.at ≡ m = (let e = r.number_is in let k = c.number_is in omega arith) in
              let there : row_of F.rows m ≡ Some r.row = subst (λ (k : ℕ). row_of F.rows k ≡ Some r.row) at r.there in
              elim (status_is r.row.status) [
                | inl z ↦ absurd (r.not_over z)
                | inr y ↦ elim (idle_status r.row.status y (sym (r.runs_is y) ∙ c.idle)) [
                  | inl q ↦ P.to.newly.all m r.row (row_kept F.rows (map new_row jobs) m r.row there) q quiet
                  | inr q ↦ absurd (not_before (record { item = c.item; there = b; number_is = c.number_is; idle = c.idle; enabled = subst (λ (u : Task). Enabled C P.x.state u) (sym r.task_is) (P.x.items.ready m r.row there q) }))
                ]
              ]

          new : NewItem (task_of G.frames) (suc (length F.rows)) jobs c.item → ((v : Waiter) → In v G.waiting → v.item ≡ m → ⊥) → In m G.newly
          new x quiet =
              let number : m ≡ length F.rows + suc x.at = (let e = x.number_is in let k = c.number_is in omega arith) in
              P.to.newly.all m (new_row x.job) (ap (row_of rows) number ∙ row_of_new F.rows jobs x.at ∙ x.there) refl quiet

      can : (m : ℕ) → In m G.newly → CanBegin (code_system C) t m
      can m h =
          let p = P.to.newly.only m h in
          let i = waiting_item m p.0 p.1 p.2 in
          record { item = i.0; there = i.1; number_is = i.2; idle = i.3; enabled = wants_enabled C t (one_t C I L es F w n t G P) i.0.task (misses_none i.0 i.1 (λ v g e. p.3 v g (e ∙ i.2))) }

      could_not : (m : ℕ) → In m G.newly → CanBegin (code_system C) P.x.state m → ⊥
      could_not m h c =
          let p = P.to.newly.only m h in
          let r = row_there C I L es F w n t G P c.item c.there in
          let at : suc r.at ≡ m = (let e = r.number_is in let k = c.number_is in omega arith) in
          let there : row_of F.rows m ≡ Some r.row = subst (λ (k : ℕ). row_of F.rows k ≡ Some r.row) at r.there in
          let same : p.0 ≡ r.row = some_same (sym p.1 ∙ row_kept F.rows (map new_row jobs) m r.row there) in
          P.x.items.waiting m r.row there (ap (λ (b : Row). b.status) (sym same) ∙ p.2) (subst (λ (u : Task). Enabled C P.x.state u) r.task_is c.enabled)

  -- items afterwards
  pub items_stand : ItemsStand C G t
  items_stand =
      let y = items_after C I L es F P.x w n t P.reached P.good G.frames jobs G.newly newly_at (tasks_stay C I L es F w n t G P) in
      record {
        items = subst (λ (rs : List Row). items_from G.frames 1 rs ≡ t.items) (sym P.to.rows) y.items;
        next = subst (λ (rs : List Row). t.next ≡ suc (length rs)) (sym P.to.rows) y.next;
        ready = subst (λ (rs : List Row). (m : ℕ) (r : Row) → row_of rs m ≡ Some r → r.status ≡ Ready → Enabled C t (task_of G.frames r.job)) (sym P.to.rows) y.ready;
        waiting = subst (λ (rs : List Row). (m : ℕ) (r : Row) → row_of rs m ≡ Some r → r.status ≡ Waiting → Enabled C t (task_of G.frames r.job) → ⊥) (sym P.to.rows) y.waiting;
        running = P.to.running ∙ subst (λ (rs : List Row). F.running - 1 ≡ running_in rs) (sym P.to.rows) y.running;
      }

  pub queue_stand : QueueStands C G t
  queue_stand = queue_after C I L es F P.x w n t P.reached P.good G items_stand newly_at P.to.queue

  -- lines
  lines_by : (b : Job) → (code_system C).effect (task_of F.frames b) P.answers ≡ Good (o C I L es F w n t G P).effect → (o C I L es F w n t G P).effect.lines ≡ printed C b (computed_by C (task_of F.frames b) P.answers)
  lines_by Script h = sym (ap (λ (e : Effect Task Place Key Scalar). e.lines) (good_is h))
  lines_by (Does k e c) h =
      let y = computed_by C (task_of F.frames (Does k e c)) P.answers in
      sym (ap (λ (z : Effect Task Place Key Scalar). z.lines) (outcome_is y (is_too_deep (entry C e).act (path_of F.frames k) (instances (entry C e).act (entry C e).offset (path_of F.frames k) c y)) (effect_at C e (path_of F.frames k) c y) (o C I L es F w n t G P).effect h))

  pub ended_stands : Stands C L (es ++ End w n ∷ []) G
  ended_stands = record {
    state = t;
    reached = P.reached;
    names = later;
    items = items_stand;
    frames = frames_after C I L es F w n t G P;
    data_stand = data_after C I L es F w n t G P;
    waits = waits_after C I L es F w n t G P;
    turns = turns_stand C I L es F w n t G P;
    queue = queue_stand;
    lines = P.to.lines ∙ (λ k. P.x.lines k ++ sym (lines_by P.row.job (effect_is C I L es F w n t G P)) k) ∙ sym (o C I L es F w n t G P).lines;
    fault = P.to.fault ∙ sym P.good;
    newly = λ before e old h q. (let p = snoc_first es before (End w n) e h in
        let same : P.x.state ≡ old = some_same (sym P.x.reached ∙ ap (replayed C) p ∙ q) in
        subst (λ (s : CodeState). NewlyAt (code_system C) s t G.newly) same newly_at);
  }

-- an End without fault keeps the fields standing
pub end_stands : (C : Code) → IsCode C → (L : Layout) (es : List Event) (F : Fields) (x : Stands C L es F) (w n : ℕ) (t : CodeState) → replayed C (es ++ End w n ∷ []) ≡ Some t → t.fault ≡ None → (row : Row) → row_of F.rows n ≡ Some row → (xs : List (Answer Key Scalar)) → SeesAll (code_system C) x.state (task_inputs C (task_of F.frames row.job)) xs → (G : Fields) → EndsTo C L F n row.job (computed_by C (task_of F.frames row.job) xs) G → Stands C L (es ++ End w n ∷ []) G
end_stands C I L es F x w n t reached good row row_is xs known G to =
    ended_stands C I L es F w n t G (record { x = x; reached = reached; good = good; row = row; row_is = row_is; answers = xs; known = known; to = to })
