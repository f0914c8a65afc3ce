-- The turns that items of a board keep after an End without fault.
use Rattle.std.proofs.Common.{◌≡◌, inl, inr, ℕ, zero, suc, ◌+◌, ◌<◌, List, [], ◌∷◌, ◌++◌, map, length, refl, sym, ap, ◌∙◌, subst, Option, Some, true, arith}
use Rattle.std.specs.Prelude.{drop}
use Rattle.dataflow.specs.System.{Answer, ClosedArray, Content, ElementAt, ElementOf, Found, In, Input, Missing, Opening, StoredScalar, reads_of}
use Rattle.dataflow.specs.Log.{Logged}
use Rattle.dataflow.specs.Machine.{ClosedByRights, Event, Free, HasContent, Holds, Sees, SeesAll, SeesElement}
use Rattle.dataflow.proofs.Known.{answers_are_one, sees}
use Rattle.dataflow.proofs.Lists.{makes_in, in_map}
use Rattle.dataflow.proofs.Runs.{run_settled}
use Rattle.dataflow.proofs.Settled.{live_valid}
use Rattle.board_history.specs.Elements.{code_tests}
use Rattle.board_history.specs.Ending.{jobs_after, missed_first, new_row, turns_after, turns_of_new}
use Rattle.board_history.specs.Fields.{Does, Fields, Frame, Job, Layout, Want, path_of, row_of, task_of}
use Rattle.board_history.specs.Replay.{answers}
use Rattle.board_history.specs.Stands.{AllStand, TurnsStand, kept_turns, turns_left, wants}
use Rattle.board_history.specs.Static.{computed_by}
use Rattle.board_history.proofs.Elements.{code_told}
use Rattle.board_history.proofs.EndedBase.{Ending, can, computed, follows, follows_t, here, log, made_is, made_new, o, one_s, one_t, own_task, value_was}
use Rattle.board_history.proofs.EndedCells.{names_after}
use Rattle.board_history.proofs.EndedContents.{held_on}
use Rattle.board_history.proofs.EndedFrames.{new_job_is, os, old_path, own_frame, home_stays}
use Rattle.board_history.proofs.EndedKnown.{closed_stays}
use Rattle.board_history.proofs.EndedQueue.{turns_told}
use Rattle.board_history.proofs.EndedRows.{NewItem, row_of_new}
use Rattle.board_history.proofs.EndedWaits.{item_split, new_stand, none_stays, other_number, was_item}
use Rattle.board_history.proofs.EndedBase.{row_there}
use Rattle.board_history.proofs.Seen.{all_known, all_told, answers_see}
use Rattle.board_history.proofs.Standing.{enabled_wants, wants_enabled}
use Rattle.task_code.proofs.Kept.{code_laws}
use Rattle.task_code.specs.Code.{Code, body}
use Rattle.task_code.specs.Compute.{Elements, key_of}
use Rattle.task_code.specs.Effects.{Item, Main, Task, left_at, only, turns_of}
use Rattle.task_code.specs.Machine.{CodeItem, CodeState, Enabled}
use Rattle.task_code.specs.Places.{Datum, Place, Step}
use Rattle.task_code.specs.System.{code_system, task_inputs}
use Rattle.task_code.specs.Whole.{IsCode}
use Rattle.values.specs.declared.key.Key.{Key}
use Rattle.values.specs.declared.value.Scalar.{Scalar}
use Rattle.board_history.proofs.EndedWants.{none_left}
use Rattle.values.specs.Limits.{chunk_size}

-- what is left a chunk further
left_more : (c : ℕ) (ts : Elements) → drop chunk_size (left_at c ts) ≡ left_at (suc c) ts
left_more zero ts = refl
left_more (suc c) ts = left_more c (drop chunk_size ts)

module _ (C : Code) (I : IsCode C) (L : Layout) (es : List Event) (F : Fields) (w n : ℕ) (t : CodeState) (G : Fields) (P : Ending C L es F w n t G) where
  abbrev fs : List (Option Frame)
  fs = F.frames

  abbrev gs : List (Option Frame)
  gs = G.frames

  -- nothing is written into a closed array
  not_written : (a : Place) → ClosedByRights (code_system C) P.x.state a → (k : Key) (v : Scalar) → In (record { place = a; key = k; value = v }) (o C I L es F w n t G P).effect.writes → ⊥
  not_written a c k v h =
      elim ((code_laws C I).writes_covered (o C I L es F w n t G P).item.task (o C I L es F w n t G P).effect (can C I L es F w n t G P) (record { place = a; key = k; value = v }) h) [
        | inl m ↦ c.nobody (o C I L es F w n t G P).item (here C I L es F w n t G P) m
        | inr q ↦ (let b = made_is C I L es F w n t G P a (makes_in a q.0 (o C I L es F w n t G P).effect.opens q.1 q.2) in
            made_new C I L es F w n t G P b.0 b.2 a (subst (λ (y : Place). In y (map (Datum b.0.1) (body C b.0.0).makes)) (sym b.4) (in_map (Datum b.0.1) b.1 (body C b.0.0).makes b.3)) c.there)
      ]

  closed_was : (a : Place) → ClosedByRights (code_system C) P.x.state a → (k : Key) (v : Scalar) → Holds (code_system C) t a k v → Holds (code_system C) P.x.state a k v
  closed_was a c k v h =
      elim (value_was C I L es F w n t G P (record { place = a; key = k; value = v }) h) [ inl g ↦ absurd (not_written a c k v g) | inr g ↦ g ]

  -- what is seen is seen later
  element_on : (a : Place) (k : Key) (x : Answer Key Scalar) → (Free (code_system C) t a → ⊥) → SeesElement (code_system C) P.x.state a k x → SeesElement (code_system C) t a k x
  element_on a k (Found v) nf h = held_on C I L es F w n t G P a k v nf h
  element_on a k Missing nf h = record { closed = closed_stays C I L es F w n t G P a nf h.closed; none = λ v g. h.none v (closed_was a h.closed k v g) }
  element_on a k (Content xs) nf h = h

  content_on : (a : Place) (xs : Elements) → (Free (code_system C) t a → ⊥) → HasContent (code_system C) P.x.state a xs → HasContent (code_system C) t a xs
  content_on a xs nf h = record {
    closed = closed_stays C I L es F w n t G P a nf h.closed;
    in_order = h.in_order;
    all = λ k v g. h.all k v (closed_was a h.closed k v g);
    only = λ k v g. held_on C I L es F w n t G P a k v nf (h.only k v g);
  }

  sees_on : (i : Input Place Key) (x : Answer Key Scalar) → ((a : Place) → In a (reads_of i) → Free (code_system C) t a → ⊥) → Sees (code_system C) P.x.state i x → Sees (code_system C) t i x
  sees_on (StoredScalar d) x nf h = (h.0, held_on C I L es F w n t G P d only h.0 (nf d (inl refl)) h.1, h.2)
  sees_on (ClosedArray a) x nf h = (h.0, content_on a h.0 (nf a (inl refl)) h.1, h.2)
  sees_on (ElementOf a k) x nf h = element_on a k x (nf a (inl refl)) h
  sees_on (ElementAt a d) x nf h = (h.0, held_on C I L es F w n t G P d only h.0 (nf d (inr (inl refl))) h.1, element_on a (key_of h.0) x (nf a (inl refl)) h.2)

  all_on : (is : List (Input Place Key)) (xs : List (Answer Key Scalar)) → ((i : Input Place Key) → In i is → (a : Place) → In a (reads_of i) → Free (code_system C) t a → ⊥) → SeesAll (code_system C) P.x.state is xs → SeesAll (code_system C) t is xs
  all_on [] [] nf h = tt
  all_on [] (x ∷ xs) nf h = absurd h
  all_on (i ∷ is) [] nf h = absurd h
  all_on (i ∷ is) (x ∷ xs) nf h = (sees_on i x (nf i (inl refl)) h.0, all_on is xs (λ j g. nf j (inr g)) h.1)

  -- the answers of an item that is there afterwards
  answers_later : (i : CodeItem) → In i t.items → (xs : List (Answer Key Scalar)) → SeesAll (code_system C) P.x.state (task_inputs C i.task) xs → SeesAll (code_system C) t (task_inputs C i.task) xs
  answers_later i h xs seen = all_on (task_inputs C i.task) xs used seen
    where
      valid : (code_system C).valid i.task ≡ true
      valid =
          let f = follows_t C I L es F w n t G P in
          live_valid (code_system C) (code_laws C I) (Logged (code_system C) _) (run_settled (code_system C) (code_laws C I) f.run).0 (f.items.waits i h).live

      used : (x : Input Place Key) → In x (task_inputs C i.task) → (a : Place) → In a (reads_of x) → Free (code_system C) t a → ⊥
      used x ix a ia f = f.unread i h ((code_laws C I).reads_covered i.task x a valid ix ia)

  told_s : (i : CodeItem) → In i P.x.state.items → (xs : List (Answer Key Scalar)) → SeesAll (code_system C) P.x.state (task_inputs C i.task) xs → answers (code_system C) code_tests P.x.state (task_inputs C i.task) ≡ Some xs
  told_s i h xs known =
      let one = one_s C I L es F w n t G P in
      let a = all_told (code_system C) code_tests (code_told C) P.x.state one (task_inputs C i.task) (all_known (code_system C) code_tests (code_told C) P.x.state (task_inputs C i.task) xs known) in
      a.1 ∙ ap Some ((answers_are_one (code_system C) (code_laws C I) P.x.state (log C I L es F w n t G P) (follows C I L es F w n t G P)).one i h a.0 xs (answers_see (code_system C) code_tests (code_told C) P.x.state one (task_inputs C i.task) a.0 a.1) known)

  told_t : (i : CodeItem) → In i t.items → (xs : List (Answer Key Scalar)) → SeesAll (code_system C) t (task_inputs C i.task) xs → answers (code_system C) code_tests t (task_inputs C i.task) ≡ Some xs
  told_t i h xs known =
      let one = one_t C I L es F w n t G P in
      let a = all_told (code_system C) code_tests (code_told C) t one (task_inputs C i.task) (all_known (code_system C) code_tests (code_told C) t (task_inputs C i.task) xs known) in
      a.1 ∙ ap Some ((answers_are_one (code_system C) (code_laws C I) t _ (follows_t C I L es F w n t G P)).one i h a.0 xs (answers_see (code_system C) code_tests (code_told C) t one (task_inputs C i.task) a.0 a.1) known)

  -- an item that was there keeps its turns
  old_turns : (i : CodeItem) → In i P.x.state.items → In i t.items → kept_turns C t i.task ≡ kept_turns C P.x.state i.task
  old_turns i h g = by i.task refl
    where
      by : (u : Task) → i.task ≡ u → kept_turns C t i.task ≡ kept_turns C P.x.state i.task
      by Main q = ap (kept_turns C t) q ∙ sym (ap (kept_turns C P.x.state) q)
      by (Item e p zero) q = ap (kept_turns C t) q ∙ sym (ap (kept_turns C P.x.state) q)
      by (Item e p (suc c)) q =
          let en = P.x.turns.going i h e c p q in
          let xs = sees (code_system C) (code_laws C I) P.x.state (log C I L es F w n t G P) (follows C I L es F w n t G P) i.task en in
          ap (turns_left C i.task) (told_t i g xs.0 (answers_later i g xs.0 xs.1) ∙ sym (told_s i h xs.0 xs.1))

  -- the one that goes on with the loop keeps the rest
  rest_turns : (k e c : ℕ) → P.row.job ≡ Does k e c → turns_after (computed C I L es F w n t G P) c (F.turns n) ≡ Some (left_at (suc c) (turns_of (computed C I L es F w n t G P)))
  rest_turns k e zero q = refl
  rest_turns k e (suc c) q =
      let told = turns_told C I L es F P.x (o C I L es F w n t G P).item (here C I L es F w n t G P) e c (path_of fs k) (own_task C I L es F w n t G P ∙ ap (task_of fs) q) P.answers (subst (λ (u : Task). SeesAll (code_system C) P.x.state (task_inputs C u) P.answers) (sym (own_task C I L es F w n t G P)) P.known) in
      let kept : F.turns n ≡ Some (left_at (suc c) (turns_of (computed C I L es F w n t G P))) = ap F.turns (sym (o C I L es F w n t G P).number_is) ∙ told ∙ ap (λ (u : Task). Some (left_at (suc c) (turns_of (computed_by C u P.answers)))) (own_task C I L es F w n t G P) in
      ap (turns_after (computed C I L es F w n t G P) (suc c)) kept ∙ ap Some (left_more (suc c) (turns_of (computed C I L es F w n t G P)))

  abbrev ended_os : List (Opening Task Place)
  ended_os = os C I L es F w n t G P

  abbrev jobs : List Job
  jobs = jobs_after C P.to.made P.row.job ended_os

  -- a new item
  module _ (i : CodeItem) (h : In i t.items) (x : NewItem (task_of gs) (suc (length F.rows)) jobs i) where
    row_now : (length F.rows < i.number) × (row_of (F.rows ++ map new_row jobs) i.number ≡ Some (new_row x.job))
    row_now =
        let number : i.number ≡ length F.rows + suc x.at = (let e = x.number_is in omega arith) in
        (omega arith, ap (row_of (F.rows ++ map new_row jobs)) number ∙ row_of_new F.rows jobs x.at ∙ x.there)

    told : G.turns i.number ≡ turns_of_new (computed C I L es F w n t G P) (F.turns n) x.job
    told = P.to.turns.new i.number (new_row x.job) row_now.0 row_now.1

    rest_task : (k e c : ℕ) → P.row.job ≡ Does k e c → x.job ≡ Does k e (suc c) → 0 < length ended_os → i.task ≡ Item e (path_of fs k) (suc c)
    rest_task k e c q jq some =
        let f = own_frame C I L es F w n t G P k e c q in
        let g = home_stays C I L es F w n t G P k e c q some in
        x.task_is ∙ ap (task_of gs) jq ∙ ap (λ (p : List Step). Item e p (suc c)) (old_path C I L es F w n t G P k f.0 g.0 f.1 g.1)

    rest_kept : (k e c : ℕ) → P.row.job ≡ Does k e c → x.job ≡ Does k e (suc c) → 0 < length ended_os → kept_turns C t i.task ≡ Some (left_at (suc c) (turns_of (computed C I L es F w n t G P)))
    rest_kept k e c q jq some =
        let tk = rest_task k e c q jq some in
        let same : task_of fs P.row.job ≡ Item e (path_of fs k) c = ap (task_of fs) q in
        let seen : SeesAll (code_system C) P.x.state (task_inputs C i.task) P.answers = subst (λ (u : Task). SeesAll (code_system C) P.x.state (task_inputs C u) P.answers) (sym tk) (subst (λ (u : Task). SeesAll (code_system C) P.x.state (task_inputs C u) P.answers) same P.known) in
        ap (turns_left C i.task) (told_t i h P.answers (answers_later i h P.answers seen))
        ∙ ap (λ (u : Task). turns_left C u (Some P.answers)) tk
        ∙ ap (λ (u : Task). Some (left_at (suc c) (turns_of (computed_by C u P.answers)))) (sym same)

    new_kept : G.turns i.number ≡ kept_turns C t i.task
    new_kept =
        elim (new_job_is C I L es F w n t G P x.job x.job_in).is [
          | inl u ↦ told ∙ ap (turns_of_new (computed C I L es F w n t G P) (F.turns n)) u.4 ∙ sym (ap (kept_turns C t) (x.task_is ∙ ap (task_of gs) u.4))
          | inr u ↦ told ∙ ap (turns_of_new (computed C I L es F w n t G P) (F.turns n)) u.4 ∙ rest_turns u.0 u.1 u.2 u.3 ∙ sym (rest_kept u.0 u.1 u.2 u.3 u.4 u.5)
        ]

    chunk_is : {B : Type 0} {e f c : ℕ} {p q : List Step} → Item e p 0 ≡ Item f q (suc c) → B
    chunk_is {B} {e} {f} {c} h = let z : 0 ≡ suc c = cc (h) in absurd (omega arith)

    new_going : (e c : ℕ) (p : List Step) → i.task ≡ Item e p (suc c) → Enabled C t i.task
    new_going e c p q =
        elim (new_job_is C I L es F w n t G P x.job x.job_in).is [
          | inl u ↦ chunk_is (sym (x.task_is ∙ ap (task_of gs) u.4) ∙ q)
          | inr u ↦ (let st = new_stand C I L es F w n t G P i x h in
              let z = none_left (names_after C I L es F w n t G P) (wants C t (task_of gs x.job)) (subst (λ (l : List (Want ℕ)). AllStand (names_after C I L es F w n t G P) l (wants C t (task_of gs x.job))) (ap (missed_first C L G) u.4) st) in
              wants_enabled C t (one_t C I L es F w n t G P) i.task (ap (wants C t) x.task_is ∙ z))
        ]

  -- turns afterwards
  pub turns_stand : TurnsStand C G t
  turns_stand = record { kept = kept; going = going }
    where
      kept : (i : CodeItem) → In i t.items → G.turns i.number ≡ kept_turns C t i.task
      kept i h = elim (item_split C I L es F w n t G P i h) [ inl g ↦ old g | inr x ↦ new_kept i h x ]
        where
          old : In i ((o C I L es F w n t G P).before ++ (o C I L es F w n t G P).after) → G.turns i.number ≡ kept_turns C t i.task
          old g =
              let b = was_item C I L es F w n t G P i g in
              let r = row_there C I L es F w n t G P i b in
              let at : suc r.at ≡ i.number = (let e = r.number_is in omega arith) in
              P.to.turns.others i.number r.row (subst (λ (m : ℕ). row_of F.rows m ≡ Some r.row) at r.there) r.not_over (other_number C I L es F w n t G P i g)
              ∙ P.x.turns.kept i b ∙ sym (old_turns i b h)

      going : (i : CodeItem) → In i t.items → (e c : ℕ) (p : List Step) → i.task ≡ Item e p (suc c) → Enabled C t i.task
      going i h e c p q =
          elim (item_split C I L es F w n t G P i h) [
            | inl g ↦ (let b = was_item C I L es F w n t G P i g in
                let z = enabled_wants C P.x.state (one_s C I L es F w n t G P) i.task (P.x.turns.going i b e c p q) in
                wants_enabled C t (one_t C I L es F w n t G P) i.task (none_stays C I L es F w n t G P i g z))
            | inr x ↦ new_going i h x e c p q
          ]
