-- Items that learn of their last input: one that waits for no element misses nothing any more.
use Rattle.std.proofs.Common.{◌≡◌, ◌⊎◌, inl, inr, false, ℕ, suc, ◌≤◌, List, [], ◌++◌, length, map, refl, sym, ap, ◌∙◌, subst, Option, None, Some, arith}
use Rattle.std.specs.List.{flat_map, list_all}
use Rattle.std.proofs.lemmas.Bool.{and_parts}
use Rattle.dataflow.specs.System.{In}
use Rattle.dataflow.specs.Machine.{Event, Free}
use Rattle.dataflow.proofs.Lists.{in_map, in_seam}
use Rattle.board_history.specs.Fields.{Does, Fields, Frame, Job, Layout, Row, Script, Slot, Waiter, Want, path_of, row_of, slot_at, slot_for, task_of}
use Rattle.board_history.specs.Needs.{job_missed, missed, still_missed}
use Rattle.board_history.specs.Stands.{AllStand, wanted, wants}
use Rattle.board_history.proofs.EndedBase.{Ending, o, row_there}
use Rattle.board_history.proofs.EndedCells.{names_after}
use Rattle.board_history.proofs.EndedFrames.{frame_stays, old_path}
use Rattle.board_history.proofs.EndedKnown.{stays_later}
use Rattle.board_history.proofs.EndedNames.{Resolved, in_data, resolved_at, row_reads, to_datum, to_literal}
use Rattle.board_history.proofs.EndedRows.{row_kept}
use Rattle.board_history.proofs.EndedSlots.{old_slot}
use Rattle.board_history.proofs.EndedStill.{AllPlain, OneElement, at_name, at_key, plain_still, shapes}
use Rattle.board_history.proofs.EndedWaits as Waits
use Rattle.board_history.proofs.EndedWants.{needs_stand, left_none, none_left}
use Rattle.board_history.proofs.Marking.{RowIs, live_status}
use Rattle.board_history.proofs.Tests.{some_same}
use Rattle.task_code.specs.Code.{Code, Name, Need, Variable, body, entry}
use Rattle.task_code.specs.Effects.{Item, Task}
use Rattle.task_code.specs.Machine.{CodeItem, CodeState}
use Rattle.task_code.specs.Places.{Datum, Place, Step, place_at}
use Rattle.task_code.specs.Shape.{fits_kinds, is_plain}
use Rattle.task_code.specs.System.{code_system, inputs_at, task_reads}
use Rattle.task_code.specs.Whole.{IsCode}
use Rattle.board_items.specs.Ended.{is_plain_job, needs_of}

module _ (C : Code) (I : IsCode C) (L : Layout) (es : List Event) (F : Fields) (w n : ℕ) (t : CodeState) (G : Fields) (P : Ending C L es F w n t G) where
  abbrev names : List (ℕ × Place)
  names = P.x.names

  abbrev later : List (ℕ × Place)
  later = names_after C I L es F w n t G P

  abbrev s : CodeState
  s = P.x.state

  abbrev known : List (Want ℕ)
  known = P.to.known

  -- the needs of an entry whose names stand for places
  module _ (e : ℕ) (p : List Step) (f : Name → Slot) (res : (r : Name) → In r (entry C e).reads → Resolved C names (f r) (place_at C p r)) (nf : (r : Name) → In r (entry C e).reads → (q : List Step) (v : Variable) → place_at C p r ≡ Datum q v → Free (code_system C) t (Datum q v) → ⊥) where
    abbrev rest : CodeState → List Need → List (Want Place)
    rest x ns = flat_map (wanted C x) (flat_map (inputs_at C p) ns)

    -- where all that was missed has become known, nothing is missed
    plain_none : AllPlain (entry C e).needs → (vs : List (Want ℕ)) → AllStand names vs (rest s (entry C e).needs) → still_missed known vs ≡ [] → rest t (entry C e).needs ≡ []
    plain_none pl vs h z = none_left later (rest t (entry C e).needs) (subst (λ (l : List (Want ℕ)). AllStand later l (rest t (entry C e).needs)) z (plain_still C I L es F w n t G P e p f res nf (entry C e).needs (λ m i. i) pl vs h))

    pub short_needs : (vs : List (Want ℕ)) → AllStand names vs (rest s (entry C e).needs) → still_missed known vs ≡ [] → ((length (entry C e).needs ≤ 2) × (list_all is_plain (entry C e).needs ≡ false)) ⊎ (rest t (entry C e).needs ≡ [])
    short_needs vs h z = by (shapes (entry C e).act (entry C e).needs (and_parts (list_all fits_kinds (entry C e).needs) _ (I.shape e)).1)
      where
        few : (ns : List Need) → length ns ≡ 1 → length ns ≤ 2
        few ns q = omega arith

        by : AllPlain (entry C e).needs ⊎ OneElement (entry C e).needs → ((length (entry C e).needs ≤ 2) × (list_all is_plain (entry C e).needs ≡ false)) ⊎ (rest t (entry C e).needs ≡ [])
        by (inl pl) = inr (plain_none pl vs h z)
        by (inr (at_name a r q)) = inl (few (entry C e).needs (ap length q), ap (list_all is_plain) q)
        by (inr (at_key a k q)) = inl (few (entry C e).needs (ap length q), ap (list_all is_plain) q)

  abbrev fs : List (Option Frame)
  fs = F.frames

  abbrev gs : List (Option Frame)
  gs = G.frames

  abbrev others : List CodeItem
  others = (o C I L es F w n t G P).before ++ (o C I L es F w n t G P).after

  -- an item that was there, and is no other than the one that ended
  module _ (i : CodeItem) (h : In i others) where
    r : RowIs F.frames F.rows 1 i
    r = row_there C I L es F w n t G P i (Waits.was_item C I L es F w n t G P i h)

    number_at : suc r.at ≡ i.number
    number_at = let e = r.number_is in omega arith

    not_n : suc r.at ≡ n → ⊥
    not_n e = Waits.other_number C I L es F w n t G P i h (sym number_at ∙ e)

    module _ (k e c : ℕ) (q : r.row.job ≡ Does k e c) where
      frame : (f : Frame) × (slot_at fs k ≡ Some f) × In e (body C f.body).entries
      frame = P.x.frames.there (suc r.at) k e c r.row r.there q r.not_over

      frame_later : (g : Frame) × (slot_at gs k ≡ Some g)
      frame_later = frame_stays C I L es F w n t G P (suc r.at) k e c r.row r.there (live_status r.row.status r.not_over) not_n q

      old_task : i.task ≡ Item e (path_of fs k) c
      old_task = r.task_is ∙ ap (task_of fs) q

      nf : (y : Name) → In y (entry C e).reads → (z : List Step) (v : Variable) → place_at C (path_of fs k) y ≡ Datum z v → Free (code_system C) t (Datum z v) → ⊥
      nf y iy z v at f =
          f.unread i (Waits.old_item_in C I L es F w n t G P i h) (subst (λ (u : Task). In (Datum z v) (task_reads C u)) (sym old_task) (in_data z v (map (place_at C (path_of fs k)) (entry C e).reads) (subst (λ (a : Place). In a (map (place_at C (path_of fs k)) (entry C e).reads)) at (in_map (place_at C (path_of fs k)) y (entry C e).reads iy))))

      res : (y : Name) → In y (entry C e).reads → Resolved C names (slot_for L fs k frame.0.body y) (place_at C (path_of fs k) y)
      res y iy = row_reads C I L es F w n t G P (suc r.at) k e c r.row frame.0 r.there q r.not_over frame.1 y iy

      later_name : (y : Name) → In y (entry C e).reads → Resolved C names (slot_for L fs k frame.0.body y) (place_at C (path_of fs k) y) → Resolved C later (slot_for L fs k frame.0.body y) (place_at C (path_of fs k) y)
      later_name y iy (to_datum d z v px pa g) = to_datum d z v px pa (stays_later C I L es F w n t G P d z v g (nf y iy z v pa))
      later_name y iy (to_literal b m v px pa l) = to_literal b m v px pa l

      path_later : path_of gs k ≡ path_of fs k
      path_later = old_path C I L es F w n t G P k frame.0 frame_later.0 frame.1 frame_later.1

      res_later : (y : Name) → In y (entry C e).reads → Resolved C later (slot_for L gs k frame_later.0.body y) (place_at C (path_of gs k) y)
      res_later y iy =
          resolved_at C later (slot_for L fs k frame.0.body y) (slot_for L gs k frame_later.0.body y) (place_at C (path_of fs k) y) (place_at C (path_of gs k) y)
          (sym (old_slot C I L es F w n t G P k frame.0 frame_later.0 y frame.1 frame_later.1))
          (ap (λ (p : List Step). place_at C p y) (sym path_later))
          (later_name y iy (res y iy))

      -- what it misses by the fields
      job_stand : AllStand later (job_missed C L G (Does k e c)) (wants C t (Item e (path_of gs k) c))
      job_stand =
          subst (λ (l : List (Want ℕ)). AllStand later l (wants C t (Item e (path_of gs k) c))) (sym (ap (λ (x : Option Frame). elim x [ None ↦ [] | Some f ↦ flat_map (missed C G.cells (slot_for L gs k f.body)) (entry C e).needs ]) frame_later.1))
          (needs_stand C I L es F w n t G P e (path_of gs k) (slot_for L gs k frame_later.0.body) res_later (entry C e).needs (λ m g. g))

      short_entry : (vs : List (Want ℕ)) → AllStand names vs (wants C s i.task) → still_missed known vs ≡ [] → ((length (entry C e).needs ≤ 2) × (list_all is_plain (entry C e).needs ≡ false)) ⊎ (job_missed C L G (Does k e c) ≡ [])
      short_entry vs st z =
          elim (short_needs e (path_of fs k) (slot_for L fs k frame.0.body) res nf vs (subst (λ (l : List (Want Place)). AllStand names vs l) (ap (wants C s) old_task) st) z) [
            | inl g ↦ inl g
            | inr g ↦ inr (left_none later (job_missed C L G (Does k e c)) (subst (λ (l : List (Want Place)). AllStand later (job_missed C L G (Does k e c)) l) (ap (λ (p : List Step). wants C t (Item e p c)) path_later ∙ g) job_stand))
          ]

    short_job : (vs : List (Want ℕ)) → AllStand names vs (wants C s i.task) → still_missed known vs ≡ [] → ((needs_of C r.row.job ≤ 2) × (is_plain_job C r.row.job ≡ false)) ⊎ (job_missed C L G r.row.job ≡ [])
    short_job vs st z = by r.row.job refl
      where
        by : (b : Job) → r.row.job ≡ b → ((needs_of C r.row.job ≤ 2) × (is_plain_job C r.row.job ≡ false)) ⊎ (job_missed C L G r.row.job ≡ [])
        by Script q = inr (ap (job_missed C L G) q)
        by (Does k e c) q = subst (λ (j : Job). ((needs_of C j ≤ 2) × (is_plain_job C j ≡ false)) ⊎ (job_missed C L G j ≡ [])) (sym q) (short_entry k e c q vs st z)

  -- an item for which all that it missed has become known
  pub short_waiter : (v : Waiter) → In v F.waiting → still_missed known v.missing ≡ [] → (q : Row) → row_of (Waits.rows C I L es F w n t G P) v.item ≡ Some q → ((needs_of C q.job ≤ 2) × (is_plain_job C q.job ≡ false)) ⊎ (job_missed C L G q.job ≡ [])
  short_waiter v iv z q there =
      elim (in_seam m.0 (o C I L es F w n t G P).item (o C I L es F w n t G P).before (o C I L es F w n t G P).after (subst (λ (is : List CodeItem). In m.0 is) (o C I L es F w n t G P).there m.1)) [
        | inl g ↦ of m.0 g m.2 m.4
        | inr same ↦ absurd (m.3 (left_none names v.missing (subst (λ (l : List (Want Place)). AllStand names v.missing l) (ap (λ (k : CodeItem). wants C s k.task) same ∙ Waits.own_enabled C I L es F w n t G P) m.4)))
      ]
    where
      m : (i : CodeItem) × In i s.items × (i.number ≡ v.item) × (v.missing ≡ [] → ⊥) × AllStand names v.missing (wants C s i.task)
      m = P.x.waits.missing v iv

      of : (i : CodeItem) → In i others → i.number ≡ v.item → AllStand names v.missing (wants C s i.task) → ((needs_of C q.job ≤ 2) × (is_plain_job C q.job ≡ false)) ⊎ (job_missed C L G q.job ≡ [])
      of i g e st =
          subst (λ (y : Row). ((needs_of C y.job ≤ 2) × (is_plain_job C y.job ≡ false)) ⊎ (job_missed C L G y.job ≡ [])) (some_same (sym (ap (row_of (Waits.rows C I L es F w n t G P)) (sym (number_at i g ∙ e)) ∙ row_kept F.rows _ (suc (r i g).at) (r i g).row (r i g).there) ∙ there)) (short_job i g v.missing st z)
