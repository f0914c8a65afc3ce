-- Data after an End.
use Rattle.std.proofs.Common.{◌≡◌, ◌∙◌, refl, sym, ap, subst, inl, inr, ℕ, ◌<◌, ◌≤◌, ◌+◌, ◌-◌, List, [], option_map, Option, Some, None, true, false, ◌==◌, ◌&&◌, arith}
use Rattle.std.specs.Prelude.{if◌then◌else◌, nat_eq}
use Rattle.std.proofs.lemmas.Bool.{cases_eq, cases_Bool, eqb-true, eq-eqb}
use Rattle.data_store.specs.Data.{is_spent, kept, with_holds}
use Rattle.data_store.specs.Stores.{Store, at}
use Rattle.data_store.specs.declared.datum.Content.{Content}
use Rattle.data_store.specs.declared.datum.Datum.{Datum}
use Rattle.dataflow.specs.System.{Opening}
use Rattle.board_history.specs.Ending.{CellAfter, ContentAfter, Instance, added_times, given_times, kept_cell}
use Rattle.board_history.specs.Fields.{Counted, Frame, Job, Layout, slot_at}
use Rattle.task_code.specs.Code.{Code}
use Rattle.task_code.specs.Compute.{Computed, Elements}
use Rattle.task_code.specs.Effects.{Task}
use Rattle.task_code.specs.Places.{Place}
use Rattle.board_data.specs.Ended.{Changes, Covers, JobChanges}
use Rattle.board_program.specs.Tables.{is_place}
use Rattle.board_data.specs.View.{cell_view, cells_view, content_view}
use Rattle.board_data.proofs.Cells.{cell_there}
use Rattle.board_data.proofs.Given.{kept_gone, kept_there, spent_zero}

-- what is kept, as it is seen
kept_seen : (c : Content) (r w : ℕ) → option_map cell_view (kept (record { content = c; reads = r; writes = w })) ≡ kept_cell r w (content_view c)
kept_seen c r w = elim (cases_Bool (is_spent x)) [
  | inl gone ↦ (let z = spent_zero x gone in
      ap (option_map cell_view) (kept_gone x gone) ∙ sym (ap (λ b. if b then None else Some (cell_view x)) (eq-eqb (r + w) 0 (omega (arith, z.0, z.1)))))
  | inr more ↦ ap (option_map cell_view) (kept_there x more) ∙ sym (ap (λ b. if b then None else Some (cell_view x)) (some more))
]
  where
    x : Datum
    x = record { content = c; reads = r; writes = w }

    both : (a b : ℕ) → a ≡ 0 → b ≡ 0 → ((a == 0) && (b == 0)) ≡ true
    both a b p q = ap (λ n. (n == 0) && (b == 0)) p ∙ ap (λ n. (0 == 0) && (n == 0)) q

    some : is_spent x ≡ false → nat_eq (r + w) 0 ≡ false
    some more = elim (cases_Bool (nat_eq (r + w) 0)) [
      | inl t ↦ (let e = eqb-true (r + w) 0 t in
          let q : true ≡ false = sym (both r w (omega (arith, e)) (omega (arith, e))) ∙ more in absurd cc)
      | inr f ↦ f
    ]

positive : (x : Datum) → is_spent x ≡ false → 0 < x.reads + x.writes
positive x h = elim (cases_eq (x.reads + x.writes) 0) [
  | inl e ↦ (let q : true ≡ false = sym (zero_both x.reads x.writes (omega (arith, e)) (omega (arith, e))) ∙ h in absurd cc)
  | inr n ↦ omega (arith, n)
]
  where
    zero_both : (a b : ℕ) → a ≡ 0 → b ≡ 0 → ((a == 0) && (b == 0)) ≡ true
    zero_both a b p q = ap (λ n. (n == 0) && (b == 0)) p ∙ ap (λ n. (0 == 0) && (n == 0)) q

not_spent : (x : Datum) → 0 < x.reads + x.writes → is_spent x ≡ false
not_spent x h = elim (cases_Bool (is_spent x)) [ inl t ↦ absurd (omega (arith, h, (spent_zero x t).0, (spent_zero x t).1)) | inr f ↦ f ]

module _ (target : Option ℕ) (values : Elements) (ar aw gr gw : ℕ → ℕ) (s t : Store) (ch : Changes target values ar aw gr gw s t) (cov : Covers gr gw s) where
  -- a datum that was there
  pub was_there : (d : ℕ) (x : Datum) → at s d ≡ Some x → (c : Content) × (at t d ≡ kept (record { content = c; reads = (x.reads + ar d) - gr d; writes = (x.writes + aw d) - gw d })) × ContentAfter (content_view x.content) (if is_place d target then values else []) (content_view c)
  was_there d x e =
      let st = ch.stores.there d x e in
      let held = cov.held d x e in
      let y : Datum = record { content = st.0; reads = x.reads + ar d; writes = x.writes + aw d } in
      let now : at ch.more d ≡ Some y = ch.adds d ∙ ap (option_map (with_holds (ar d) (aw d))) (ch.makes d (record { content = st.0; reads = x.reads; writes = x.writes }) st.1) in
      (st.0, ch.gives.there d y now (not_spent y (more x.reads x.writes (ar d) (aw d) (positive x held.0))) (up x.reads (ar d) (gr d) held.1) (up x.writes (aw d) (gw d) held.2), st.2)
    where
      more : (a b c d : ℕ) → 0 < a + b → 0 < (a + c) + (b + d)
      more a b c d h = omega (arith, h)

      up : (a b c : ℕ) → c ≤ a → c ≤ a + b
      up a b c h = omega (arith, h)

  -- one that was made
  pub was_made : (d : ℕ) (y : Datum) → at s d ≡ None → at ch.made d ≡ Some y → is_spent y ≡ false → ar d ≡ 0 → aw d ≡ 0 → at t d ≡ Some y
  was_made d y e m n a b =
      let none = cov.absent d e in
      let same : with_holds (ar d) (aw d) y ≡ y = ap (λ k. record { content = y.content; reads = k; writes = y.writes + aw d }) (plus y.reads (ar d) a) ∙ ap (λ k. record { content = y.content; reads = y.reads; writes = k }) (plus y.writes (aw d) b) in
      let now : at ch.more d ≡ Some y = ch.adds d ∙ ap (option_map (with_holds (ar d) (aw d))) m ∙ ap Some same in
      ch.gives.there d y now n (few y.reads (gr d) none.0) (few y.writes (gw d) none.1)
      ∙ ap kept (ap (λ k. record { content = y.content; reads = k; writes = y.writes - gw d }) (less y.reads (gr d) none.0) ∙ ap (λ k. record { content = y.content; reads = y.reads; writes = k }) (less y.writes (gw d) none.1))
      ∙ kept_there y n
    where
      plus : (a b : ℕ) → b ≡ 0 → a + b ≡ a
      plus a b h = omega (arith, h)

      few : (a b : ℕ) → b ≡ 0 → b ≤ a
      few a b h = omega (arith, h)

      less : (a b : ℕ) → b ≡ 0 → a - b ≡ a
      less a b h = omega (arith, h)

  -- nothing else is there
  pub is_only : (d : ℕ) (y : Datum) → at t d ≡ Some y → (x : Datum) × (at ch.made d ≡ Some x)
  is_only d y e = by (at ch.made d) refl
    where
      by : (c : Option Datum) → at ch.made d ≡ c → (x : Datum) × (at ch.made d ≡ Some x)
      by None q = (let n = ch.gives.nothing d (ch.adds d ∙ ap (option_map (with_holds (ar d) (aw d))) q) in
          let z : None ≡ Some y = sym n ∙ e in absurd cc)
      by (Some x) q = (x, q)

-- in the words of an End
pub cell_after : (C : Code) (L : Layout) (fs hs : List (Option Frame)) (j : Job) (x : Computed) (made : List Instance) (os : List (Opening Task Place)) (target : Option ℕ) (values : Elements) (s t : Store) →
    JobChanges C L fs hs j x made os target values s t → (d : ℕ) (c : Counted) → slot_at (cells_view s.cells) d ≡ Some c → CellAfter C L fs hs j x made os d c (slot_at (cells_view t.cells) d)
cell_after C L fs hs j x made os target values s t ch d c e = by (at s d) refl (sym (cell_there s.cells d) ∙ e)
  where
    by : (o : Option Datum) → at s d ≡ o → option_map cell_view (at s d) ≡ Some c → CellAfter C L fs hs j x made os d c (slot_at (cells_view t.cells) d)
    by None q h = (let z : None ≡ Some c = sym (ap (option_map cell_view) q) ∙ h in absurd cc)
    by (Some y) q h =
        let z : Some (cell_view y) ≡ Some c = sym (ap (option_map cell_view) q) ∙ h in
        let same : cell_view y ≡ c = cc in
        let w = was_there target values (λ d. added_times C L (λ e. e.reads) hs d made) (λ d. added_times C L (λ e. e.writes) hs d made) (λ d. given_times C L (λ e. e.reads) fs d j os) (λ d. given_times C L (λ e. e.writes) fs d j os) s t ch.1 ch.2 d y q in
        let held = ch.2.held d y q in
        subst (λ k. CellAfter C L fs hs j x made os d k (slot_at (cells_view t.cells) d)) same (record {
          reads = (y.reads + added_times C L (λ e. e.reads) hs d made) - given_times C L (λ e. e.reads) fs d j os;
          writes = (y.writes + added_times C L (λ e. e.writes) hs d made) - given_times C L (λ e. e.writes) fs d j os;
          content = content_view w.0;
          reads_are = back y.reads (added_times C L (λ e. e.reads) hs d made) (given_times C L (λ e. e.reads) fs d j os) held.1;
          writes_are = back y.writes (added_times C L (λ e. e.writes) hs d made) (given_times C L (λ e. e.writes) fs d j os) held.2;
          stores = subst (λ vs. ContentAfter (content_view y.content) vs (content_view w.0)) (ch.0 d) w.2;
          is = cell_there t.cells d ∙ ap (option_map cell_view) w.1 ∙ kept_seen w.0 ((y.reads + added_times C L (λ e. e.reads) hs d made) - given_times C L (λ e. e.reads) fs d j os) ((y.writes + added_times C L (λ e. e.writes) hs d made) - given_times C L (λ e. e.writes) fs d j os);
        })
      where
        back : (a b g : ℕ) → g ≤ a → ((a + b) - g) + g ≡ a + b
        back a b g h = omega (arith, h)
