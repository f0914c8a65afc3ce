-- What becomes known.
use Rattle.std.proofs.Common.{◌≡◌, ◌∙◌, refl, sym, ap, subst, inl, inr, ℕ, zero, suc, ◌+◌, ◌-◌, ◌<◌, ◌≤◌, true, false, List, [], Option, Some, None, option_map, arith}
use Rattle.std.specs.Prelude.{if◌then◌else◌, nat_eq, ◌&&◌}
use Rattle.std.proofs.lemmas.Bool.{cases_Bool}
use Rattle.dataflow.specs.System.{In, Opening}
use Rattle.data_store.specs.Data.{is_spent, kept, with_holds}
use Rattle.data_store.specs.Stores.{Store, at}
use Rattle.data_store.specs.declared.datum.Content.{Content}
use Rattle.data_store.specs.declared.datum.Content.TheVariants.{OfArray, OfScalar}
use Rattle.data_store.specs.declared.datum.Datum.{Datum}
use Rattle.board_history.proofs.Next.{nat_sound}
use Rattle.board_history.specs.Ending.{ContentAfter, Instance, IsOwn, added_times, given_times}
use Rattle.board_history.specs.Fields.{AnElement, Counted, DatumOf, Frame, Job, Layout, Want, Whole, slot_at}
use Rattle.board_history.specs.Fields as Pure
use Rattle.board_history.specs.Needs.{cell_known, is_array_content, is_known}
use Rattle.board_history.specs.Static.{own_count}
use Rattle.task_code.specs.Code.{Code, Variable}
use Rattle.task_code.specs.Compute.{Computed, Elements}
use Rattle.task_code.specs.Effects.{Task}
use Rattle.task_code.specs.Places.{Place}
use Rattle.board_program.specs.Tables.{is_place}
use Rattle.board_data.proofs.Cells.{cell_there}
use Rattle.board_data.proofs.Given.{kept_gone, kept_there, spent_zero}
use Rattle.board_data.specs.Data.{is_keyed}
use Rattle.board_data.specs.Ended.{Covers}
use Rattle.board_data.specs.Holds.{Closes, GivesUp, fewer}
use Rattle.board_data.specs.Stored.{StoresIn}
use Rattle.board_data.specs.View.{cell_view, cells_view, content_view}
use Rattle.board_changes.proofs.After.{seen_none, seen_there, some_none}
use Rattle.board_changes.specs.Data.{MakesData}

-- an array, as it is seen
pub array_seen : (y : Datum) → is_array_content (content_view y.content) ≡ is_keyed (Some y)
array_seen y = by y.content
  where
    by : (c : Content) → is_array_content (content_view c) ≡ is_keyed (Some (record { content = c; reads = y.reads; writes = y.writes }))
    by (OfScalar None) = refl
    by (OfScalar (Some v)) = refl
    by (OfArray a) = refl

-- a datum without holds for writing that is an array is known
array_known : (c : Content) (r w : ℕ) → is_keyed (Some (record { content = c; reads = r; writes = w })) ≡ true → w ≡ 0 → cell_known (Some (record { reads = r; writes = w; content = content_view c })) ≡ true
array_known (OfScalar None) r w k n = absurd (cc)
array_known (OfScalar (Some v)) r w k n = absurd (cc)
array_known (OfArray a) r w k n = ap (λ (z : ℕ). nat_eq z 0) n

-- a datum that is kept or gone
pub kept_known : (y : Datum) (t : Store) (d : ℕ) → at t d ≡ kept y → (cell_known (Some (cell_view y)) ≡ true) → is_known (cells_view t.cells) (Whole d) ≡ true
kept_known y t d e h = elim (cases_Bool (is_spent y)) [
  | inl gone ↦ ap cell_known (cell_there t.cells d ∙ ap (option_map cell_view) (e ∙ kept_gone y gone))
  | inr stays ↦ ap cell_known (cell_there t.cells d ∙ ap (option_map cell_view) (e ∙ kept_there y stays)) ∙ h
]

module _ (C : Code) (L : Layout) (fs hs : List (Option Frame)) (j : Job) (x : Computed) (ms : List Instance) (os : List (Opening Task Place)) (target : Option ℕ) (values : Elements) (s stored made more t : Store)
    (stores : StoresIn target values s stored) (makes : MakesData C L fs hs j x ms stored made)
    (adds : (d : ℕ) → at more d ≡ option_map (with_holds (added_times C L (λ e. e.reads) hs d ms) (added_times C L (λ e. e.writes) hs d ms)) (at made d))
    (gives : GivesUp (λ d. given_times C L (λ e. e.reads) fs d j os) (λ d. given_times C L (λ e. e.writes) fs d j os) more t)
    (cov : Covers (λ d. given_times C L (λ e. e.reads) fs d j os) (λ d. given_times C L (λ e. e.writes) fs d j os) s) where
  abbrev gr : ℕ → ℕ
  gr d = given_times C L (λ e. e.reads) fs d j os

  abbrev gw : ℕ → ℕ
  gw d = given_times C L (λ e. e.writes) fs d j os

  not_spent : (y : Datum) → 0 < y.reads + y.writes → is_spent y ≡ false
  not_spent y h = elim (cases_Bool (is_spent y)) [ inl z ↦ (let p = spent_zero y z in absurd (omega (arith, h, p.0, p.1))) | inr f ↦ f ]

  used : (y : Datum) → is_spent y ≡ false → 0 < y.reads + y.writes
  used y h = elim (cases_Bool (nat_eq (y.reads + y.writes) 0)) [
    | inl z ↦ (let e = nat_sound (y.reads + y.writes) 0 z in
        let q : true ≡ false = sym (zero_both y.reads y.writes (omega (arith, e)) (omega (arith, e))) ∙ h in absurd cc)
    | inr f ↦ positive (y.reads + y.writes) f
  ]
    where
      zero_both : (a b : ℕ) → a ≡ 0 → b ≡ 0 → (nat_eq a 0 && nat_eq b 0) ≡ true
      zero_both a b p q = ap (λ n. nat_eq n 0 && nat_eq b 0) p ∙ ap (λ n. nat_eq n 0) q

      positive : (n : ℕ) → nat_eq n 0 ≡ false → 0 < n
      positive zero f = absurd (cc)
      positive (suc n) f = omega arith

  -- before the item gives up, each datum has what is given up
  pub record Enough (d : ℕ) (y : Datum) : Type 0 where
    pub fresh : is_spent y ≡ false
    pub reads : given_times C L (λ e. e.reads) fs d j os ≤ y.reads
    pub writes : given_times C L (λ e. e.writes) fs d j os ≤ y.writes

  made_enough : (d : ℕ) (z : Datum) → at made d ≡ Some z → (0 < z.reads + z.writes) × (gr d ≤ z.reads) × (gw d ≤ z.writes)
  made_enough d z e = elim (makes.only d z e) [
    | inl was ↦ old z was (at s d) refl
    | inr own ↦ new own.0 own.1 own.2 own.3
  ]
    where
      old : (z : Datum) → at stored d ≡ Some z → (r : Option Datum) → at s d ≡ r → (0 < z.reads + z.writes) × (gr d ≤ z.reads) × (gw d ≤ z.writes)
      old z was None q = absurd (some_none (at stored d) z was (stores.nothing d q))
      old z was (Some y) q =
          let st = stores.there d y q in
          let same : Some z ≡ Some (record { content = st.0; reads = y.reads; writes = y.writes }) = sym was ∙ st.1 in
          let e : z ≡ record { content = st.0; reads = y.reads; writes = y.writes } = cc in
          let r : z.reads ≡ y.reads = ap (λ (k : Datum). k.reads) e in
          let w : z.writes ≡ y.writes = ap (λ (k : Datum). k.writes) e in
          let c = cov.held d y q in
          let u = used y c.0 in
          (omega (arith, r, w, u), omega (arith, r, c.1), omega (arith, w, c.2))

      new : (m : Instance) (v : Variable) → In m ms → IsOwn C L hs m v d → (0 < z.reads + z.writes) × (gr d ≤ z.reads) × (gw d ≤ z.writes)
      new m v im own =
          let c = makes.new m v im own.declared own.named in
          let k : DatumOf c.key ≡ DatumOf d = sym c.leads ∙ own.leads in
          let key : c.key ≡ d = cc in
          let y = seen_there made c.key _ c.is in
          let same : Some y.0 ≡ Some z = sym y.1 ∙ ap (at made) key ∙ e in
          let q : y.0 ≡ z = cc in
          let r : z.reads ≡ own_count C (λ e. e.reads) m.body v = ap (λ (u : Datum). u.reads) (sym q) ∙ ap (λ (u : Counted). u.reads) y.2 in
          let w : z.writes ≡ own_count C (λ e. e.writes) m.body v = ap (λ (u : Datum). u.writes) (sym q) ∙ ap (λ (u : Counted). u.writes) y.2 in
          let a = absent d (subst (λ (l : ℕ). at s l ≡ None) key (before c.key (seen_none stored c.key c.fresh))) in
          (omega (arith, own.named, r, w), omega (arith, a.0), omega (arith, a.1))
        where
          before : (d : ℕ) → at stored d ≡ None → at s d ≡ None
          before d e = by (at s d) refl
            where
              by : (r : Option Datum) → at s d ≡ r → at s d ≡ None
              by None q = q
              by (Some y) q = absurd (let st = stores.there d y q in some_none (at stored d) _ st.1 e)

          absent : (d : ℕ) → at s d ≡ None → (gr d ≡ 0) × (gw d ≡ 0)
          absent d h = cov.absent d h

  pub enough : (d : ℕ) (y : Datum) → at more d ≡ Some y → Enough d y
  enough d y e = by (at made d) refl
    where
      by : (r : Option Datum) → at made d ≡ r → Enough d y
      by None q = (let z : None ≡ Some y = sym (adds d ∙ ap (option_map (with_holds (added_times C L (λ e. e.reads) hs d ms) (added_times C L (λ e. e.writes) hs d ms))) q) ∙ e in absurd cc)
      by (Some z) q =
          let same : Some (with_holds (added_times C L (λ e. e.reads) hs d ms) (added_times C L (λ e. e.writes) hs d ms) z) ≡ Some y = sym (adds d ∙ ap (option_map (with_holds (added_times C L (λ e. e.reads) hs d ms) (added_times C L (λ e. e.writes) hs d ms))) q) ∙ e in
          let p : with_holds (added_times C L (λ e. e.reads) hs d ms) (added_times C L (λ e. e.writes) hs d ms) z ≡ y = cc in
          let r : z.reads + added_times C L (λ e. e.reads) hs d ms ≡ y.reads = ap (λ (u : Datum). u.reads) p in
          let w : z.writes + added_times C L (λ e. e.writes) hs d ms ≡ y.writes = ap (λ (u : Datum). u.writes) p in
          let m = made_enough d z q in
          record { fresh = not_spent y (omega (arith, m.0, r, w)); reads = omega (arith, m.1, r); writes = omega (arith, m.2, w) }

  pub given : (d : ℕ) (y : Datum) → at more d ≡ Some y → at t d ≡ kept (fewer (given_times C L (λ e. e.reads) fs d j os) (given_times C L (λ e. e.writes) fs d j os) y)
  given d y e = let n = enough d y e in gives.there d y e n.fresh n.reads n.writes

  module _ (closed : List ℕ) (closes : Closes (λ d. given_times C L (λ e. e.writes) fs d j os) more closed) where
    -- a closed array is known
    pub closed_sound : (d : ℕ) → In d closed → is_known (cells_view t.cells) (Whole d) ≡ true
    closed_sound d i =
        let y = closes.only d i in
        kept_known (fewer (given_times C L (λ e. e.reads) fs d j os) (given_times C L (λ e. e.writes) fs d j os) y.0) t d (given d y.0 y.1)
        (array_known y.0.content (y.0.reads - given_times C L (λ e. e.reads) fs d j os) (y.0.writes - given_times C L (λ e. e.writes) fs d j os) (keyed y.0.content y.0.reads y.0.writes 0 0 y.2) (omega (arith, y.3)))
      where
        keyed : (c : Content) (r w u v : ℕ) → is_keyed (Some (record { content = c; reads = r; writes = w })) ≡ true → is_keyed (Some (record { content = c; reads = u; writes = v })) ≡ true
        keyed (OfScalar z) r w u v h = h
        keyed (OfArray a) r w u v h = h

    -- an array that nobody may write any more is one of those that were closed
    pub closed_all : (d : ℕ) (b c : Counted) → slot_at (cells_view s.cells) d ≡ Some b → slot_at (cells_view t.cells) d ≡ Some c → is_array_content b.content ≡ true → 0 < b.writes → c.writes ≡ 0 → In d closed
    closed_all d b c h g array some none =
        let y = seen_there s d b h in
        let st = stores.there d y.0 y.1 in
        let m = makes.older d (record { content = st.0; reads = y.0.reads; writes = y.0.writes }) st.1 in
        let a = adds d ∙ ap (option_map (with_holds (added_times C L (λ e. e.reads) hs d ms) (added_times C L (λ e. e.writes) hs d ms))) m in
        let z = seen_there t d c g in
        let writes : y.0.writes ≡ b.writes = ap (λ (u : Counted). u.writes) y.2 in
        let left : z.0.writes ≡ c.writes = ap (λ (u : Counted). u.writes) z.2 in
        let n = enough d (with_holds (added_times C L (λ e. e.reads) hs d ms) (added_times C L (λ e. e.writes) hs d ms) (record { content = st.0; reads = y.0.reads; writes = y.0.writes })) a in
        let k = given d (with_holds (added_times C L (λ e. e.reads) hs d ms) (added_times C L (λ e. e.writes) hs d ms) (record { content = st.0; reads = y.0.reads; writes = y.0.writes })) a in
        let e = kept_is (fewer (given_times C L (λ e. e.reads) fs d j os) (given_times C L (λ e. e.writes) fs d j os) (with_holds (added_times C L (λ e. e.reads) hs d ms) (added_times C L (λ e. e.writes) hs d ms) (record { content = st.0; reads = y.0.reads; writes = y.0.writes }))) z.0 (sym k ∙ z.1) in
        let w : (y.0.writes + added_times C L (λ e. e.writes) hs d ms) - given_times C L (λ e. e.writes) fs d j os ≡ z.0.writes = ap (λ (u : Datum). u.writes) e in
        let content : is_array_content (content_view y.0.content) ≡ true = ap (λ (u : Counted). is_array_content u.content) y.2 ∙ array in
        closes.all d (with_holds (added_times C L (λ e. e.reads) hs d ms) (added_times C L (λ e. e.writes) hs d ms) (record { content = st.0; reads = y.0.reads; writes = y.0.writes })) a
        (sym (array_seen (with_holds (added_times C L (λ e. e.reads) hs d ms) (added_times C L (λ e. e.writes) hs d ms) (record { content = st.0; reads = y.0.reads; writes = y.0.writes }))) ∙ array_stays (content_view y.0.content) (if is_place d target then values else []) (content_view st.0) st.2 content)
        (omega (arith, some, writes)) (omega (arith, n.writes, w, left, none))
      where
        kept_is : (u z : Datum) → kept u ≡ Some z → u ≡ z
        kept_is u z e = elim (cases_Bool (is_spent u)) [
          | inl gone ↦ (let q : None ≡ Some z = sym (kept_gone u gone) ∙ e in absurd cc)
          | inr stays ↦ (let q : Some u ≡ Some z = sym (kept_there u stays) ∙ e in cc)
        ]

        array_stays : (a : Pure.Content) (xs : Elements) (b : Pure.Content) → ContentAfter a xs b → is_array_content a ≡ true → is_array_content b ≡ true
        array_stays Pure.Unset xs b h q = absurd (cc)
        array_stays (Pure.Holding v) xs b h q = absurd (cc)
        array_stays (Pure.Mapping ys) xs b h q = ap is_array_content h.1
