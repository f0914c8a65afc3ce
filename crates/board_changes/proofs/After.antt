-- All data after an End.
use Rattle.std.proofs.Common.{◌≡◌, ◌∙◌, refl, sym, ap, inl, inr, ℕ, ◌+◌, ◌<◌, false, List, [], Option, Some, None, option_map, arith}
use Rattle.std.specs.Prelude.{if◌then◌else◌}
use Rattle.std.proofs.lemmas.Bool.{cases_Bool}
use Rattle.dataflow.specs.System.{In, Opening}
use Rattle.data_store.specs.Data.{is_spent, with_holds}
use Rattle.data_store.specs.Stores.{Store, at}
use Rattle.data_store.specs.declared.datum.Datum.{Datum}
use Rattle.board_history.specs.Ending.{CellsAfter, Instance, NewCell, added_times, given_times, job_stores}
use Rattle.board_history.specs.Fields.{Counted, Frame, Job, Layout, slot_at}
use Rattle.board_history.specs.Static.{own_count}
use Rattle.task_code.specs.Code.{Code, Variable, body}
use Rattle.task_code.specs.Compute.{Computed, Elements}
use Rattle.task_code.specs.Effects.{Task}
use Rattle.task_code.specs.Places.{Place}
use Rattle.board_program.specs.Tables.{is_place}
use Rattle.board_data.proofs.Cells.{cell_there}
use Rattle.board_data.proofs.Ended.{cell_after, is_only, was_made}
use Rattle.board_data.proofs.Given.{spent_zero}
use Rattle.board_data.specs.Ended.{Changes, Covers}
use Rattle.board_data.specs.Holds.{GivesUp}
use Rattle.board_data.specs.Stored.{StoresIn}
use Rattle.board_data.specs.View.{cell_view, cells_view}
use Rattle.board_changes.specs.Data.{MakesData}

pub some_none : {X : Type 0} (r : Option X) (x : X) → r ≡ Some x → r ≡ None → ⊥
some_none r x s n = let e : Some x ≡ None = sym s ∙ n in absurd cc

-- a datum that is seen is there
pub seen_there : (s : Store) (d : ℕ) (c : Counted) → slot_at (cells_view s.cells) d ≡ Some c → (y : Datum) × (at s d ≡ Some y) × (cell_view y ≡ c)
seen_there s d c e = by (at s d) refl
  where
    by : (r : Option Datum) → at s d ≡ r → (y : Datum) × (at s d ≡ Some y) × (cell_view y ≡ c)
    by None q = (let z : None ≡ Some c = sym (cell_there s.cells d ∙ ap (option_map cell_view) q) ∙ e in absurd cc)
    by (Some y) q = (let z : Some (cell_view y) ≡ Some c = sym (cell_there s.cells d ∙ ap (option_map cell_view) q) ∙ e in (y, q, cc))

pub seen_none : (s : Store) (d : ℕ) → slot_at (cells_view s.cells) d ≡ None → at s d ≡ None
seen_none s d e = by (at s d) refl
  where
    by : (r : Option Datum) → at s d ≡ r → at s d ≡ None
    by None q = q
    by (Some y) q = (let z : Some (cell_view y) ≡ None = sym (cell_there s.cells d ∙ ap (option_map cell_view) q) ∙ e in absurd cc)

module _ (C : Code) (L : Layout) (fs hs : List (Option Frame)) (j : Job) (x : Computed) (ms : List Instance) (os : List (Opening Task Place)) (target : Option ℕ) (values : Elements) (s stored made more t : Store)
    (stores : StoresIn target values s stored) (makes : MakesData C L fs hs j x ms stored made)
    (adds : (d : ℕ) → at more d ≡ option_map (with_holds (added_times C L (λ e. e.reads) hs d ms) (added_times C L (λ e. e.writes) hs d ms)) (at made d))
    (gives : GivesUp (λ d. given_times C L (λ e. e.reads) fs d j os) (λ d. given_times C L (λ e. e.writes) fs d j os) more t)
    (cov : Covers (λ d. given_times C L (λ e. e.reads) fs d j os) (λ d. given_times C L (λ e. e.writes) fs d j os) s)
    (told : (d : ℕ) → (if is_place d target then values else []) ≡ job_stores C L fs j x d)
    (none : (d : ℕ) → at s d ≡ None → (added_times C L (λ e. e.reads) hs d ms ≡ 0) × (added_times C L (λ e. e.writes) hs d ms ≡ 0)) where
  abbrev changes : Changes target values (λ d. added_times C L (λ e. e.reads) hs d ms) (λ d. added_times C L (λ e. e.writes) hs d ms) (λ d. given_times C L (λ e. e.reads) fs d j os) (λ d. given_times C L (λ e. e.writes) fs d j os) s t
  changes = record { stored = stored; made = made; more = more; stores = stores; makes = makes.older; adds = adds; gives = gives }

  -- what is not stored was not there
  before : (d : ℕ) → at stored d ≡ None → at s d ≡ None
  before d e = by (at s d) refl
    where
      by : (r : Option Datum) → at s d ≡ r → at s d ≡ None
      by None q = q
      by (Some y) q = absurd (let st = stores.there d y q in some_none (at stored d) _ st.1 e)

  new_cell : (m : Instance) (v : Variable) → In m ms → In v (body C m.body).makes → 0 < own_count C (λ e. e.reads) m.body v + own_count C (λ e. e.writes) m.body v → NewCell C L fs hs j x m v (cells_view s.cells) (cells_view t.cells)
  new_cell m v im iv h =
      let c = makes.new m v im iv h in
      let absent = before c.key (seen_none stored c.key c.fresh) in
      let y = seen_there made c.key _ c.is in
      let reads : y.0.reads ≡ own_count C (λ e. e.reads) m.body v = ap (λ (z : Counted). z.reads) y.2 in
      let writes : y.0.writes ≡ own_count C (λ e. e.writes) m.body v = ap (λ (z : Counted). z.writes) y.2 in
      let kept = used y.0 (omega (arith, h, reads, writes)) in
      let n = none c.key absent in
      let now = was_made target values (λ d. added_times C L (λ e. e.reads) hs d ms) (λ d. added_times C L (λ e. e.writes) hs d ms) (λ d. given_times C L (λ e. e.reads) fs d j os) (λ d. given_times C L (λ e. e.writes) fs d j os) s t changes cov c.key y.0 absent y.1 kept n.0 n.1 in
      record {
        key = c.key;
        leads = c.leads;
        fresh = cell_there s.cells c.key ∙ ap (option_map cell_view) absent;
        content = c.content;
        starts = c.starts;
        is = cell_there t.cells c.key ∙ ap (option_map cell_view) now ∙ ap Some y.2;
      }
    where
      used : (y : Datum) → 0 < y.reads + y.writes → is_spent y ≡ false
      used y h = elim (cases_Bool (is_spent y)) [ inl z ↦ (let p = spent_zero y z in absurd (omega (arith, h, p.0, p.1))) | inr f ↦ f ]

  pub cells_after : CellsAfter C L fs hs j x ms os (cells_view s.cells) (cells_view t.cells)
  cells_after = record {
    old = cell_after C L fs hs j x ms os target values s t (told, changes, cov);
    new = new_cell;
    apart = makes.apart;
    only = λ d c e. (let y = seen_there t d c e in
        let z = is_only target values (λ d. added_times C L (λ e. e.reads) hs d ms) (λ d. added_times C L (λ e. e.writes) hs d ms) (λ d. given_times C L (λ e. e.reads) fs d j os) (λ d. given_times C L (λ e. e.writes) fs d j os) s t changes cov d y.0 y.1 in
        elim (makes.only d z.0 z.1) [ inl was ↦ inl (old_there d z.0 was (at s d) refl) | inr own ↦ inr own ]);
  }
    where
      old_there : (d : ℕ) (y : Datum) → at stored d ≡ Some y → (r : Option Datum) → at s d ≡ r → (b : Counted) × (slot_at (cells_view s.cells) d ≡ Some b)
      old_there d y e None q = absurd (some_none (at stored d) y e (stores.nothing d q))
      old_there d y e (Some z) q = (cell_view z, cell_there s.cells d ∙ ap (option_map cell_view) q)
