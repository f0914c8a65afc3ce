-- The data of the state, one for each slot that has one.
use Rattle.std.proofs.Common.{◌≡◌, inl, inr, ℕ, zero, suc, ◌+◌, List, [], ◌∷◌, length, Option, None, Some, refl, sym, ap, ◌∙◌, subst, arith}
use Rattle.std.specs.Prelude.{cond, count_by, is_some}
use Rattle.std.proofs.lemmas.List.Sums.{sum_by-cons}
use Rattle.dataflow.specs.Machine.{Event}
use Rattle.dataflow.specs.System.{Distinct, In}
use Rattle.data_store.specs.declared.datum.Datum.{Datum as Kept}
use Rattle.board_history.specs.Elements.{code_tests}
use Rattle.board_history.proofs.Elements.{code_told}
use Rattle.task_code.proofs.Kept.{code_laws}
use Rattle.board_history.specs.Fields.{Counted, slot_at}
use Rattle.board_history.specs.Stands.{Stands}
use Rattle.board_history.proofs.Replays.{replayed_exact}
use Rattle.board_history.proofs.Tests.{none_some}
use Rattle.task_code.specs.Code.{Code}
use Rattle.task_code.specs.Machine.{CodeState, DataAreExact, Run, run_log}
use Rattle.task_code.specs.Places.{Place}
use Rattle.task_code.specs.System.{code_system}
use Rattle.task_code.specs.Whole.{IsCode}
use Rattle.board_program.specs.Spots.{layout_of}
use Rattle.board_data.specs.View.{cell_view, cells_view}
use Rattle.board.specs.History.{state_of}
use Rattle.board.specs.Inside.{Stand}
use Rattle.board.specs.Stored.{AreSoMany}
use Rattle.board.specs.View.{fields_view}
use Rattle.board.specs.declared.state.BoardState.{BoardState}
use Rattle.board.proofs.Own.{state_here}

-- one slot more
one_more : {X : Type 0} (x : X) (cs : List (Option X)) → count_by is_some (Some x ∷ cs) ≡ suc (count_by is_some cs)
one_more x cs =
    let e : count_by is_some (Some x ∷ cs) ≡ 1 + count_by is_some cs = sum_by-cons (λ c. cond (is_some c) 1 0) (Some x) cs in
    omega arith

no_more : {X : Type 0} (cs : List (Option X)) → count_by is_some (None ∷ cs) ≡ count_by is_some cs
no_more cs =
    let e : count_by is_some (None ∷ cs) ≡ 0 + count_by is_some cs = sum_by-cons (λ c. cond (is_some c) 1 0) None cs in
    omega arith

-- data by the slots that they stand in
record Listed (cs : List (Option Counted)) (named : ℕ → Place → Type 0) : Type 0 where
  places : List Place
  slot : (a : Place) → In a places → (d : ℕ) × (c : Counted) × (slot_at cs d ≡ Some c) × named d a
  all : (d : ℕ) (c : Counted) → slot_at cs d ≡ Some c → (a : Place) × In a places × named d a
  once : ((d e : ℕ) (a : Place) → named d a → named e a → d ≡ e) → Distinct places
  count : length places ≡ count_by is_some cs

listed : (cs : List (Option Counted)) (named : ℕ → Place → Type 0) → ((d : ℕ) (c : Counted) → slot_at cs d ≡ Some c → (a : Place) × named d a) → Listed cs named
listed [] named f = record { places = []; slot = λ a i. absurd i; all = λ d c h. none_some h; once = λ one. tt; count = refl }
listed (None ∷ cs) named f =
    let l = listed cs (λ d a. named (suc d) a) (λ d c h. f (suc d) c h) in
    record {
      places = l.places;
      slot = λ a i. let x = l.slot a i in (suc x.0, x.1, x.2, x.3);
      all = by l;
      once = λ one. l.once (λ d e a p q. before d e (one (suc d) (suc e) a p q));
      count = l.count ∙ sym (no_more cs);
    }
  where
    before : (d e : ℕ) → suc d ≡ suc e → d ≡ e
    before d e h = omega arith

    by : (l : Listed cs (λ d a. named (suc d) a)) → (d : ℕ) (c : Counted) → slot_at (None ∷ cs) d ≡ Some c → (a : Place) × In a l.places × named d a
    by l zero c h = none_some h
    by l (suc d) c h = l.all d c h
listed (Some x ∷ cs) named f =
    let l = listed cs (λ d a. named (suc d) a) (λ d c h. f (suc d) c h) in
    let first = f 0 x refl in
    record {
      places = first.0 ∷ l.places;
      slot = λ a i. elim i [ inl e ↦ (0, x, refl, subst (λ (b : Place). named 0 b) (sym e) first.1) | inr j ↦ (let y = l.slot a j in (suc y.0, y.1, y.2, y.3)) ];
      all = by l first;
      once = λ one. ((λ i. let y = l.slot first.0 i in apart y.0 (one 0 (suc y.0) first.0 first.1 y.3)), l.once (λ d e a p q. before d e (one (suc d) (suc e) a p q)));
      count = ap suc l.count ∙ sym (one_more x cs);
    }
  where
    before : (d e : ℕ) → suc d ≡ suc e → d ≡ e
    before d e h = omega arith

    apart : (d : ℕ) → 0 ≡ suc d → ⊥
    apart d h = absurd (omega arith)

    by : (l : Listed cs (λ d a. named (suc d) a)) (first : (a : Place) × named 0 a) → (d : ℕ) (c : Counted) → slot_at (Some x ∷ cs) d ≡ Some c → (a : Place) × In a (first.0 ∷ l.places) × named d a
    by l first zero c h = (first.0, inl refl, first.1)
    by l first (suc d) c h = let y = l.all d c h in (y.0, inr y.1, y.2)

same_count : (cs : List (Option Kept)) → count_by is_some (cells_view cs) ≡ count_by is_some cs
same_count [] = refl
same_count (None ∷ cs) = no_more (cells_view cs) ∙ same_count cs ∙ sym (no_more cs)
same_count (Some x ∷ cs) = one_more (cell_view x) (cells_view cs) ∙ ap suc (same_count cs) ∙ sym (one_more x cs)

module _ (C : Code) (I : IsCode C) (es : List Event) (core : BoardState) (s : Stand C es core) where
  x : Stands C (layout_of C) es (fields_view s.told core)
  x = s.stands

  abbrev cells : List (Option Counted)
  cells = cells_view core.data_state.store.cells

  named : ℕ → Place → Type 0
  named d a = In (d, a) s.stands.names

  slots : Listed (cells_view core.data_state.store.cells) (λ d a. In (d, a) s.stands.names)
  slots = listed (cells_view core.data_state.store.cells) (λ d a. In (d, a) s.stands.names) (λ d c h. s.stands.data_stand.only d c h)

  there : (a : Place) → In a s.stands.state.places → In a slots.places
  there a i =
      let n = s.stands.data_stand.naming.named a i in
      let c = s.stands.data_stand.there n.0 a n.1 in
      let y = slots.all n.0 c.0 c.1 in
      subst (λ (b : Place). In b slots.places) (s.stands.data_stand.naming.one_datum n.0 y.0 a y.2 n.1) y.1

  pub so_many : (n : ℕ) → n ≡ count_by is_some core.data_state.store.cells → AreSoMany (state_of C es).places n
  so_many n e =
      subst (λ (t : CodeState). AreSoMany t.places n) (sym (state_here C I es core s)) (record {
        listed = slots.places;
        same = λ a. (λ i. let y = slots.slot a i in s.stands.data_stand.naming.there y.0 a y.3, λ i. there a i);
        once = slots.once (λ d f a p q. s.stands.data_stand.naming.one_name d f a p q);
        count_is = e ∙ sym (same_count core.data_state.store.cells) ∙ sym slots.count;
      })

  pub exact_here : (run : Run C es (state_of C es)) → DataAreExact C (state_of C es) (run_log C es (state_of C es) run)
  exact_here = subst (λ (t : CodeState). (run : Run C es t) → DataAreExact C t (run_log C es t run)) (sym (state_here C I es core s)) (λ run. replayed_exact (code_system C) code_tests (code_told C) (code_laws C I) es s.stands.state s.stands.reached run)
