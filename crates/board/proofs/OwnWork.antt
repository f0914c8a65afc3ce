-- The work that the fields tell is the item's own.
use Rattle.std.proofs.Common.{◌≡◌, ℕ, suc, true, List, [], ◌∷◌, map, refl, sym, ap, ◌∙◌, subst, Option, None, Some, arith}
use Rattle.std.specs.List.{flat_map}
use Rattle.std.specs.Prelude.{option_map, slice_index_or}
use Rattle.dataflow.specs.System.{Answer, In}
use Rattle.dataflow.specs.Machine.{Event, SeesAll}
use Rattle.dataflow.proofs.Known.{answers_are_one}
use Rattle.dataflow.proofs.Lists.{seam_here}
use Rattle.data_store.specs.Data.{array_in}
use Rattle.data_store.specs.Stores.{Store, or_none}
use Rattle.data_store.specs.declared.datum.Content.{Content as Stored}
use Rattle.data_store.specs.declared.datum.Content.TheVariants.{OfArray, OfScalar}
use Rattle.data_store.specs.declared.datum.Datum.{Datum as Kept}
use Rattle.board_history.specs.Fields as Fields
use Rattle.board_history.specs.Fields.{Counted, Does, Frame, Job, Mapping, Over, Row, Running, Script, path_of, row_of, slot_at, slot_for, task_of}
use Rattle.board_history.specs.Elements.{code_tests}
use Rattle.board_history.specs.Stands.{Stands}
use Rattle.board_history.proofs.Elements.{code_told}
use Rattle.board_history.proofs.Marking.{item}
use Rattle.board_history.proofs.Seen.{all_known}
use Rattle.board_history.proofs.Tests.{none_some, some_same}
use Rattle.task_code.proofs.Kept.{code_laws}
use Rattle.task_code.specs.Code.{At, AtKey, Closed, Code, Name, Need, body, entry}
use Rattle.task_code.specs.Code as Needs
use Rattle.task_code.specs.Compute.{Elements, elements, in_key_order, pairs}
use Rattle.task_code.specs.Effects.{Task}
use Rattle.task_code.specs.Machine.{CodeItem, CodeState}
use Rattle.task_code.specs.System.{code_system, inputs_at, task_inputs}
use Rattle.task_code.specs.Whole.{IsCode}
use Rattle.values.specs.Maps.{rising}
use Rattle.values.specs.declared.key.Key.{Key}
use Rattle.values.specs.declared.map.Element.{Element}
use Rattle.values.specs.declared.value.Scalar.{Scalar}
use Rattle.board_program.specs.Spots.{layout_of, spot_in}
use Rattle.board_program.specs.Tables.{body_or_script, wanted_in}
use Rattle.board_program.proofs.Found.{home_found}
use Rattle.board_data.specs.Answered.{array_answer, scalar_answer, wanted_answer}
use Rattle.board_data.specs.View.{cell_view, cells_view, content_view}
use Rattle.board_data.specs.Wanted.{FewSlots, element_by, element_in, scalar_in}
use Rattle.board_data.proofs.Cells.{cell_there}
use Rattle.board_data.proofs.Named.{slot_by}
use Rattle.board_instances.specs.Names.{led_slot}
use Rattle.board_instances.specs.View.{frames_view, rows_view}
use Rattle.board_work.specs.Assigned.{Assigned}
use Rattle.task_code.specs.View.{event_view}
use Rattle.board.specs.Board.{IsOwn, IsWorkOf, answers_to, job_of}
use Rattle.board.specs.History.{state_of}
use Rattle.board_data.specs.Data.{AreRising}
use Rattle.board.specs.Inside.{IsSound, Stand, seen_of}
use Rattle.board.specs.declared.board.Board.TheInside.{Inside}
use Rattle.board.specs.Rows.{RunsOn}
use Rattle.board.specs.View.{fields_view}
use Rattle.board.specs.Working.{IsThere, IsWorkAt, answers_at, work_of}
use Rattle.board.specs.declared.state.BoardState.{BoardState}
use Rattle.board.proofs.Answering.{all_seen, need_answer, need_seen}
use Rattle.board.proofs.Changes.{untold}
use Rattle.board.proofs.Moves.{item_there, row_there, running_item, state_is, steps}
use Rattle.board.proofs.Reading.{follows, log, resolved}

pub elements_pairs : (es : List Element) → elements (pairs es) ≡ es
elements_pairs [] = refl
elements_pairs (e ∷ es) = ap (λ (l : List Element). e ∷ l) (elements_pairs es)

mapping_is : (a : Stored) (ys : Elements) → content_view a ≡ Mapping ys → pairs (array_in a).elements ≡ ys
mapping_is (OfArray a) ys h = cc
mapping_is (OfScalar None) ys h = absurd (cc)
mapping_is (OfScalar (Some v)) ys h = absurd (cc)

-- the elements of an array are in their order
in_order : (s : Store) → AreRising s → (d : ℕ) (c : Counted) (ys : Elements) → slot_at (cells_view s.cells) d ≡ Some c → c.content ≡ Mapping ys → in_key_order ys ≡ true
in_order s r d c ys h g = by (slice_index_or s.cells d None) refl (sym (cell_there s.cells d) ∙ h)
  where
    by : (o : Option Kept) → slice_index_or s.cells d None ≡ o → option_map cell_view o ≡ Some c → in_key_order ys ≡ true
    by None e q = none_some q
    by (Some k) e q =
        let m : pairs (array_in k.content).elements ≡ ys = mapping_is k.content ys (ap (λ (y : Counted). y.content) (some_same q) ∙ g) in
        let up : rising (array_in k.content).elements ≡ true = ap (λ (o : Option Kept). rising (array_in (or_none o).content).elements) (sym e) ∙ r d in
        ap (λ (zs : Elements). rising (elements zs)) (sym m) ∙ ap rising (elements_pairs (array_in k.content).elements) ∙ up

-- the answers by where names lead are those by what they stand for
module _ (C : Code) (fs : List (Option Frame)) (cs : List (Option Counted)) (k b : ℕ) (few : FewSlots fs) (f : Name → Fields.Slot) (same : (r : Name) → f r ≡ led_slot fs k (spot_in C b r)) where
  by_name : Need → Answer Key Scalar
  by_name n = wanted_answer C cs (led_slot fs k) (wanted_in C b n)

  abbrev named : Need → Answer Key Scalar
  named (Needs.Stored r) = scalar_answer (scalar_in C cs (f r))
  named (Closed r) = array_answer C cs (f r)
  named (At a r) = scalar_answer (element_by C cs (f a) (scalar_in C cs (f r)))
  named (AtKey a i) = scalar_answer (element_in C cs (f a) i)

  one_answer : (n : Need) → wanted_answer C cs (led_slot fs k) (wanted_in C b n) ≡ named n
  one_answer (Needs.Stored r) = ap (λ (y : Fields.Slot). scalar_answer (scalar_in C cs y)) (sym (same r))
  one_answer (Closed r) = ap (array_answer C cs) (sym (same r))
  one_answer (At a r) = let p = sym (same a) in let q = sym (same r) in λ i. scalar_answer (element_by C cs (p i) (scalar_in C cs (q i)))
  one_answer (AtKey a i) = ap (λ (y : Fields.Slot). scalar_answer (element_in C cs y i)) (sym (same a))

  all_answers : (ns : List Need) → map (wanted_answer C cs (led_slot fs k)) (map (wanted_in C b) ns) ≡ map named ns
  all_answers [] = refl
  all_answers (n ∷ ns) = let p = one_answer n in let q = all_answers ns in λ i. p i ∷ q i

module _ (C : Code) (I : IsCode C) (es : List Event) (core : BoardState) (t : Stand C es core) (w n : ℕ) (j : Job) (runs : RunsOn (rows_view core.items.rows.items) w n j) where
  abbrev F : Fields.Fields
  F = fields_view t.told core

  abbrev x : Stands C (layout_of C) es (fields_view t.told core)
  x = t.stands

  abbrev own : CodeItem
  own = item n (task_of F.frames j) (Some w)

  own_there : In own x.state.items
  own_there = item_there C I (layout_of C) es F x n (record { job = j; status = Running w }) runs (running_item w)

  not_over : Running w ≡ Over → ⊥
  not_over e = absurd (cc)

  -- where no fault stands, its inputs are known
  known : x.state.fault ≡ None → (xs : List (Answer Key Scalar)) × SeesAll (code_system C) x.state (task_inputs C (task_of F.frames j)) xs
  known none =
      let e = (steps C I (layout_of C) es F x).end w n none (record { item = own; there = own_there; number_is = refl; runs = refl }) in
      let f = row_there C I (layout_of C) es F x e.1.1.item (subst (λ (is : List CodeItem). In e.1.1.item is) (sym e.1.1.at.items) (seam_here e.1.1.item e.1.1.before e.1.1.after)) in
      let a = f.number_is in
      let b = e.1.1.at.number_is in
      let place : suc f.at ≡ n = omega arith in
      let same : f.row ≡ record { job = j; status = Running w } = some_same (sym f.there ∙ ap (λ (m : ℕ). row_of F.rows m) place ∙ runs) in
      let task : e.1.1.item.task ≡ task_of F.frames j = f.task_is ∙ ap (λ (r : Row). task_of F.frames r.job) same in
      (e.1.1.answers, subst (λ (u : Task). SeesAll (code_system C) x.state (task_inputs C u) e.1.1.answers) task e.1.1.known)

  one_list : (xs ys : List (Answer Key Scalar)) → SeesAll (code_system C) x.state (task_inputs C (task_of F.frames j)) xs → SeesAll (code_system C) x.state (task_inputs C (task_of F.frames j)) ys → xs ≡ ys
  one_list xs ys h g = (answers_are_one (code_system C) (code_laws C I) x.state (log C I (layout_of C) es F x) (follows C I (layout_of C) es F x)).one own own_there xs ys h g

-- what is seen by the item's inputs, and what its needs have
pub record Seen (C : Code) (s : CodeState) (fs : List (Option Frame)) (cs : List (Option Counted)) (j : Job) : Type 0 where
  pub inputs : List (Answer Key Scalar)
  pub known : SeesAll (code_system C) s (task_inputs C (task_of fs j)) inputs
  pub answers : answers_to C (task_of fs j) inputs ≡ answers_at C fs cs j

job_same : (C : Code) (fs : List (Option Frame)) (j : Job) → job_of C (task_of fs j) ≡ work_of C j
job_same C fs Script = refl
job_same C fs (Does k e c) = refl

module _ (C : Code) (I : IsCode C) (es : List Event) (core : BoardState) (t : Stand C es core) (free : core.fault ≡ None) (w n : ℕ) where
  none : t.stands.state.fault ≡ None
  none = sym t.stands.fault ∙ untold C t.told.fault core.fault t.fault free

  pub seen_by : (j : Job) → RunsOn (rows_view core.items.rows.items) w n j → Seen C t.stands.state (frames_view core.data_state.instances.slots) (cells_view core.data_state.store.cells) j
  seen_by Script runs = record { inputs = []; known = tt; answers = refl }
  seen_by (Does k e c) runs =
      let f = t.stands.frames.there n k e c (record { job = Does k e c; status = Running w }) runs refl (not_over C I es core t w n (Does k e c) runs) in
      let fs = frames_view core.data_state.instances.slots in
      let cs = cells_view core.data_state.store.cells in
      let p = path_of fs k in
      let slot = slot_for (layout_of C) fs k f.0.body in
      let xs = known C I es core t w n (Does k e c) runs none in
      let each = all_known (code_system C) code_tests (code_told C) t.stands.state (flat_map (inputs_at C p) (entry C e).needs) xs.0 xs.1 in
      let order = in_order core.data_state.store t.kept.rising in
      let res = resolved C I (layout_of C) es (fields_view t.told core) t.stands (own C I es core t w n (Does k e c) runs) (own_there C I es core t w n (Does k e c) runs) n k e c (record { job = Does k e c; status = Running w }) f.0 refl runs refl (not_over C I es core t w n (Does k e c) runs) f.1 in
      let r = all_seen C p t.stands.state (need_answer C I (layout_of C) es (fields_view t.told core) t.stands order e p slot res) (entry C e).needs (need_seen C I (layout_of C) es (fields_view t.told core) t.stands order e p slot res) each in
      record {
        inputs = r.0;
        known = r.1;
        answers =
            r.2 ∙ sym (all_answers C fs cs k f.0.body t.kept.few slot (slot_by C fs k f.0.body t.kept.few) (entry C e).needs)
            ∙ ap (λ (b : ℕ). map (wanted_answer C cs (led_slot fs k)) (map (wanted_in C b) (entry C e).needs)) (sym (ap body_or_script (home_found C I f.0.body e f.2)));
      }

  -- so the work by the fields is the item's own, and no other is
  pub work_own : (j : Job) → RunsOn (rows_view core.items.rows.items) w n j → (work : Assigned) → IsWorkAt C (frames_view core.data_state.instances.slots) (cells_view core.data_state.store.cells) j work → IsWorkOf C (state_of C es) (task_of (frames_view core.data_state.instances.slots) j) work
  work_own j runs work a =
      let s = seen_by j runs in
      subst (λ (u : CodeState). IsWorkOf C u (task_of (frames_view core.data_state.instances.slots) j) work) (sym (state_is C es t.stands.state t.stands.reached))
      (record {
        job = a.job ∙ sym (job_same C (frames_view core.data_state.instances.slots) j);
        inputs = s.inputs;
        known = s.known;
        answers = a.answers ∙ sym s.answers;
      })

  pub own_work : (j : Job) → RunsOn (rows_view core.items.rows.items) w n j → (work : Assigned) → IsWorkOf C (state_of C es) (task_of (frames_view core.data_state.instances.slots) j) work → IsWorkAt C (frames_view core.data_state.instances.slots) (cells_view core.data_state.store.cells) j work
  own_work j runs work o =
      let s = seen_by j runs in
      let q = subst (λ (u : CodeState). IsWorkOf C u (task_of (frames_view core.data_state.instances.slots) j) work) (state_is C es t.stands.state t.stands.reached) o in
      record {
        job = q.job ∙ job_same C (frames_view core.data_state.instances.slots) j;
        answers = q.answers ∙ ap (answers_to C (task_of (frames_view core.data_state.instances.slots) j)) (one_list C I es core t w n j runs q.inputs s.inputs q.known s.known) ∙ s.answers;
      }

-- the entry of a live row is there
pub job_there : (C : Code) (I : IsCode C) (es : List Event) (core : BoardState) (t : Stand C es core) (n : ℕ) (j : Job) (m : Fields.Status) → row_of (rows_view core.items.rows.items) n ≡ Some (record { job = j; status = m }) → (m ≡ Over → ⊥) → IsThere C j
job_there C I es core t n Script m h live = tt
job_there C I es core t n (Does k e c) m h live = let f = t.stands.frames.there n k e c (record { job = Does k e c; status = m }) h refl live in I.there f.0.body e f.2

pub ready_live : Fields.Ready ≡ Over → ⊥
ready_live h = absurd (cc)

pub running_live : (w : ℕ) → Running w ≡ Over → ⊥
running_live w h = absurd (cc)

-- the work is the item's own
pub own_seen : (b : Inside) (s : IsSound b) (free : b.core.fault ≡ None) (w n : ℕ) (j : Job) → RunsOn (rows_view b.core.items.rows.items) w n j → (work : Assigned) → work.item ≡ n → IsWorkAt b.program (frames_view b.core.data_state.instances.slots) (cells_view b.core.data_state.store.cells) j work → IsOwn (seen_of b) w work
own_seen b s free w n j runs work number at =
    record {
      item = item n (task_of (frames_view b.core.data_state.instances.slots) j) (Some w);
      there = subst (λ (u : CodeState). In (item n (task_of (frames_view b.core.data_state.instances.slots) j) (Some w)) u.items) (sym (state_is b.program (map event_view b.history.items) s.stand.stands.state s.stand.stands.reached)) (own_there b.program s.whole (map event_view b.history.items) b.core s.stand w n j runs);
      number_is = sym number;
      runs = refl;
      own = work_own b.program s.whole (map event_view b.history.items) b.core s.stand free w n j runs work at;
    }

-- and work that is the item's own is what the fields tell
pub seen_own : (b : Inside) (s : IsSound b) (free : b.core.fault ≡ None) (w n : ℕ) (j : Job) → RunsOn (rows_view b.core.items.rows.items) w n j → (work : Assigned) → work.item ≡ n → IsOwn (seen_of b) w work → IsWorkAt b.program (frames_view b.core.data_state.instances.slots) (cells_view b.core.data_state.store.cells) j work
seen_own b s free w n j runs work number o =
    own_work b.program s.whole (map event_view b.history.items) b.core s.stand free w n j runs work (subst (λ (u : Task). IsWorkOf b.program (state_of b.program (map event_view b.history.items)) u work) task o.own)
  where
    there : In o.item s.stand.stands.state.items
    there = subst (λ (u : CodeState). In o.item u.items) (state_is b.program (map event_view b.history.items) s.stand.stands.state s.stand.stands.reached) o.there

    task : o.item.task ≡ task_of (frames_view b.core.data_state.instances.slots) j
    task =
        let f = row_there b.program s.whole (layout_of b.program) (map event_view b.history.items) (fields_view s.stand.told b.core) s.stand.stands o.item there in
        let a = f.number_is in
        let c = o.number_is in
        let place : suc f.at ≡ n = omega arith in
        f.task_is ∙ ap (λ (r : Row). task_of (frames_view b.core.data_state.instances.slots) r.job) (some_same (sym f.there ∙ ap (λ (m : ℕ). row_of (rows_view b.core.items.rows.items) m) place ∙ runs))
