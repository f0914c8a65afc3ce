-- The data of the instances that an End makes.
use Rattle.std.proofs.Common.{◌≤◌, ◌++◌, replicate, ◌≡◌, ◌⊎◌, ◌∙◌, refl, sym, ap, subst, inl, inr, ℕ, zero, suc, ◌+◌, ◌<◌, List, length, map, Option, Some, None, option_map, arith}
use Rattle.std.specs.List.{slice_get}
use Rattle.dataflow.specs.System.{In}
use Rattle.dataflow.proofs.Lists.{in_map, in_unmap}
use Rattle.data_store.specs.Stores.{Store, at}
use Rattle.data_store.specs.declared.datum.Datum.{Datum}
use Rattle.values.specs.declared.datum_kind.DatumKind.{DatumKind}
use Rattle.board_history.specs.Ending.{Instance, IsOwn, NewCell, StartsAs, StartsBy, home, path_around}
use Rattle.board_history.specs.Fields.{Absent, Content, DatumOf, Does, Frame, Job, Row, Script, frame_up, path_of, slot_for, step_before}
use Rattle.board_history.specs.Fields.{Slot as PureSlot}
use Rattle.board_history.specs.Static.{own_count}
use Rattle.task_code.specs.Code.{Code, Loop, Variable, body, entry, here, loop_of, nth, scalar}
use Rattle.task_code.specs.Compute.{Computed}
use Rattle.task_code.specs.Places.{variable_eq}
use Rattle.task_code.specs.Whole.{IsCode}
use Rattle.board_program.proofs.Laid.{own_leads}
use Rattle.board_program.specs.Spots.{layout_of, levels_of, place_from, slot_of, spot_in}
use Rattle.board_program.specs.Tables.{is_place, node_slot, shape_of, turn_slot, value_slot}
use Rattle.board_program.specs.declared.program.LocalVariable.{LocalVariable}
use Rattle.board_program.specs.declared.lexical_address.LexicalAddress.{LexicalAddress}
use Rattle.board_data.proofs.Cells.{cell_there}
use Rattle.board_data.specs.Made.{start_at, started}
use Rattle.board_data.specs.View.{cell_view, cells_view, content_view}
use Rattle.board_data.specs.Openings.{job_loop}
use Rattle.board_instances.specs.Made.{made_as}
use Rattle.board_instances.specs.Openings.{Put}
use Rattle.board_instances.specs.View.{opening_frame}
use Rattle.board_instances.specs.declared.pending.PendingInstance.{PendingInstance}
use Rattle.board_instances.specs.declared.pending.PendingInstances.{PendingInstances}
use Rattle.board_changes.proofs.Cells.{own_back, own_count_of, own_found, same_at}
use Rattle.board_changes.proofs.Chain.{OneStored, views, Placed, all_apart, each_stored, kept_all, named, only_stored, placed}
use Rattle.board_changes.proofs.Starts.{place_test, starts_none, starts_turn}
use Rattle.board_changes.specs.Blocks.{AreBlocks, Starts, TurnStarts, handed}
use Rattle.board_changes.specs.Data.{MakesData}
use Rattle.board_changes.specs.Filled.{HasSlots, starts_of}
use Rattle.board_changes.specs.Opened.{AreOpened, own_of, turn_slots}
use Rattle.board_changes.specs.declared.instance_data.TurnSlots.{TurnSlots}

-- an opening with slots for its own data has so many
long_slots : (n : ℕ) (zs : List PureSlot) (one : PendingInstance) → (opening_frame one).slots ≡ replicate n Absent ++ zs → HasSlots n one
long_slots n zs one e = omega (arith, views one.instance.slots.items, ap (λ (ys : List PureSlot). length ys) e, long n)
  where
    long : (n : ℕ) → n ≤ length (replicate n Absent ++ zs)
    long zero = omega arith
    long (suc n) = omega (arith, long n)

-- what a variable starts with, told by the opening
starts_as : (C : Code) (fs : List (Option Frame)) (j : Job) (x : Computed) (one : PendingInstance) (slots : TurnSlots) (m : Instance) (v : Variable) (k : ℕ) → Starts C fs j x one → slots.value ≡ value_slot C (job_loop C j) → slots.turn ≡ turn_slot C (job_loop C j) →
    ((w : Loop) → job_loop C j ≡ Some w → w.body ≡ m.body) → m.path ≡ step_before (opening_frame one).way (path_around fs (home j)) → place_from 0 v (body C m.body).makes ≡ Some k →
    StartsAs C fs j x m v (content_view (started (shape_of v.array) (start_at (starts_of slots one) k)))
starts_as C fs Script x one slots m v k st value turn loop path place = starts_none v k (starts_of slots one) st.0 st.1
starts_as C fs (Does i e c) x one slots m v k st value turn loop path place = by (loop_of (entry C e).act) refl st value turn
  where
    content : Content
    content = content_view (started (shape_of v.array) (start_at (starts_of slots one) k))

    by : (l : Option Loop) → loop_of (entry C e).act ≡ l → TurnStarts C fs (path_of fs i) (entry C e).offset c x l one → slots.value ≡ value_slot C l → slots.turn ≡ turn_slot C l → StartsBy (path_of fs i) (entry C e).offset c x m v (content_view (started (shape_of v.array) (start_at (starts_of slots one) k))) l
    by None q s a b = starts_none v k (starts_of slots one) s.0 s.1
    by (Some w) q s a b = (s.0, s.1, path ∙ s.2, starts_turn w s.0 v k (starts_of slots one) s.3 s.4 (test (scalar w.value) ∙ ap (is_place k) (sym (a ∙ moved (scalar w.value)))) none some)
      where
        moved : (u : Variable) → place_from 0 u (body C w.body).makes ≡ place_from 0 u (body C m.body).makes
        moved u = ap (λ (z : ℕ). place_from 0 u (body C z).makes) (loop w q)

        test : (u : Variable) → variable_eq v u ≡ is_place k (place_from 0 u (body C m.body).makes)
        test u = place_test (body C m.body).makes k v u place

        none : w.turn ≡ None → slots.turn ≡ None
        none z = b ∙ ap (node_slot C w.body) z

        some : (n : ℕ) → w.turn ≡ Some n → variable_eq v (scalar n) ≡ is_place k slots.turn
        some n z = test (scalar n) ∙ ap (is_place k) (sym (b ∙ ap (node_slot C w.body) z ∙ moved (scalar n)))

module _ (C : Code) (I : IsCode C) (j : Job) (x : Computed) (o : PendingInstances) (fs gs : List (Option Frame)) (old new : List Row) (s t : Store) (B : AreBlocks C fs j x o) (W : AreOpened C j o fs gs old new s t) where
  all_slots : (one : PendingInstance) → In one o.list.items → HasSlots (length (own_of C o.body)) one
  all_slots one i = subst (λ n. HasSlots n one) (sym (own_count_of C o.body)) (long_slots (length (body C o.body).makes) (handed C fs j) one (B.slots one i))

  in_order : Placed (own_of C o.body) (turn_slots o) W.placed.puts W.filled
  in_order = placed (own_of C o.body) (turn_slots o) W.placed.puts W.filled W.placed.frames_are

  pub one_of : (q : Put) → In q W.placed.puts → OneStored (own_of C o.body) (turn_slots o) o.list.items q s W.made
  one_of q i = each_stored (own_of C o.body) (turn_slots o) o.list.items W.filled W.placed.puts s W.made all_slots W.fills in_order q i

  pub body_is : (q : Put) → In q W.placed.puts → q.frame.body ≡ o.body
  body_is q i = let u = one_of q i in ap (λ (f : Frame). f.body) u.frame ∙ B.one_body u.was u.is_in

  -- a variable of a new instance leads to the slot of its first place
  own_slot : (q : Put) → In q W.placed.puts → (v : Variable) (k : ℕ) → spot_in C q.frame.body (here v) ≡ Some (record { levels = 0; slot = k }) → slot_for (layout_of C) gs q.key q.frame.body (here v) ≡ nth Absent q.frame.slots k
  own_slot q i v k e =
      ap (λ (r : Option LexicalAddress). elim (frame_up gs (levels_of r) q.key) [ None ↦ Absent | Some f ↦ nth Absent f.slots (slot_of r) ]) e
      ∙ ap (λ (r : Option Frame). elim r [ None ↦ Absent | Some f ↦ nth Absent f.slots k ]) (W.placed.put_in.there q i)

  first_place : (q : Put) → In q W.placed.puts → (v : Variable) → In v (body C q.frame.body).makes → (k : ℕ) × (place_from 0 v (body C o.body).makes ≡ Some k) × (slot_for (layout_of C) gs q.key q.frame.body (here v) ≡ nth Absent q.frame.slots k) × (place_from 0 v (body C q.frame.body).makes ≡ Some k)
  first_place q i v iv = let l = own_leads C I q.frame.body v iv in
      (l.0, subst (λ (b : ℕ). place_from 0 v (body C b).makes ≡ Some l.0) (body_is q i) l.2, own_slot q i v l.0 l.3, l.2)

  new_cell : (q : Put) (v : Variable) → In q W.placed.puts → In v (body C q.frame.body).makes → 0 < own_count C (λ e. e.reads) q.frame.body v + own_count C (λ e. e.writes) q.frame.body v →
      NewCell C (layout_of C) fs gs j x (made_as fs (home j) q) v (cells_view s.cells) (cells_view W.made.cells)
  new_cell q v i iv h =
      let b = body_is q i in
      let l = first_place q i v iv in
      let f = own_found C o.body v l.0 l.1 in
      let u = one_of q i in
      let reads : f.0.reads ≡ own_count C (λ e. e.reads) q.frame.body v = f.1.reads ∙ ap (λ (z : ℕ). own_count C (λ e. e.reads) z v) (sym b) in
      let writes : f.0.writes ≡ own_count C (λ e. e.writes) q.frame.body v = f.1.writes ∙ ap (λ (z : ℕ). own_count C (λ e. e.writes) z v) (sym b) in
      let st = u.stored.key l.0 f.0 f.1.within f.1.there (omega (arith, h, reads, writes)) in
      let content : Content = content_view (started f.0.shape (start_at (starts_of (turn_slots o) u.was) l.0)) in
      record {
        key = st.0;
        leads = l.2 ∙ st.1;
        fresh = cell_there s.cells st.0 ∙ ap (option_map cell_view) st.2;
        content = content;
        starts = subst (λ (k : DatumKind). StartsAs C fs j x (made_as fs (home j) q) v (content_view (started k (start_at (starts_of (turn_slots o) u.was) l.0)))) (sym (ap (λ (y : LocalVariable). y.shape) f.1.is))
            (starts_as C fs j x u.was (turn_slots o) (made_as fs (home j) q) v l.0 (B.starts u.was u.is_in) B.value_is B.turn_is (λ w e. B.loop_body u.was w u.is_in e ∙ sym b) (ap (λ (f : Frame). step_before f.way (path_around fs (home j))) u.frame) l.3);
        is = cell_there W.made.cells st.0 ∙ ap (option_map cell_view) st.3
            ∙ ap (λ r. Some (record { reads = r; writes = f.0.writes; content = content })) reads
            ∙ ap (λ r. Some (record { reads = own_count C (λ e. e.reads) q.frame.body v; writes = r; content = content })) writes;
      }

  own_apart : (q r : Put) (v w : Variable) (d : ℕ) → In q W.placed.puts → In r W.placed.puts → IsOwn C (layout_of C) gs (made_as fs (home j) q) v d → IsOwn C (layout_of C) gs (made_as fs (home j) r) w d → (q.key ≡ r.key) × (v ≡ w)
  own_apart q r v w d iq ir a b =
      let l = first_place q iq v a.declared in
      let m = first_place r ir w b.declared in
      let f = own_found C o.body v l.0 l.1 in
      let g = own_found C o.body w m.0 m.1 in
      let e = all_apart (own_of C o.body) (turn_slots o) o.list.items W.filled W.placed.puts s W.made all_slots W.fills in_order q r l.0 m.0 d iq ir f.1.within g.1.within (sym l.2 ∙ a.leads) (sym m.2 ∙ b.leads) in
      (ap (λ (z : Put). z.key) e.0, same_at (body C o.body).makes m.0 v w (subst (λ i. slice_get (body C o.body).makes i ≡ Some v) e.1 f.1.variable) g.1.variable)

  own_only : (d : ℕ) (y : Datum) → at W.made d ≡ Some y → (at s d ≡ Some y) ⊎ ((q : Put) × (v : Variable) × In q W.placed.puts × IsOwn C (layout_of C) gs (made_as fs (home j) q) v d)
  own_only d y e = elim (only_stored (own_of C o.body) (turn_slots o) o.list.items W.filled W.placed.puts s W.made all_slots W.fills in_order d y e) [
    | inl was ↦ inl was
    | inr z ↦ inr (of z.0 z.1 z.2 z.3 z.4)
  ]
    where
      of : (q : Put) (i : ℕ) → In q W.placed.puts → i < length (own_of C o.body) → nth Absent q.frame.slots i ≡ DatumOf d → (q : Put) × (v : Variable) × In q W.placed.puts × IsOwn C (layout_of C) gs (made_as fs (home j) q) v d
      of q i iq h slot =
          let u = one_of q iq in
          let n = named (own_of C o.body) (start_at (starts_of (turn_slots o) u.was)) q.frame s W.made u.stored i d h slot in
          let r = own_back C o.body i n.0 n.1 n.2 in
          let b = sym (body_is q iq) in
          let declared : In r.variable (body C q.frame.body).makes = subst (λ (z : ℕ). In r.variable (body C z).makes) b r.declared in
          let l = first_place q iq r.variable declared in
          let same : Some l.0 ≡ Some i = sym l.1 ∙ r.place in
          let at_i : l.0 ≡ i = cc in (
            q,
            r.variable,
            iq,
            record {
              declared = declared;
              named = subst (λ (z : ℕ). 0 < own_count C (λ e. e.reads) z r.variable + own_count C (λ e. e.writes) z r.variable) b r.named;
              leads = l.2 ∙ ap (nth Absent q.frame.slots) at_i ∙ slot;
            },
          )

  pub makes_data : MakesData C (layout_of C) fs gs j x (map (made_as fs (home j)) W.placed.puts) s W.made
  makes_data = record {
    older = kept_all (own_of C o.body) (turn_slots o) o.list.items W.filled s W.made all_slots W.fills;
    new = λ m v im iv h. let q = in_unmap (made_as fs (home j)) m W.placed.puts im in
        subst (λ (z : Instance). NewCell C (layout_of C) fs gs j x z v (cells_view s.cells) (cells_view W.made.cells)) q.2
        (new_cell q.0 v q.1 (subst (λ (z : Instance). In v (body C z.body).makes) (sym q.2) iv) (subst (λ (z : Instance). 0 < own_count C (λ e. e.reads) z.body v + own_count C (λ e. e.writes) z.body v) (sym q.2) h));
    apart = λ m l v w d im il a b. let q = in_unmap (made_as fs (home j)) m W.placed.puts im in let r = in_unmap (made_as fs (home j)) l W.placed.puts il in
        let e = own_apart q.0 r.0 v w d q.1 r.1 (subst (λ (z : Instance). IsOwn C (layout_of C) gs z v d) (sym q.2) a) (subst (λ (z : Instance). IsOwn C (layout_of C) gs z w d) (sym r.2) b) in
        (sym (ap (λ (z : Instance). z.key) q.2) ∙ e.0 ∙ ap (λ (z : Instance). z.key) r.2, e.1);
    only = λ d y e. elim (own_only d y e) [ inl was ↦ inl was | inr z ↦ inr (made_as fs (home j) z.0, z.1, in_map (made_as fs (home j)) z.0 W.placed.puts z.2, z.3) ];
  }
