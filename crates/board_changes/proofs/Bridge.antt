-- The openings of an item are of its blocks.
use Rattle.std.proofs.Common.{◌≡◌, ◌∙◌, refl, sym, ap, subst, ℕ, ◌<◌, true, List, [], ◌∷◌, ◌++◌, length, map, replicate, Option, Some, None, arith}
use Rattle.std.specs.List.{filter}
use Rattle.dataflow.specs.System.{In}
use Rattle.dataflow.proofs.Lists.{in_map, in_unmap}
use Rattle.board_history.proofs.Tests.{in_kept}
use Rattle.board_history.specs.Ending.{has_entries, home}
use Rattle.board_history.specs.Fields.{Absent, Does, Frame, Job, Script, Slot, path_of, slot_at, step_before, task_of}
use Rattle.board_history.specs.Static.{opened}
use Rattle.task_code.specs.Code.{Act, Argument, Assert, Call, Cell, Code, Copy, Each, Fill, If, Loop, Print, InsertElement, Range, Read, Set, Wait, arguments, body, entry, loop_of}
use Rattle.task_code.specs.Compute.{Computed}
use Rattle.task_code.specs.Effects.{chunk, instances, is_some_list, step_at, turns_of}
use Rattle.task_code.specs.Places.{Step}
use Rattle.values.specs.declared.key.Key.{Key}
use Rattle.values.specs.declared.value.Scalar.{Scalar}
use Rattle.board_program.specs.Tables.{passed_in}
use Rattle.board_data.specs.Openings.{AreOpenings, IsOpenedBy, handed_over}
use Rattle.board_instances.proofs.Opened.{inner_opened, outermost_opened}
use Rattle.board_instances.specs.Made.{IsOpened, block_of}
use Rattle.board_instances.specs.Openings.{IsInner, passed_from, unfilled}
use Rattle.board_instances.specs.View.{opening_frame}
use Rattle.board_instances.specs.declared.pending.PendingInstance.{PendingInstance}
use Rattle.board_instances.specs.declared.pending.PendingInstances.{PendingInstances}
use Rattle.board_changes.specs.Blocks.{AreBlocks, TurnStarts, handed}

-- a loop hands nothing over
loop_arguments : (a : Act) (w : Loop) → loop_of a ≡ Some w → arguments a ≡ []
loop_arguments (Range l h s v) w e = refl
loop_arguments (Each v) w e = refl
loop_arguments (Cell x) w e = refl
loop_arguments Read w e = refl
loop_arguments (Call b rs os) w e = absurd (cc)
loop_arguments (Set r x) w e = refl
loop_arguments (Fill r es) w e = refl
loop_arguments (Copy r) w e = refl
loop_arguments (InsertElement r i x) w e = refl
loop_arguments (Print x) w e = refl
loop_arguments (Assert x) w e = refl
loop_arguments (If x b d) w e = refl
loop_arguments (Wait hs b) w e = refl

-- the blocks of a loop are of its body
loop_instances : (a : Act) (w : Loop) → loop_of a ≡ Some w → (offset : ℕ) (p : List Step) (c : ℕ) (x : Computed) (s : ℕ × List Step) → In s (instances a offset p c x) → s.0 ≡ w.body
loop_instances (Range l h k v) w e offset p c x s i =
    let r = in_unmap (λ (t : Key × Scalar). (v.body, step_at offset t.0 p)) s (chunk c (turns_of x)) i in
    let q : v ≡ w = cc in
    sym (ap (λ (z : ℕ × List Step). z.0) r.2) ∙ ap (λ (z : Loop). z.body) q
loop_instances (Each v) w e offset p c x s i =
    let r = in_unmap (λ (t : Key × Scalar). (v.body, step_at offset t.0 p)) s (chunk c (turns_of x)) i in
    let q : v ≡ w = cc in
    sym (ap (λ (z : ℕ × List Step). z.0) r.2) ∙ ap (λ (z : Loop). z.body) q
loop_instances (Cell y) w e offset p c x s i = absurd i
loop_instances Read w e offset p c x s i = absurd i
loop_instances (Call b rs os) w e offset p c x s i = absurd (cc)
loop_instances (Set r y) w e offset p c x s i = absurd i
loop_instances (Fill r es) w e offset p c x s i = absurd i
loop_instances (Copy r) w e offset p c x s i = absurd i
loop_instances (InsertElement r k y) w e offset p c x s i = absurd i
loop_instances (Print y) w e offset p c x s i = absurd i
loop_instances (Assert y) w e offset p c x s i = absurd i
loop_instances (If y b d) w e offset p c x s i = absurd (cc)
loop_instances (Wait hs b) w e offset p c x s i = absurd (cc)

some_length : {X : Type 0} (xs : List X) → is_some_list xs ≡ true → 0 < length xs
some_length [] e = absurd (cc)
some_length (x ∷ xs) e = omega arith

-- an instance inside of another, as it is asked of an opening
module _ (C : Code) (fs : List (Option Frame)) (deep : (k : ℕ) (g : Frame) → slot_at fs k ≡ Some g → g.depth ≡ length (path_of fs k)) (k e c : ℕ) (x : Computed) (number : ℕ) (one : PendingInstance) where
  inner_body : (way : Option Step) (passed : List Slot) → IsInner C fs k number way passed (opening_frame one) → (opening_frame one).body ≡ number
  inner_body way passed i = ap (λ (f : Frame). f.body) i.is

  one_inner : (l : Option Loop) → IsOpenedBy C fs k e c x number l one → (way : Option Step) × (passed : List Slot) × IsInner C fs k number way passed (opening_frame one)
  one_inner None h = (h.0, handed_over C fs k e, h.1.inner)
  one_inner (Some w) h = (Some (record { offset = (entry C e).offset; key = h.0.0 }), [], h.2.inner)

  one_opened : (l : Option Loop) → IsOpenedBy C fs k e c x number l one → 0 < length (body C number).entries → IsOpened C fs (Some k) (opening_frame one)
  one_opened l h some = let i = one_inner l h in inner_opened C fs k number i.0 i.1 (opening_frame one).slots (opening_frame one) (λ g q. deep k g q) some i.2

  one_slots : (l : Option Loop) → loop_of (entry C e).act ≡ l → IsOpenedBy C fs k e c x number l one → (opening_frame one).slots ≡ replicate (length (body C number).makes) Absent ++ handed C fs (Does k e c)
  one_slots None q h = ap (λ (f : Frame). f.slots) h.1.inner.is
  one_slots (Some w) q h = ap (λ (f : Frame). f.slots) h.2.inner.is ∙ ap (λ (zs : List Slot). replicate (length (body C number).makes) Absent ++ zs) (nothing (slot_at fs k))
    where
      nothing : (r : Option Frame) → ◌≡◌ {A = List Slot} [] (elim r [ None ↦ [] | Some f ↦ passed_from fs k e 0 (map (passed_in C f.body) (arguments (entry C e).act)) ])
      nothing None = refl
      nothing (Some f) = sym (ap (λ (gs : List Argument). passed_from fs k e 0 (map (passed_in C f.body) gs)) (loop_arguments (entry C e).act w q))

  one_starts : (l : Option Loop) → IsOpenedBy C fs k e c x number l one → TurnStarts C fs (path_of fs k) (entry C e).offset c x l one
  one_starts None h = (h.1.value_is, h.1.turn_is)
  one_starts (Some w) h = (h.0, h.1, ap (λ (f : Frame). step_before f.way (path_of fs k)) h.2.inner.is, h.2.value_is, h.2.turn_is)

module _ (C : Code) (fs : List (Option Frame)) (deep : (k : ℕ) (g : Frame) → slot_at fs k ≡ Some g → g.depth ≡ length (path_of fs k)) (x : Computed) (o : PendingInstances) where
  -- an opening is of a block that has entries
  a_block : (j : Job) → AreOpenings C fs j x o → (one : PendingInstance) → In one o.list.items → In (block_of fs (home j) (opening_frame one)) (opened C (task_of fs j) x) × (0 < length (body C (opening_frame one).body).entries)
  a_block j a one i =
      let b = block_of fs (home j) (opening_frame one) in
      let h : In b (filter (has_entries C) (opened C (task_of fs j) x)) = subst (λ (l : List (ℕ × List Step)). In b l) a.blocks (in_map (block_of fs (home j)) (opening_frame one) (map opening_frame o.list.items) (in_map opening_frame one o.list.items i)) in
      let p = in_kept (has_entries C) b (opened C (task_of fs j) x) h in
      (p.0, some_length (body C (opening_frame one).body).entries p.1)

  pub are_blocks : (j : Job) → AreOpenings C fs j x o → AreBlocks C fs j x o
  are_blocks Script a = record {
    blocks = a.blocks;
    each = λ one i. let h = a.each one i in let s = a_block Script a one i in
        subst (IsOpened C fs None) (sym h.0.frame_is) (outermost_opened C fs (unfilled None 0 0 None 0 (body C 0) []).slots (subst (λ (f : Frame). 0 < length (body C f.body).entries) h.0.frame_is s.1));
    one_body = λ one i. let h = a.each one i in ap (λ (f : Frame). f.body) h.0.frame_is ∙ sym h.1;
    slots = λ one i. let h = a.each one i in ap (λ (f : Frame). f.slots) h.0.frame_is ∙ ap (λ (n : ℕ). replicate (length (body C n).makes) Absent ++ []) (sym h.1);
    starts = λ one i. let h = a.each one i in (h.0.value_is, h.0.turn_is);
    value_is = a.value_is;
    turn_is = a.turn_is;
    loop_body = λ one w i e. absurd (cc);
  }
  are_blocks (Does k e c) a = record {
    blocks = a.blocks;
    each = λ one i. let s = a_block (Does k e c) a one i in
        one_opened C fs deep k e c x o.body one (loop_of (entry C e).act) (a.each one i) (subst (λ (n : ℕ). 0 < length (body C n).entries) (number one i) s.1);
    one_body = number;
    slots = λ one i. one_slots C fs deep k e c x o.body one (loop_of (entry C e).act) refl (a.each one i);
    starts = λ one i. one_starts C fs deep k e c x o.body one (loop_of (entry C e).act) (a.each one i);
    value_is = a.value_is;
    turn_is = a.turn_is;
    loop_body = λ one w i q. let s = a_block (Does k e c) a one i in sym (loop_instances (entry C e).act w q (entry C e).offset (path_of fs k) c x (block_of fs (Some k) (opening_frame one)) s.0) ∙ number one i;
  }
    where
      number : (one : PendingInstance) → In one o.list.items → (opening_frame one).body ≡ o.body
      number one i = let n = one_inner C fs deep k e c x o.body one (loop_of (entry C e).act) (a.each one i) in inner_body C fs deep k e c x o.body one n.0 n.1 n.2
