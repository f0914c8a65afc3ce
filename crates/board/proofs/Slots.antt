-- No instance has more slots than numbers, after an End too.
use Rattle.std.proofs.Common.{◌≡◌, inl, inr, ◌∙◌, ℕ, suc, ◌<◌, ◌≤◌, List, [], ◌∷◌, map, length, refl, sym, ap, subst, arith, Option, Some}
use Rattle.std.specs.Prelude.{◌^◌, slice_get}
use Rattle.dataflow.specs.System.{In}
use Rattle.dataflow.proofs.Lists.{in_unmap}
use Rattle.data_store.specs.Stores.{Store}
use Rattle.board_history.specs.Ending.{FramesOpen, Instance, TakenOff, goes, home, outside, stays}
use Rattle.board_history.specs.Fields.{Frame, Job, Row, slot_at}
use Rattle.board_history.proofs.Tests.{none_some, some_same}
use Rattle.task_code.specs.Code.{Code}
use Rattle.task_code.specs.Compute.{Computed}
use Rattle.task_code.specs.Whole.{IsCode}
use Rattle.board_data.specs.Wanted.{FewSlots}
use Rattle.board_instances.specs.Made.{FitsAround, made_as}
use Rattle.board_instances.specs.Openings.{Put}
use Rattle.board_instances.specs.View.{opening_frame, slot_view}
use Rattle.board_instances.specs.declared.pending.PendingInstance.{PendingInstance}
use Rattle.board_instances.specs.declared.pending.PendingInstances.{PendingInstances}
use Rattle.board_changes.proofs.Frames.{frames_open}
use Rattle.board_changes.proofs.MadeData.{one_of}
use Rattle.board_changes.specs.Blocks.{AreBlocks}
use Rattle.board_changes.specs.Opened.{AreOpened}
use Rattle.std.proofs.lemmas.Bool.{cases_eq}

-- an item leaves its instance
pub few_left : (gs fs : List (Option Frame)) (at : Option ℕ) → TakenOff gs fs at → FewSlots fs → FewSlots gs
few_left gs fs at (outside _ _ e same) few k f h = few k f (sym (same k) ∙ h)
few_left gs fs at (stays _ _ j n g e there live set) few k f h =
    elim (cases_eq k j) [
      | inl q ↦ subst (λ (x : Frame). length x.slots ≤ 2 ^ 64) (some_same (sym set.here ∙ ap (slot_at gs) (sym q) ∙ h)) (few j g there)
      | inr d ↦ few k f (sym (set.others k d) ∙ h)
    ]
few_left gs fs at (goes _ hs _ j g e there live set rest) few k f h =
    few_left gs hs g.parent rest
    (λ i y z.
    elim (cases_eq i j) [
      | inl q ↦ none_some (sym set.here ∙ ap (slot_at hs) (sym q) ∙ z)
      | inr d ↦ few i y (sym (set.others i d) ∙ z)
    ]) k f h

-- instances are opened
pub few_made : (C : Code) (fs gs : List (Option Frame)) (around : Option ℕ) (made : List Instance) → FramesOpen C fs around made gs → FewSlots fs → ((m : Instance) (f : Frame) → In m made → slot_at gs m.key ≡ Some f → length f.slots ≤ 2 ^ 64) → FewSlots gs
few_made C fs gs around made o few new k g h =
    elim (o.only k g h) [
      | inl p ↦ subst (λ (x : Frame). length x.slots ≤ 2 ^ 64) (some_same (sym (o.old k p.0 p.1) ∙ h)) (few k p.0 p.1)
      | inr p ↦ new p.0 g p.1 (ap (slot_at gs) p.2 ∙ h)
    ]

-- one of a list is there only where a first is
first_there : (os : List PendingInstance) (one : PendingInstance) → In one os → (first : PendingInstance) × (slice_get os 0 ≡ Some first) × In first os
first_there [] one i = absurd i
first_there (o ∷ os) one i = (o, refl, inl refl)

map_length : {X Y : Type 0} (f : X → Y) (xs : List X) → length (map f xs) ≡ length xs
map_length f [] = refl
map_length f (x ∷ xs) = ap suc (map_length f xs)

module _ (C : Code) (I : IsCode C) (j : Job) (x : Computed) (o : PendingInstances) (fs gs : List (Option Frame)) (old new : List Row) (s t : Store) (B : AreBlocks C fs j x o) (W : AreOpened C j o fs gs old new s t)
    (n : ℕ) (first : (one : PendingInstance) → slice_get o.list.items 0 ≡ Some one → n ≡ length one.instance.slots.items) (few : n < 2 ^ 64) where
  -- all that are opened have as many as the first
  as_many : (one : PendingInstance) → In one o.list.items → length (opening_frame one).slots ≡ n
  as_many one i =
      let f = first_there o.list.items one i in
      ap length (B.slots one i) ∙ sym (ap length (B.slots f.0 f.2)) ∙ map_length slot_view f.0.instance.slots.items ∙ sym (first f.0 f.1)

  pub few_put : (q : Put) → In q W.placed.puts → length q.frame.slots < 2 ^ 64
  few_put q i =
      let u = one_of C I j x o fs gs old new s t B W q i in
      let c = u.count in
      let a = as_many u.was u.is_in in
      omega (arith, few)

  -- so it is of all instances once they are opened
  pub few_opened : FitsAround fs (home j) (length o.list.items) → FewSlots fs → FewSlots gs
  few_opened fits few_before =
      few_made C fs gs (home j) (map (made_as fs (home j)) W.placed.puts) (frames_open C j x o fs gs old new s t B W fits) few_before
      (λ m f i h.
      let q = in_unmap (made_as fs (home j)) m W.placed.puts i in
      let there : slot_at gs q.0.key ≡ Some f = ap (λ (z : Instance). slot_at gs z.key) q.2 ∙ h in
      let same : q.0.frame ≡ f = some_same (sym (W.placed.put_in.there q.0 q.1) ∙ there) in
      let l : length q.0.frame.slots < 2 ^ 64 = few_put q.0 q.1 in
      subst (λ (y : Frame). length y.slots ≤ 2 ^ 64) same (omega arith))
