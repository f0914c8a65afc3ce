-- The instances that an End makes, where its openings are of its blocks.
use Rattle.std.proofs.Common.{◌≡◌, ◌∙◌, refl, sym, ap, subst, inl, inr, ℕ, suc, List, [], ◌∷◌, ◌++◌, length, map, Option}
use Rattle.dataflow.specs.System.{In}
use Rattle.data_store.specs.Stores.{Store}
use Rattle.board_history.specs.Ending.{AreMade, FramesOpen, Instance, home, made_jobs, new_row}
use Rattle.board_history.specs.Fields.{Frame, Job, Row, task_of}
use Rattle.board_history.specs.Fields as Pure
use Rattle.task_code.specs.Code.{Code, body}
use Rattle.task_code.specs.Compute.{Computed}
use Rattle.board_program.specs.declared.program.LocalVariable.{LocalVariable}
use Rattle.board_instances.proofs.Opened.{placed_made, placed_nested, placed_opens, placed_rows}
use Rattle.board_instances.specs.Made.{FitsAround, IsOpened, block_of, made_as, with_slots}
use Rattle.board_instances.specs.Nested.{IsNested}
use Rattle.board_instances.specs.Openings.{WithMore}
use Rattle.board_instances.specs.View.{opening_frame, slot_view}
use Rattle.board_instances.specs.declared.pending.PendingInstance.{PendingInstance}
use Rattle.board_instances.specs.declared.pending.PendingInstances.{PendingInstances}
use Rattle.board_changes.specs.Blocks.{AreBlocks}
use Rattle.board_changes.specs.Filled.{AreFilled}
use Rattle.board_changes.specs.Opened.{AreOpened, own_of, turn_slots}
use Rattle.board_changes.specs.declared.instance_data.TurnSlots.{TurnSlots}

-- what holds of each opening, whatever its slots, holds of each that is filled
module _ (own : List LocalVariable) (at : TurnSlots) (P : Frame → Type 0) (any : (f : Frame) (xs : List Pure.Slot) → P f → P (with_slots xs f)) where
  each_filled : (os ps : List PendingInstance) (s t : Store) → AreFilled own at os s ps t → ((o : PendingInstance) → In o os → P (opening_frame o)) → (f : Frame) → In f (map opening_frame ps) → P f
  each_filled [] [] s t w all f i = absurd i
  each_filled (o ∷ os) (p ∷ ps) s t w all f i =
      elim i [
        | inl e ↦ subst P (sym (e ∙ w.1.frame)) (any (opening_frame o) (map slot_view p.instance.slots.items) (all o (inl refl)))
        | inr k ↦ each_filled os ps w.0 t w.2 (λ x h. all x (inr h)) f k
      ]
  each_filled [] (p ∷ ps) s t w all f i = absurd w
  each_filled (o ∷ os) [] s t w all f i = absurd w

blocks_filled : (own : List LocalVariable) (at : TurnSlots) (fs : List (Option Frame)) (around : Option ℕ) (os ps : List PendingInstance) (s t : Store) → AreFilled own at os s ps t →
    map (block_of fs around) (map opening_frame ps) ≡ map (block_of fs around) (map opening_frame os)
blocks_filled own at fs around [] [] s t w = refl
blocks_filled own at fs around (o ∷ os) (p ∷ ps) s t w =
    let e : block_of fs around (opening_frame p) ≡ block_of fs around (opening_frame o) = ap (block_of fs around) w.1.frame in
    let r = blocks_filled own at fs around os ps w.0 t w.2 in
    λ i. e i ∷ r i
blocks_filled own at fs around [] (p ∷ ps) s t w = absurd w
blocks_filled own at fs around (o ∷ os) [] s t w = absurd w

count_filled : (own : List LocalVariable) (at : TurnSlots) (os ps : List PendingInstance) (s t : Store) → AreFilled own at os s ps t → length (map opening_frame ps) ≡ length os
count_filled own at [] [] s t w = refl
count_filled own at (o ∷ os) (p ∷ ps) s t w = ap suc (count_filled own at os ps w.0 t w.2)
count_filled own at [] (p ∷ ps) s t w = absurd w
count_filled own at (o ∷ os) [] s t w = absurd w

module _ (C : Code) (j : Job) (x : Computed) (o : PendingInstances) (fs gs : List (Option Frame)) (old new : List Row) (s t : Store) (B : AreBlocks C fs j x o) (W : AreOpened C j o fs gs old new s t) where
  abbrev pub made : List Instance
  made = map (made_as fs (home j)) W.placed.puts

  pub are_made : AreMade C made (task_of fs j) x
  are_made = placed_made C fs W.middle gs (home j) (map opening_frame W.filled) (body C o.body).entries old new W.last W.placed (task_of fs j) x
      (blocks_filled (own_of C o.body) (turn_slots o) fs (home j) o.list.items W.filled s W.made W.fills ∙ B.blocks)

  pub rows_are : new ≡ old ++ map new_row (made_jobs C made)
  rows_are = placed_rows C fs W.middle gs (home j) (map opening_frame W.filled) (body C o.body).entries old new W.last W.placed
      (each_filled (own_of C o.body) (turn_slots o) (λ f. (body C f.body).entries ≡ (body C o.body).entries) (λ f xs h. h) o.list.items W.filled s W.made W.fills (λ one i. ap (λ b. (body C b).entries) (B.one_body one i)))

  all_opened : (f : Frame) → In f (map opening_frame W.filled) → IsOpened C fs (home j) f
  all_opened = each_filled (own_of C o.body) (turn_slots o) (IsOpened C fs (home j)) (λ f xs h. record { parent = h.parent; level = h.level; depth = h.depth; live = h.live; some = h.some }) o.list.items W.filled s W.made W.fills B.each

  pub count : length (map opening_frame W.filled) ≡ length o.list.items
  count = count_filled (own_of C o.body) (turn_slots o) o.list.items W.filled s W.made W.fills

  module _ (fits : FitsAround fs (home j) (length o.list.items)) where
    fit : FitsAround fs (home j) (length (map opening_frame W.filled))
    fit = subst (FitsAround fs (home j)) (sym count) fits

    more : WithMore fs (home j) (length (map opening_frame W.filled)) W.middle
    more = subst (λ n. WithMore fs (home j) n W.middle) (sym count) W.around

    pub frames_open : FramesOpen C fs (home j) made gs
    frames_open = placed_opens C fs W.middle gs (home j) (map opening_frame W.filled) (body C o.body).entries old new W.last all_opened fit more W.placed

    pub nested : IsNested fs → IsNested gs
    nested n = placed_nested C fs W.middle gs (home j) (map opening_frame W.filled) (body C o.body).entries old new W.last all_opened fit more W.placed n
