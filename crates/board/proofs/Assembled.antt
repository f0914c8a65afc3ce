-- What an item that ends without fault comes to, from what each step tells.
use Rattle.std.proofs.Common.{◌≡◌, ◌∙◌, ℕ, zero, suc, ◌<◌, ◌≤◌, true, false, List, [], ◌∷◌, length, refl, sym, ap, subst, inl, inr, arith, Option, None, slice_index_or}
use Rattle.std.specs.List.Sorted.{IsNonDecreasing}
use Rattle.dataflow.specs.System.{Answer, Distinct, In}
use Rattle.dataflow.specs.Machine.{Event, SeesAll}
use Rattle.board_history.specs.Ending.{job_kind}
use Rattle.board_history.specs.Fields.{Counted, Frame, Job, task_of}
use Rattle.board_history.specs.Static.{computed_by}
use Rattle.task_code.specs.Code.{Code, Control}
use Rattle.task_code.specs.Compute.{Computed}
use Rattle.task_code.specs.Machine.{CodeState}
use Rattle.task_code.specs.System.{code_system, task_inputs}
use Rattle.task_code.specs.Whole.{IsCode}
use Rattle.values.specs.declared.key.Key.{Key}
use Rattle.values.specs.declared.value.Scalar.{Scalar}
use Rattle.board_data.specs.View.{cells_view}
use Rattle.board_effects.specs.Effects.{GoesWell, IsEffect}
use Rattle.board_effects.specs.declared.effect.Effect.{Effect}
use Rattle.board_effects.specs.declared.effect.Effect.TheVariants as To
use Rattle.board_instances.specs.View.{frames_view, rows_view}
use Rattle.board_instances.specs.declared.pending.PendingInstances.{PendingInstances}
use Rattle.board_instances.specs.declared.item.ItemRecord.{ItemRecord}
use Rattle.board_changes.proofs.Bridge.{are_blocks}
use Rattle.board_changes.specs.Blocks.{AreBlocks}
use Rattle.board_changes.specs.Room.{OpensWell}
use Rattle.board_changes.specs.World.{goes_on}
use Rattle.board_changes.specs.declared.data_state.Change.{Change}
use Rattle.board_changes.specs.declared.data_state.Change.TheVariants as Changes
use Rattle.board.proofs.GoingKind.{going_kind}
use Rattle.board.proofs.Moves.{state_is}
use Rattle.board.proofs.OpensWell.{opens_well}
use Rattle.board.proofs.Parts.{goes_well}
use Rattle.board.proofs.SpareAfter.{HasSpare}
use Rattle.board.specs.Board.{Rises}
use Rattle.board.specs.Changing.{change_of}
use Rattle.board.specs.Counted.{CanChange}
use Rattle.board.specs.Ending.{StaysSo, is_fault}
use Rattle.board.specs.History.{state_of}
use Rattle.board.specs.Inside.{Stand}
use Rattle.board.specs.Rows.{RunsOn}
use Rattle.board.specs.declared.state.BoardState.{BoardState}

pub rows_len : (is : List ItemRecord) → length (rows_view is) ≡ length is
rows_len [] = refl
rows_len (i ∷ is) = ap suc (rows_len is)

all_low : (n : ℕ) (ns : List ℕ) → ((k d : ℕ) → k < length ns → n ≤ slice_index_or ns k d) → (m : ℕ) → In m ns → n ≤ m
all_low n [] h m i = absurd i
all_low n (y ∷ ys) h m (inl e) = let a = h 0 0 (omega arith) in omega (arith, a, e)
all_low n (y ∷ ys) h m (inr i) = all_low n ys (λ k d b. h (suc k) d (omega (arith, b))) m i

pub rises_of : (ns : List ℕ) → IsNonDecreasing ns → Distinct ns → Rises ns
rises_of [] s d = tt
rises_of (n ∷ ns) s d = (
  (λ m i. below n m (all_low n ns (λ k x b. s 0 (suc k) x (omega arith) (omega (arith, b))) m i) (λ q. d.0 (subst (λ (k : ℕ). In k ns) (sym q) i))),
  rises_of ns (λ a b x f g. s (suc a) (suc b) x (omega (arith, f)) (omega (arith, g))) d.1,
)
  where
    below : (a b : ℕ) → a ≤ b → (a ≡ b → ⊥) → a < b
    below zero zero h f = absurd (f refl)
    below zero (suc b) h f = omega arith
    below (suc a) zero h f = absurd (omega (arith, h))
    below (suc a) (suc b) h f = let y = below a b (omega (arith, h)) (λ q. f (ap suc q)) in omega (arith, y)

abbrev opened_in : Effect → PendingInstances → PendingInstances
opened_in (To.Opens p) o = p
opened_in e o = o

abbrev opened_as : Change → PendingInstances → PendingInstances
opened_as (Changes.Opens p) o = p
opened_as x o = o

no_opening : {B : Type 0} → false ≡ true → B
no_opening h = absurd (cc)

module _ (C : Code) (I : IsCode C) (es : List Event) (old room : BoardState) (same : StaysSo C old room) (s : Stand C es old) (free : old.fault ≡ None) (w n : ℕ) (j : Job)
    (runs : RunsOn (rows_view old.items.rows.items) w n j) (xs : List (Answer Key Scalar)) (sees : SeesAll (code_system C) (state_of C es) (task_inputs C (task_of (frames_view old.data_state.instances.slots) j)) xs) (e : Effect)
    (effect : IsEffect C (frames_view old.data_state.instances.slots) (cells_view old.data_state.store.cells) j (computed_by C (task_of (frames_view old.data_state.instances.slots) j) xs) e) (good : is_fault e ≡ false)
    (rows : room.items.rows.items ≡ old.items.rows.items) (frames : room.data_state.instances.slots ≡ old.data_state.instances.slots) (cells : cells_view room.data_state.store.cells ≡ cells_view old.data_state.store.cells)
    (can : CanChange C (frames_view old.data_state.instances.slots) (length old.items.rows.items) j (change_of e)) where
  abbrev fs : List (Option Frame)
  fs = frames_view room.data_state.instances.slots

  abbrev ds : List (Option Counted)
  ds = cells_view room.data_state.store.cells

  abbrev x : Computed
  x = computed_by C (task_of fs j) xs

  abbrev pub stood : Stand C es room
  stood = same.stand es s

  pub unfaulted : room.fault ≡ None
  unfaulted = same.fault ∙ free

  pub running : RunsOn (rows_view room.items.rows.items) w n j
  running = subst (λ l. RunsOn (rows_view l) w n j) (sym rows) runs

  pub seen : SeesAll (code_system C) stood.stands.state (task_inputs C (task_of fs j)) xs
  seen = subst (λ l. SeesAll (code_system C) stood.stands.state (task_inputs C (task_of (frames_view l) j)) xs) (sym frames)
      (subst (λ (u : CodeState). SeesAll (code_system C) u (task_inputs C (task_of (frames_view old.data_state.instances.slots) j)) xs) (state_is C es stood.stands.state stood.stands.reached) sees)

  pub does : IsEffect C fs ds j x e
  does = subst (λ l. IsEffect C (frames_view l) ds j (computed_by C (task_of (frames_view l) j) xs) e) (sym frames)
      (subst (λ (d : List (Option Counted)). IsEffect C (frames_view old.data_state.instances.slots) d j (computed_by C (task_of (frames_view old.data_state.instances.slots) j) xs) e) (sym cells) effect)

  pub can_now : CanChange C fs (length room.items.rows.items) j (change_of e)
  can_now = subst (λ l. CanChange C (frames_view l) (length room.items.rows.items) j (change_of e)) (sym frames)
      (subst (λ l. CanChange C (frames_view old.data_state.instances.slots) (length l) j (change_of e)) (sym rows) can)

  well : GoesWell C fs ds j x e
  well = goes_well C fs ds j x e good does

  pub kind : goes_on (change_of e) ≡ true → job_kind C j ≡ Control
  kind = by e well
    where
      by : (e : Effect) → GoesWell C fs ds j x e → goes_on (change_of e) ≡ true → job_kind C j ≡ Control
      by (To.Fails f) g h = no_opening h
      by (To.Stores d v) g h = no_opening h
      by (To.InsertsElement d k v) g h = no_opening h
      by (To.Inserts d ys) g h = no_opening h
      by (To.Prints v) g h = no_opening h
      by To.Passes g h = no_opening h
      by (To.Opens o) g h = going_kind C fs j x (sym g.opens.goes_on ∙ h)

  pub opens : OpensWell C j (change_of e)
  opens = by e well can_now
    where
      by : (e : Effect) → GoesWell C fs ds j x e → CanChange C fs (length room.items.rows.items) j (change_of e) → OpensWell C j (change_of e)
      by (To.Fails f) g c = tt
      by (To.Stores d v) g c = tt
      by (To.InsertsElement d k v) g c = tt
      by (To.Inserts d ys) g c = tt
      by (To.Prints v) g c = tt
      by To.Passes g c = tt
      by (To.Opens o) g c = opens_well C fs j x (To.Opens o) (λ p q. subst (λ (r : PendingInstances). AreBlocks C fs j x r) (ap (λ (t : Effect). opened_in t o) q) (are_blocks C fs stood.stands.frames.depth x o j g.opens)) c.1

  pub has_spare : (o : PendingInstances) → change_of e ≡ Changes.Opens o → HasSpare C o
  has_spare = by e well
    where
      by : (e : Effect) → GoesWell C fs ds j x e → (o : PendingInstances) → change_of e ≡ Changes.Opens o → HasSpare C o
      by (To.Fails f) g o q = absurd (cc)
      by (To.Stores d v) g o q = absurd (cc)
      by (To.InsertsElement d k v) g o q = absurd (cc)
      by (To.Inserts d ys) g o q = absurd (cc)
      by (To.Prints v) g o q = absurd (cc)
      by To.Passes g o q = absurd (cc)
      by (To.Opens p) g o q = subst (λ (r : PendingInstances). HasSpare C r) (ap (λ (t : Change). opened_as t o) q) ((are_blocks C fs stood.stands.frames.depth x p j g.opens).one_body, g.opens.spare)
