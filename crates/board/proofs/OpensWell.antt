-- What an effect opens has slots for its data, and a next chunk where a loop goes on.
use Rattle.std.proofs.Common.{◌≡◌, ℕ, zero, suc, ◌≤◌, ◌++◌, ap, refl, sym, subst, List, [], ◌∷◌, length, map, replicate, Option, arith}
use Rattle.board_history.specs.Fields.{Absent, Frame, Job, Slot}
use Rattle.task_code.specs.Code.{Code, body}
use Rattle.board_instances.specs.View.{opening_frame, slot_view}
use Rattle.board_instances.specs.declared.instance.Slot.{Slot as ASlot}
use Rattle.board_instances.specs.declared.pending.PendingInstance.{PendingInstance}
use Rattle.task_code.specs.Compute.{Computed}
use Rattle.board_effects.specs.declared.effect.Effect.{Effect}
use Rattle.board_effects.specs.declared.effect.Effect.TheVariants as To
use Rattle.board_instances.specs.declared.pending.PendingInstances.{PendingInstances}
use Rattle.board_changes.proofs.Cells.{own_count_of}
use Rattle.board_changes.specs.Blocks.{AreBlocks, handed}
use Rattle.board_changes.specs.Filled.{HasSlots}
use Rattle.board_changes.specs.Opened.{CanGoOn}
use Rattle.board_changes.specs.Room.{OpensWell}
use Rattle.board_changes.specs.World.{goes_on}
use Rattle.board.specs.Changing.{change_of}

long_slots : (n : ℕ) (zs : List Slot) (one : PendingInstance) → (opening_frame one).slots ≡ replicate n Absent ++ zs → HasSlots n one
long_slots n zs one e = omega (arith, views one.instance.slots.items, ap (λ (ys : List Slot). length ys) e, long n)
  where
    views : (xs : List ASlot) → length (map slot_view xs) ≡ length xs
    views [] = refl
    views (x ∷ xs) = ap suc (views xs)

    long : (n : ℕ) → n ≤ length (replicate n Absent ++ zs)
    long zero = omega arith
    long (suc n) = omega (arith, long n)

pub opens_well : (C : Code) (fs : List (Option Frame)) (j : Job) (x : Computed) (e : Effect) → ((o : PendingInstances) → e ≡ To.Opens o → AreBlocks C fs j x o) → CanGoOn j (goes_on (change_of e)) → OpensWell C j (change_of e)
opens_well C fs j x (To.Fails f) b g = tt
opens_well C fs j x (To.Stores d v) b g = tt
opens_well C fs j x (To.InsertsElement d k v) b g = tt
opens_well C fs j x (To.Inserts d es) b g = tt
opens_well C fs j x (To.Prints v) b g = tt
opens_well C fs j x To.Passes b g = tt
opens_well C fs j x (To.Opens o) b g = ((λ one i. subst (λ n. HasSlots n one) (sym (own_count_of C o.body)) (long_slots (length (body C o.body).makes) (handed C fs j) one ((b o refl).slots one i))), g)
