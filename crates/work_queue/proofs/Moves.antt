-- For callers: a change of the entries only moves them, beside the entry that comes or goes.
use Rattle.std.proofs.Common.{◌≡◌, true, false, cond, ◌||◌, List, [], ◌∷◌, refl, sym, subst, Contains}
use Rattle.std.specs.List.Sorted.{IsPermutation}
use Rattle.std.proofs.lemmas.List.Sorted.{IsPermutation-refl, IsPermutation-cons, IsPermutation-middle, IsPermutation-trans}
use Rattle.work_queue.specs.declared.entry.QueueEntry.{QueueEntry}
use Rattle.work_queue.specs.Order.{precedes, same}
use Rattle.work_queue.specs.Entries.{inserted, erased, holds}
use Rattle.work_queue.proofs.InOrder.{holds_exactly}
use Rattle.work_queue.proofs.OrderLaws.{equal_same, true_false}

swapped : (x y : QueueEntry) (zs : List QueueEntry) → IsPermutation (x ∷ y ∷ zs) (y ∷ x ∷ zs)
swapped x y zs = IsPermutation-middle (x ∷ []) y zs

-- what `put` leaves is what there was, and the entry
pub IsPermutation-inserted : (x : QueueEntry) (ys : List QueueEntry) → IsPermutation (x ∷ ys) (inserted x ys)
IsPermutation-inserted x [] = IsPermutation-refl (x ∷ [])
IsPermutation-inserted x (y ∷ ys) =
    elim (precedes x y) as (λ b. IsPermutation (x ∷ y ∷ ys) (cond b (x ∷ y ∷ ys) (y ∷ inserted x ys))) [
      | true ↦ IsPermutation-refl (x ∷ y ∷ ys)
      | false ↦ IsPermutation-trans _ _ _ (swapped x y ys) (IsPermutation-cons y _ _ (IsPermutation-inserted x ys))
    ]

erased_moves : (x : QueueEntry) (ys : List QueueEntry) → holds x ys ≡ true → IsPermutation ys (x ∷ erased x ys)
erased_moves x [] h = absurd (true_false (sym h))
erased_moves x (y ∷ ys) h =
    elim (same x y) as (λ b. same x y ≡ b → (b || holds x ys) ≡ true → IsPermutation (y ∷ ys) (x ∷ cond b ys (y ∷ erased x ys))) [
      | true ↦ λ e q. subst (λ z. IsPermutation (z ∷ ys) (x ∷ ys)) (equal_same x y e) (IsPermutation-refl (x ∷ ys))
      | false ↦ λ e q. IsPermutation-trans _ _ _ (IsPermutation-cons y _ _ (erased_moves x ys q)) (swapped y x (erased x ys))
    ] refl h

-- what there was is what `remove` leaves, and the entry
pub IsPermutation-erased : (x : QueueEntry) (ys : List QueueEntry) → Contains ys x → IsPermutation ys (x ∷ erased x ys)
IsPermutation-erased x ys there = erased_moves x ys ((holds_exactly x ys).1 there)
