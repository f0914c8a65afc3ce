-- The numbers in a queue, once an entry is put in or taken out.
use Rattle.std.proofs.Common.{ℕ, Bool, true, false, ◌&&◌, List, [], ◌∷◌, ◌++◌, sym, subst, cond, append-nil}
use Rattle.std.specs.Ordering.{int_eq}
use Rattle.std.specs.Prelude.{ℤ, if◌then◌else◌, IsPermutation}
use Rattle.std.proofs.lemmas.List.Sorted.{IsPermutation-append_comm, IsPermutation-cons, IsPermutation-refl}
use Rattle.board_history.specs.Marking.{kind_eq}
use Rattle.task_code.specs.Code.{Control, Kind, Leaf}
use Rattle.work_queue.specs.Both.{Both, with_changed}
use Rattle.work_queue.specs.Entries.{inserted}
use Rattle.work_queue.specs.Order.{precedes}
use Rattle.work_queue.specs.Waiting.{with_put}
use Rattle.work_queue.specs.declared.entry.QueueEntry.{QueueEntry}
use Rattle.board_items.specs.View.{numbers_at, queue_view}

numbers_inserted : (z : ℤ) (e : QueueEntry) (xs : List QueueEntry) → IsPermutation (numbers_at z xs ++ (if int_eq e.priority z then e.no ∷ [] else [])) (numbers_at z (inserted e xs))
numbers_inserted z e [] = IsPermutation-refl _
numbers_inserted z e (y ∷ xs) = by (precedes e y) (numbers_inserted z e xs)
  where
    front : (b : Bool) → IsPermutation (numbers_at z (y ∷ xs) ++ (if b then e.no ∷ [] else [])) (if b then e.no ∷ numbers_at z (y ∷ xs) else numbers_at z (y ∷ xs))
    front true = IsPermutation-append_comm (numbers_at z (y ∷ xs)) (e.no ∷ [])
    front false = subst (λ (l : List ℕ). IsPermutation l (numbers_at z (y ∷ xs))) (sym (append-nil (numbers_at z (y ∷ xs)))) (IsPermutation-refl _)

    behind : (b : Bool) → IsPermutation (numbers_at z xs ++ (if int_eq e.priority z then e.no ∷ [] else [])) (numbers_at z (inserted e xs)) → IsPermutation ((if b then y.no ∷ numbers_at z xs else numbers_at z xs) ++ (if int_eq e.priority z then e.no ∷ [] else [])) (if b then y.no ∷ numbers_at z (inserted e xs) else numbers_at z (inserted e xs))
    behind true rest = IsPermutation-cons y.no _ _ rest
    behind false rest = rest

    by : (b : Bool) → IsPermutation (numbers_at z xs ++ (if int_eq e.priority z then e.no ∷ [] else [])) (numbers_at z (inserted e xs)) → IsPermutation (numbers_at z (y ∷ xs) ++ (if int_eq e.priority z then e.no ∷ [] else [])) (numbers_at z (cond b (e ∷ y ∷ xs) (y ∷ inserted e xs)))
    by true rest = front (int_eq e.priority z)
    by false rest = behind (int_eq y.priority z) rest

-- an item is put in
pub queue_put : (j : Kind) (p : ℤ) (m : ℕ) (q : Both) (k : Kind) (z : ℤ) → IsPermutation (queue_view q k z ++ (if kind_eq j k && int_eq p z then m ∷ [] else [])) (queue_view (with_changed j (with_put (record { priority = p; no = m })) q) k z)
queue_put Control p m q Control z = numbers_inserted z (record { priority = p; no = m }) q.control.entries
queue_put Leaf p m q Leaf z = numbers_inserted z (record { priority = p; no = m }) q.leaf.entries
queue_put Control p m q Leaf z = subst (λ (l : List ℕ). IsPermutation l (queue_view q Leaf z)) (sym (append-nil (queue_view q Leaf z))) (IsPermutation-refl _)
queue_put Leaf p m q Control z = subst (λ (l : List ℕ). IsPermutation l (queue_view q Control z)) (sym (append-nil (queue_view q Control z))) (IsPermutation-refl _)
