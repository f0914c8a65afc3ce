-- What is in a run and in a tree, with spare nodes, as what waits.
use Rattle.std.proofs.Common.{◌≡◌, true, false, List, [], ◌∷◌, ◌++◌, Option, Some, None, MatchOption, refl, sym, ◌∙◌, ap, subst, IfSome, IsSomeAnd, ℕ, ℤ, ◌+◌, ◌-◌, ◌≤◌, length, arith, map, Result, Ok, Err, OnOk, append_assoc}
use Rattle.std.specs.List.Sorted.{IsPermutation}
use Rattle.std.proofs.lemmas.List.{map-append}
use Rattle.std.proofs.lemmas.List.Sorted.{IsPermutation-append_right, IsPermutation-map, IsPermutation-sym}
use Rattle.work_queue.specs.declared.entry.QueueEntry.{QueueEntry}
use Rattle.work_queue.specs.declared.entry.Kind.{Kind}
use Rattle.work_queue.specs.Order.{precedes}
use Rattle.work_queue.specs.Entries.{IsInOrder, inserted, erased, holds, first_of, listed}
use Rattle.work_queue.specs.Waiting.{Waiting, with_put, with_room, without, behind_first}
use Rattle.work_queue.specs.Merged.{merged}
use Rattle.work_queue.proofs.InOrder.{in_order_erased, length_inserted, length_erased}
use Rattle.work_queue.proofs.Merging.{inserted_first, merged_inserted, inserted_merged, merged_erased, erased_merged, merged_leads, leads_merged, IsPermutation-merged}

-- the entries of both, and the nodes that are not for an entry of the run
abbrev pub shared : List QueueEntry → List QueueEntry → ℕ → Waiting
shared tree run spare = record { entries = merged tree run; room = spare - length run }

same_waiting : (a b : List QueueEntry) (m n : ℕ) → a ≡ b → m ≡ n → ◌≡◌ {A = Waiting} (record { entries = a; room = m }) (record { entries = b; room = n })
same_waiting a b m n p q = rw (p, q) refl

-- room for one that was there already
pub put_after_room : (x : QueueEntry) (w : Waiting) → with_put x (with_room 1 w) ≡ with_put x w
put_after_room x w = same_waiting _ _ _ _ refl (omega arith)

pub put_in_run : (x : QueueEntry) (tree run : List QueueEntry) (spare : ℕ) → shared tree (inserted x run) spare ≡ with_put x (shared tree run spare)
put_in_run x tree run spare =
    same_waiting _ _ _ _ (merged_inserted tree x run) (omega (arith, length_inserted x run))

pub put_in_tree : (x : QueueEntry) (tree run : List QueueEntry) (spare less : ℕ) → less + 1 ≡ spare → shared (inserted x tree) run less ≡ with_put x (shared tree run spare)
put_in_tree x tree run spare less e =
    same_waiting _ _ _ _ (inserted_merged x tree run) (omega (arith, e))

-- the first of the run is put into the tree
pub moved_to_tree : (x : QueueEntry) (tree run rest : List QueueEntry) (spare : ℕ) → IsInOrder run → run ≡ x ∷ rest → with_put x (shared tree rest spare) ≡ shared tree run spare
moved_to_tree x tree run rest spare s e =
    let first : inserted x rest ≡ run = inserted_first x rest (subst IsInOrder e s).0 ∙ sym e in
    sym (put_in_run x tree rest spare) ∙ ap (λ v. shared tree v spare) first

pub first_taken : (o : Option QueueEntry) (run rest : List QueueEntry) → MatchOption o ((run ≡ []) × (rest ≡ [])) (λ e. run ≡ e ∷ rest) → o ≡ first_of run
first_taken None run rest m = rw m.0 refl
first_taken (Some e) run rest m = rw m refl

-- the first of the run goes
pub taken_from_run : (o : Option QueueEntry) (tree run rest : List QueueEntry) (spare : ℕ) → IsInOrder tree → IsInOrder run → length run ≤ spare → IfSome (first_of tree) (λ x. IsSomeAnd (first_of run) (λ y. precedes x y ≡ false)) → MatchOption o ((run ≡ []) × (rest ≡ [])) (λ e. run ≡ e ∷ rest) → shared tree rest spare ≡ behind_first (merged tree run) (spare - length run)
taken_from_run None [] run rest spare s q l h m = rw (m.0, m.1) refl
taken_from_run None (x ∷ tree) run rest spare s q l h m =
    let away : IsSomeAnd (first_of []) (λ y. precedes x y ≡ false) = subst (λ v. IsSomeAnd (first_of v) (λ y. precedes x y ≡ false)) m.0 h in
    elim away [ ]
taken_from_run (Some e) tree run rest spare s q l h m =
    let in_order : IsInOrder (e ∷ rest) = subst IsInOrder m q in
    let leads : IfSome (first_of tree) (λ x. IsSomeAnd (first_of (e ∷ rest)) (λ y. precedes x y ≡ false)) = subst (λ v. IfSome (first_of tree) (λ x. IsSomeAnd (first_of v) (λ y. precedes x y ≡ false))) m h in
    let place : length (e ∷ rest) ≤ spare = subst (λ v. length v ≤ spare) m l in
    rw m (rw (leads_merged e tree rest s in_order leads) (same_waiting _ _ _ _ refl (omega (arith, place))))

-- the first of the tree goes
pub taken_from_tree : (e : QueueEntry) (tree run rest : List QueueEntry) (spare : ℕ) → IsInOrder tree → IsInOrder run → length run ≤ spare → IfSome (first_of run) (λ y. precedes y e ≡ false) → tree ≡ e ∷ rest → shared rest run (spare + 1) ≡ behind_first (merged tree run) (spare - length run)
taken_from_tree e tree run rest spare s q l h m =
    rw m (rw (merged_leads e rest run (subst IsInOrder m s) q h) (same_waiting _ _ _ _ refl (omega (arith, l))))

pub removed_from_run : (x : QueueEntry) (tree run : List QueueEntry) (spare : ℕ) → IsInOrder run → length run ≤ spare → holds x run ≡ true → shared tree (erased x run) spare ≡ without x (shared tree run spare)
removed_from_run x tree run spare s l h =
    same_waiting _ _ _ _ (sym (merged_erased tree x run s (in_order_erased x run s) h)) (omega (arith, l, length_erased x run h))

pub removed_from_tree : (x : QueueEntry) (tree run : List QueueEntry) (spare : ℕ) → IsInOrder tree → IsInOrder run → length run ≤ spare → holds x tree ≡ true → shared (erased x tree) run (spare + 1) ≡ without x (shared tree run spare)
removed_from_tree x tree run spare s q l h =
    same_waiting _ _ _ _ (sym (erased_merged x tree run s q h)) (omega (arith, l))

-- a list to which the entries of both are added
pub listed_both : (kind : Kind) (tree run : List QueueEntry) (old new : List (Kind × ℤ × ℕ)) → new ≡ (old ++ map (listed kind) tree) ++ map (listed kind) run → IsPermutation (old ++ map (listed kind) (merged tree run)) new
listed_both kind tree run old new e =
    let both : old ++ map (listed kind) (tree ++ run) ≡ new = ap (λ v. old ++ v) (map-append (listed kind) tree run) ∙ sym (append_assoc old (map (listed kind) tree) (map (listed kind) run)) ∙ sym e in
    subst (λ v. IsPermutation (old ++ map (listed kind) (merged tree run)) v) both (IsPermutation-append_right old (map (listed kind) (merged tree run)) (map (listed kind) (tree ++ run)) (IsPermutation-map (listed kind) (merged tree run) (tree ++ run) (IsPermutation-sym _ _ (IsPermutation-merged tree run))))
