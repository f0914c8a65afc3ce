-- Two lists of entries as one.
use Rattle.std.proofs.Common.{◌≡◌, Bool, true, false, cond, ◌||◌, List, [], ◌∷◌, ◌++◌, refl, sym, ◌∙◌, ap, subst, IfSome, IsSomeAnd}
use Rattle.std.specs.List.{AllByRecursion}
use Rattle.std.specs.List.Sorted.{IsPermutation}
use Rattle.std.proofs.lemmas.List.Sorted.{IsPermutation-refl, IsPermutation-cons, IsPermutation-trans}
use Rattle.work_queue.specs.declared.entry.QueueEntry.{QueueEntry}
use Rattle.work_queue.specs.Order.{precedes, same}
use Rattle.work_queue.specs.Entries.{IsFirst, IsInOrder, inserted, erased, holds, first_of}
use Rattle.work_queue.specs.Merged.{merged}
use Rattle.work_queue.proofs.OrderLaws.{precedes_order, equal_same, same_itself, tied_same, true_false}
use Rattle.work_queue.proofs.InOrder.{all_behind, all_inserted, in_order_inserted, or_true}
use Rattle.work_queue.proofs.Moves.{IsPermutation-inserted}

-- x is taken before z, and y is not
apart : (x y z : QueueEntry) → precedes x z ≡ true → precedes y z ≡ false → precedes y x ≡ false
apart x y z h q =
    elim (precedes y x) as (λ b. precedes y x ≡ b → b ≡ false) [
      | true ↦ λ e. absurd (true_false (sym h ∙ precedes_order.chain x y z (precedes_order.one_way y x e) q))
      | false ↦ λ e. refl
    ] refl

swap_both : (x y z : QueueEntry) (zs : List QueueEntry) → precedes x z ≡ true → precedes y z ≡ true → cond (precedes x y) (x ∷ y ∷ z ∷ zs) (y ∷ inserted x (z ∷ zs)) ≡ cond (precedes y x) (y ∷ x ∷ z ∷ zs) (x ∷ inserted y (z ∷ zs))
swap_both x y z zs h q =
    rw (h, q) (elim (precedes x y) as (λ b. precedes x y ≡ b → cond b (x ∷ y ∷ z ∷ zs) (y ∷ x ∷ z ∷ zs) ≡ cond (precedes y x) (y ∷ x ∷ z ∷ zs) (x ∷ y ∷ z ∷ zs)) [
      | true ↦ λ e. rw (precedes_order.one_way x y e) refl
      | false ↦ λ e. elim (precedes y x) as (λ b. precedes y x ≡ b → y ∷ x ∷ z ∷ zs ≡ cond b (y ∷ x ∷ z ∷ zs) (x ∷ y ∷ z ∷ zs)) [
        | true ↦ λ f. refl
        | false ↦ λ f. subst (λ (v : QueueEntry). y ∷ v ∷ z ∷ zs ≡ v ∷ y ∷ z ∷ zs) (sym (tied_same x y e f)) refl
      ] refl
    ] refl)

-- the entry that is put first makes no difference
pub inserted_swap : (x y : QueueEntry) (zs : List QueueEntry) → inserted x (inserted y zs) ≡ inserted y (inserted x zs)
inserted_swap x y [] =
    elim (precedes x y) as (λ b. precedes x y ≡ b → cond b (x ∷ y ∷ []) (y ∷ x ∷ []) ≡ cond (precedes y x) (y ∷ x ∷ []) (x ∷ y ∷ [])) [
      | true ↦ λ e. rw (precedes_order.one_way x y e) refl
      | false ↦ λ e. elim (precedes y x) as (λ b. precedes y x ≡ b → y ∷ x ∷ [] ≡ cond b (y ∷ x ∷ []) (x ∷ y ∷ [])) [
        | true ↦ λ f. refl
        | false ↦ λ f. subst (λ (v : QueueEntry). y ∷ v ∷ [] ≡ v ∷ y ∷ []) (sym (tied_same x y e f)) refl
      ] refl
    ] refl
inserted_swap x y (z ∷ zs) =
    elim (precedes x z) as (λ b. precedes x z ≡ b → inserted x (cond (precedes y z) (y ∷ z ∷ zs) (z ∷ inserted y zs)) ≡ inserted y (cond b (x ∷ z ∷ zs) (z ∷ inserted x zs))) [
      | true ↦ λ h. elim (precedes y z) as (λ b. precedes y z ≡ b → inserted x (cond b (y ∷ z ∷ zs) (z ∷ inserted y zs)) ≡ inserted y (x ∷ z ∷ zs)) [
        | true ↦ λ q. swap_both x y z zs h q
        | false ↦ λ q. rw (h, apart x y z h q, q) refl
      ] refl
      | false ↦ λ h. elim (precedes y z) as (λ b. precedes y z ≡ b → inserted x (cond b (y ∷ z ∷ zs) (z ∷ inserted y zs)) ≡ inserted y (z ∷ inserted x zs)) [
        | true ↦ λ q. rw (apart y x z q h, h, q) refl
        | false ↦ λ q. rw (h, q) (ap (λ v. z ∷ v) (inserted_swap x y zs))
      ] refl
    ] refl

-- an entry that goes in front
pub inserted_first : (x : QueueEntry) (ys : List QueueEntry) → IsFirst x ys → inserted x ys ≡ x ∷ ys
inserted_first x [] f = refl
inserted_first x (y ∷ ys) f =
    elim (precedes x y) as (λ b. precedes x y ≡ b → cond b (x ∷ y ∷ ys) (y ∷ inserted x ys) ≡ x ∷ y ∷ ys) [
      | true ↦ λ e. refl
      | false ↦ λ e. ap (λ v. y ∷ v) (inserted_first x ys f.1) ∙ subst (λ (v : QueueEntry). y ∷ v ∷ ys ≡ v ∷ y ∷ ys) (sym (tied_same x y e f.0)) refl
    ] refl

-- an entry that is put and taken out again
pub erased_inserted : (x : QueueEntry) (zs : List QueueEntry) → IsInOrder zs → erased x (inserted x zs) ≡ zs
erased_inserted x [] s = rw (same_itself x) refl
erased_inserted x (z ∷ zs) s =
    elim (precedes x z) as (λ b. erased x (cond b (x ∷ z ∷ zs) (z ∷ inserted x zs)) ≡ z ∷ zs) [
      | true ↦ rw (same_itself x) refl
      | false ↦ elim (same x z) as (λ b. same x z ≡ b → cond b (inserted x zs) (z ∷ erased x (inserted x zs)) ≡ z ∷ zs) [
        | true ↦ λ e.
            let q : x ≡ z = equal_same x z e in
            inserted_first x zs (subst (λ v. IsFirst v zs) (sym q) s.0) ∙ ap (λ v. v ∷ zs) q
        | false ↦ λ e. ap (λ v. z ∷ v) (erased_inserted x zs s.1)
      ] refl
    ]

held_later : (x z : QueueEntry) (zs : List QueueEntry) → IsFirst z zs → holds x zs ≡ true → precedes x z ≡ false
held_later x z [] f h = absurd (true_false (sym h))
held_later x z (y ∷ zs) f h =
    elim (same x y) as (λ b. same x y ≡ b → (b || holds x zs) ≡ true → precedes x z ≡ false) [
      | true ↦ λ e q. subst (λ v. precedes v z ≡ false) (sym (equal_same x y e)) f.0
      | false ↦ λ e q. held_later x z zs f.1 q
    ] refl h

-- an entry that is taken out and put again
pub inserted_erased : (x : QueueEntry) (zs : List QueueEntry) → IsInOrder zs → holds x zs ≡ true → inserted x (erased x zs) ≡ zs
inserted_erased x [] s h = absurd (true_false (sym h))
inserted_erased x (z ∷ zs) s h =
    elim (same x z) as (λ b. same x z ≡ b → (b || holds x zs) ≡ true → inserted x (cond b zs (z ∷ erased x zs)) ≡ z ∷ zs) [
      | true ↦ λ e q.
          let p : x ≡ z = equal_same x z e in
          inserted_first x zs (subst (λ v. IsFirst v zs) (sym p) s.0) ∙ ap (λ v. v ∷ zs) p
      | false ↦ λ e q. rw (held_later x z zs s.0 q) (ap (λ v. z ∷ v) (inserted_erased x zs s.1 q))
    ] refl h

-- an entry that is put into the second list
pub merged_inserted : (xs : List QueueEntry) (x : QueueEntry) (ys : List QueueEntry) → merged xs (inserted x ys) ≡ inserted x (merged xs ys)
merged_inserted [] x ys = refl
merged_inserted (y ∷ xs) x ys = ap (λ v. inserted y v) (merged_inserted xs x ys) ∙ inserted_swap y x (merged xs ys)

-- an entry that is put into the first list
pub inserted_merged : (x : QueueEntry) (xs ys : List QueueEntry) → merged (inserted x xs) ys ≡ inserted x (merged xs ys)
inserted_merged x [] ys = refl
inserted_merged x (y ∷ xs) ys =
    elim (precedes x y) as (λ b. merged (cond b (x ∷ y ∷ xs) (y ∷ inserted x xs)) ys ≡ inserted x (inserted y (merged xs ys))) [
      | true ↦ refl
      | false ↦ ap (λ v. inserted y v) (inserted_merged x xs ys) ∙ inserted_swap y x (merged xs ys)
    ]

pub in_order_merged : (xs ys : List QueueEntry) → IsInOrder ys → IsInOrder (merged xs ys)
in_order_merged [] ys s = s
in_order_merged (x ∷ xs) ys s = in_order_inserted x (merged xs ys) (in_order_merged xs ys s)

-- an entry that is taken out of the second list
pub merged_erased : (xs : List QueueEntry) (x : QueueEntry) (ys : List QueueEntry) → IsInOrder ys → IsInOrder (erased x ys) → holds x ys ≡ true → erased x (merged xs ys) ≡ merged xs (erased x ys)
merged_erased xs x ys s q h =
    ap (λ v. erased x (merged xs v)) (sym (inserted_erased x ys s h)) ∙ ap (λ v. erased x v) (merged_inserted xs x (erased x ys)) ∙ erased_inserted x (merged xs (erased x ys)) (in_order_merged xs (erased x ys) q)

-- an entry that is taken out of the first list
pub erased_merged : (x : QueueEntry) (xs ys : List QueueEntry) → IsInOrder xs → IsInOrder ys → holds x xs ≡ true → erased x (merged xs ys) ≡ merged (erased x xs) ys
erased_merged x xs ys s q h =
    ap (λ v. erased x (merged v ys)) (sym (inserted_erased x xs s h)) ∙ ap (λ v. erased x v) (inserted_merged x (erased x xs) ys) ∙ erased_inserted x (merged (erased x xs) ys) (in_order_merged (erased x xs) ys q)

or_swap : (a b c : Bool) → (a || (b || c)) ≡ (b || (a || c))
or_swap true true c = refl
or_swap true false c = refl
or_swap false b c = refl

holds_inserted : (x y : QueueEntry) (zs : List QueueEntry) → holds x (inserted y zs) ≡ (same x y || holds x zs)
holds_inserted x y [] = refl
holds_inserted x y (z ∷ zs) =
    elim (precedes y z) as (λ b. holds x (cond b (y ∷ z ∷ zs) (z ∷ inserted y zs)) ≡ (same x y || (same x z || holds x zs))) [
      | true ↦ refl
      | false ↦ ap (λ b. same x z || b) (holds_inserted x y zs) ∙ or_swap (same x z) (same x y) (holds x zs)
    ]

or_group : (a b c : Bool) → (a || (b || c)) ≡ ((a || b) || c)
or_group true b c = refl
or_group false b c = refl

-- what both lists hold
pub holds_merged : (x : QueueEntry) (xs ys : List QueueEntry) → holds x (merged xs ys) ≡ (holds x xs || holds x ys)
holds_merged x [] ys = refl
holds_merged x (y ∷ xs) ys =
    holds_inserted x y (merged xs ys) ∙ ap (λ b. same x y || b) (holds_merged x xs ys) ∙ or_group (same x y) (holds x xs) (holds x ys)

pub held_first : (x : QueueEntry) (xs ys : List QueueEntry) → holds x xs ≡ true → holds x (merged xs ys) ≡ true
held_first x xs ys h = holds_merged x xs ys ∙ ap (λ b. b || holds x ys) h

pub held_second : (x : QueueEntry) (xs ys : List QueueEntry) → holds x ys ≡ true → holds x (merged xs ys) ≡ true
held_second x xs ys h = holds_merged x xs ys ∙ ap (λ b. holds x xs || b) h ∙ or_true (holds x xs)

pub held_nowhere : (x : QueueEntry) (xs ys : List QueueEntry) → holds x xs ≡ false → holds x ys ≡ false → holds x (merged xs ys) ≡ false
held_nowhere x xs ys h q = holds_merged x xs ys ∙ ap (λ b. b || holds x ys) h ∙ q

all_merged : (P : QueueEntry → Type 0) (xs ys : List QueueEntry) → AllByRecursion P xs → AllByRecursion P ys → AllByRecursion P (merged xs ys)
all_merged P [] ys a b = b
all_merged P (x ∷ xs) ys a b = all_inserted P x (merged xs ys) a.0 (all_merged P xs ys a.1 b)

-- none of the list is taken before x, if its first is not
first_leads : (x : QueueEntry) (ys : List QueueEntry) → IsInOrder ys → IfSome (first_of ys) (λ y. precedes y x ≡ false) → IsFirst x ys
first_leads x [] s h = tt
first_leads x (y ∷ ys) s h = (h, all_behind x y ys h s.0)

-- the first of the first list is the first of both
pub merged_leads : (x : QueueEntry) (xs ys : List QueueEntry) → IsInOrder (x ∷ xs) → IsInOrder ys → IfSome (first_of ys) (λ y. precedes y x ≡ false) → merged (x ∷ xs) ys ≡ x ∷ merged xs ys
merged_leads x xs ys s q h =
    inserted_first x (merged xs ys) (all_merged (λ v. precedes v x ≡ false) xs ys s.0 (first_leads x ys q h))

-- the first of the second list is the first of both
pub leads_merged : (y : QueueEntry) (xs ys : List QueueEntry) → IsInOrder xs → IsInOrder (y ∷ ys) → IfSome (first_of xs) (λ x. precedes x y ≡ false) → merged xs (y ∷ ys) ≡ y ∷ merged xs ys
leads_merged y xs ys s q h =
    ap (λ v. merged xs v) (sym (inserted_first y ys q.0)) ∙ merged_inserted xs y ys ∙ inserted_first y (merged xs ys) (all_merged (λ v. precedes v y ≡ false) xs ys (first_leads y xs s h) q.0)

pub first_of_first : (xs ys : List QueueEntry) → IsInOrder xs → IsInOrder ys → IsSomeAnd (first_of xs) (λ x. IfSome (first_of ys) (λ y. precedes y x ≡ false)) → first_of (merged xs ys) ≡ first_of xs
first_of_first [] ys s q h = elim h [ ]
first_of_first (x ∷ xs) ys s q h = ap first_of (merged_leads x xs ys s q h)

pub first_of_second : (xs ys : List QueueEntry) → IsInOrder xs → IsInOrder ys → IfSome (first_of xs) (λ x. IsSomeAnd (first_of ys) (λ y. precedes x y ≡ false)) → first_of (merged xs ys) ≡ first_of ys
first_of_second [] ys s q h = refl
first_of_second (x ∷ xs) [] s q h = elim h [ ]
first_of_second (x ∷ xs) (y ∷ ys) s q h = ap first_of (leads_merged y (x ∷ xs) ys s q h)

-- both lists have the entries of the one, however they stand
pub IsPermutation-merged : (xs ys : List QueueEntry) → IsPermutation (xs ++ ys) (merged xs ys)
IsPermutation-merged [] ys = IsPermutation-refl ys
IsPermutation-merged (x ∷ xs) ys =
    IsPermutation-trans _ _ _ (IsPermutation-cons x _ _ (IsPermutation-merged xs ys)) (IsPermutation-inserted x (merged xs ys))
