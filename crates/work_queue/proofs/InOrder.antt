-- Lists of entries in order, round an entry k.
use Rattle.std.proofs.Common.{◌≡◌, Bool, true, false, cond, ◌||◌, List, [], ◌∷◌, ◌++◌, refl, sym, ◌∙◌, ap, subst, arith, length, length-append, ◌<◌, ◌+◌, ◌↔◌, IsTrue, Contains, IfSome, ℕ, zero, suc, slice_index_or}
use Rattle.std.specs.List.{AllByRecursion}
use Rattle.std.proofs.lemmas.List.Elements.{All-cons, All-from_recursion}
use Rattle.work_queue.specs.declared.entry.QueueEntry.{QueueEntry}
use Rattle.work_queue.specs.Order.{precedes, same}
use Rattle.work_queue.specs.Entries.{IsFirst, IsInOrder, IsForemost, ComesNoLater, inserted, erased, holds, first_of}
use Rattle.work_queue.proofs.OrderLaws.{precedes_order, equal_same, same_itself, same_precedes, same_follows, same_behind, same_ahead, tied_same, true_false, no_later, precedes_itself}

all_front : (P : QueueEntry → Type 0) (l m : List QueueEntry) → AllByRecursion P (l ++ m) → AllByRecursion P l
all_front P [] m a = tt
all_front P (x ∷ l) m a = (a.0, all_front P l m a.1)

all_middle : (P : QueueEntry → Type 0) (l : List QueueEntry) (k : QueueEntry) (r : List QueueEntry) → AllByRecursion P (l ++ k ∷ r) → P k
all_middle P [] k r a = a.0
all_middle P (y ∷ l) k r a = all_middle P l k r a.1

pub in_order_left : (l : List QueueEntry) (k : QueueEntry) (r : List QueueEntry) → IsInOrder (l ++ k ∷ r) → IsInOrder l
in_order_left [] k r s = tt
in_order_left (y ∷ l) k r s = (all_front (λ v. precedes v y ≡ false) l (k ∷ r) s.0, in_order_left l k r s.1)

pub in_order_right : (l : List QueueEntry) (k : QueueEntry) (r : List QueueEntry) → IsInOrder (l ++ k ∷ r) → IsInOrder r
in_order_right [] k r s = s.1
in_order_right (y ∷ l) k r s = in_order_right l k r s.1

pub inserted_left : (x : QueueEntry) (l : List QueueEntry) (k : QueueEntry) (r : List QueueEntry) → precedes x k ≡ true → inserted x (l ++ k ∷ r) ≡ inserted x l ++ k ∷ r
inserted_left x [] k r h = rw h
inserted_left x (y ∷ l) k r h =
    elim (precedes x y) as (λ b. cond b (x ∷ y ∷ (l ++ k ∷ r)) (y ∷ inserted x (l ++ k ∷ r)) ≡ cond b (x ∷ y ∷ l) (y ∷ inserted x l) ++ k ∷ r) [
      | true ↦ refl
      | false ↦ ap (λ z. y ∷ z) (inserted_left x l k r h)
    ]

pub inserted_right : (x : QueueEntry) (l : List QueueEntry) (k : QueueEntry) (r : List QueueEntry) → precedes x k ≡ false → IsInOrder (l ++ k ∷ r) → inserted x (l ++ k ∷ r) ≡ l ++ k ∷ inserted x r
inserted_right x [] k r h s = rw h
inserted_right x (y ∷ l) k r h s =
    let behind : precedes k y ≡ false = all_middle (λ v. precedes v y ≡ false) l k r s.0 in
    let later : precedes x y ≡ false = precedes_order.chain x k y h behind in
    rw later (ap (λ z. y ∷ z) (inserted_right x l k r h s.1))

erased_behind : (x k : QueueEntry) (r : List QueueEntry) → precedes x k ≡ true → IsFirst k r → erased x r ≡ r
erased_behind x k [] h f = refl
erased_behind x k (y ∷ r) h f = rw (same_behind x k y h f.0) (ap (λ z. y ∷ z) (erased_behind x k r h f.1))

holds_behind : (x k : QueueEntry) (r : List QueueEntry) → precedes x k ≡ true → IsFirst k r → holds x r ≡ false
holds_behind x k [] h f = refl
holds_behind x k (y ∷ r) h f = rw (same_behind x k y h f.0) (holds_behind x k r h f.1)

pub erased_left : (x : QueueEntry) (l : List QueueEntry) (k : QueueEntry) (r : List QueueEntry) → precedes x k ≡ true → IsInOrder (l ++ k ∷ r) → erased x (l ++ k ∷ r) ≡ erased x l ++ k ∷ r
erased_left x [] k r h s = rw (same_precedes x k h) (ap (λ z. k ∷ z) (erased_behind x k r h s.0))
erased_left x (y ∷ l) k r h s =
    elim (same x y) as (λ b. cond b (l ++ k ∷ r) (y ∷ erased x (l ++ k ∷ r)) ≡ cond b l (y ∷ erased x l) ++ k ∷ r) [
      | true ↦ refl
      | false ↦ ap (λ z. y ∷ z) (erased_left x l k r h s.1)
    ]

pub holds_left : (x : QueueEntry) (l : List QueueEntry) (k : QueueEntry) (r : List QueueEntry) → precedes x k ≡ true → IsInOrder (l ++ k ∷ r) → holds x (l ++ k ∷ r) ≡ holds x l
holds_left x [] k r h s = rw (same_precedes x k h) (holds_behind x k r h s.0)
holds_left x (y ∷ l) k r h s = ap (λ b. same x y || b) (holds_left x l k r h s.1)

pub erased_right : (x : QueueEntry) (l : List QueueEntry) (k : QueueEntry) (r : List QueueEntry) → precedes k x ≡ true → IsInOrder (l ++ k ∷ r) → erased x (l ++ k ∷ r) ≡ l ++ k ∷ erased x r
erased_right x [] k r h s = rw (same_follows x k h)
erased_right x (y ∷ l) k r h s =
    let behind : precedes k y ≡ false = all_middle (λ v. precedes v y ≡ false) l k r s.0 in
    rw (same_ahead x k y h behind) (ap (λ z. y ∷ z) (erased_right x l k r h s.1))

pub holds_right : (x : QueueEntry) (l : List QueueEntry) (k : QueueEntry) (r : List QueueEntry) → precedes k x ≡ true → IsInOrder (l ++ k ∷ r) → holds x (l ++ k ∷ r) ≡ holds x r
holds_right x [] k r h s = rw (same_follows x k h)
holds_right x (y ∷ l) k r h s =
    let behind : precedes k y ≡ false = all_middle (λ v. precedes v y ≡ false) l k r s.0 in
    rw (same_ahead x k y h behind) (holds_right x l k r h s.1)

-- each side is shorter than all of it
pub left_shorter : (l : List QueueEntry) (k : QueueEntry) (r all : List QueueEntry) → l ++ k ∷ r ≡ all → length l < length all
left_shorter l k r all e = omega (arith, length-append l (k ∷ r), ap length e)

pub right_shorter : (l : List QueueEntry) (k : QueueEntry) (r all : List QueueEntry) → l ++ k ∷ r ≡ all → length r < length all
right_shorter l k r all e = omega (arith, length-append l (k ∷ r), ap length e)

-- between two that are the same all are the same
same_between : (x : QueueEntry) (l r : List QueueEntry) → IsInOrder (x ∷ (l ++ x ∷ r)) → l ++ x ∷ r ≡ x ∷ (l ++ r)
same_between x [] r s = refl
same_between x (v ∷ l) r s =
    let e : x ≡ v = tied_same x v (all_middle (λ u. precedes u v ≡ false) l x r s.1.0) s.0.0 in
    ap (λ z. v ∷ z) (same_between x l r (subst (λ z. IsInOrder (z ∷ (l ++ x ∷ r))) (sym e) s.1)) ∙ subst (λ z. z ∷ (x ∷ (l ++ r)) ≡ x ∷ (z ∷ (l ++ r))) e refl

pub erased_here : (x : QueueEntry) (l r : List QueueEntry) → IsInOrder (l ++ x ∷ r) → erased x (l ++ x ∷ r) ≡ l ++ r
erased_here x [] r s = rw (same_itself x)
erased_here x (y ∷ l) r s =
    elim (same x y) as (λ b. same x y ≡ b → cond b (l ++ x ∷ r) (y ∷ erased x (l ++ x ∷ r)) ≡ y ∷ (l ++ r)) [
      | true ↦ λ e.
          let q : x ≡ y = equal_same x y e in
          same_between x l r (subst (λ z. IsInOrder (z ∷ (l ++ x ∷ r))) (sym q) s) ∙ ap (λ z. z ∷ (l ++ r)) q
      | false ↦ λ e. ap (λ z. y ∷ z) (erased_here x l r s.1)
    ] refl

pub or_true : (b : Bool) → (b || true) ≡ true
or_true true = refl
or_true false = refl

pub holds_here : (x : QueueEntry) (l r : List QueueEntry) → holds x (l ++ x ∷ r) ≡ true
holds_here x [] r = rw (same_itself x)
holds_here x (y ∷ l) r = rw (holds_here x l r) (or_true (same x y))

pub all_behind : (x y : QueueEntry) (ys : List QueueEntry) → precedes y x ≡ false → IsFirst y ys → IsFirst x ys
all_behind x y [] h f = tt
all_behind x y (v ∷ ys) h f = (precedes_order.chain v y x f.0 h, all_behind x y ys h f.1)

pub all_inserted : (P : QueueEntry → Type 0) (x : QueueEntry) (ys : List QueueEntry) → P x → AllByRecursion P ys → AllByRecursion P (inserted x ys)
all_inserted P x [] p a = (p, tt)
all_inserted P x (y ∷ ys) p a =
    elim (precedes x y) as (λ b. AllByRecursion P (cond b (x ∷ y ∷ ys) (y ∷ inserted x ys))) [
      | true ↦ (p, a)
      | false ↦ (a.0, all_inserted P x ys p a.1)
    ]

pub in_order_inserted : (x : QueueEntry) (ys : List QueueEntry) → IsInOrder ys → IsInOrder (inserted x ys)
in_order_inserted x [] s = (tt, tt)
in_order_inserted x (y ∷ ys) s =
    elim (precedes x y) as (λ b. precedes x y ≡ b → IsInOrder (cond b (x ∷ y ∷ ys) (y ∷ inserted x ys))) [
      | true ↦ λ e. let h : precedes y x ≡ false = precedes_order.one_way x y e in ((h, all_behind x y ys h s.0), s)
      | false ↦ λ e. (all_inserted (λ v. precedes v y ≡ false) x ys e s.0, in_order_inserted x ys s.1)
    ] refl

pub length_inserted : (x : QueueEntry) (ys : List QueueEntry) → length (inserted x ys) ≡ length ys + 1
length_inserted x [] = omega arith
length_inserted x (y ∷ ys) =
    elim (precedes x y) as (λ b. length (cond b (x ∷ y ∷ ys) (y ∷ inserted x ys)) ≡ length (y ∷ ys) + 1) [
      | true ↦ omega arith
      | false ↦ omega (arith, length_inserted x ys)
    ]

all_erased : (P : QueueEntry → Type 0) (x : QueueEntry) (ys : List QueueEntry) → AllByRecursion P ys → AllByRecursion P (erased x ys)
all_erased P x [] a = tt
all_erased P x (y ∷ ys) a =
    elim (same x y) as (λ b. AllByRecursion P (cond b ys (y ∷ erased x ys))) [
      | true ↦ a.1
      | false ↦ (a.0, all_erased P x ys a.1)
    ]

pub in_order_erased : (x : QueueEntry) (ys : List QueueEntry) → IsInOrder ys → IsInOrder (erased x ys)
in_order_erased x [] s = tt
in_order_erased x (y ∷ ys) s =
    elim (same x y) as (λ b. IsInOrder (cond b ys (y ∷ erased x ys))) [
      | true ↦ s.1
      | false ↦ (all_erased (λ v. precedes v y ≡ false) x ys s.0, in_order_erased x ys s.1)
    ]

pub length_erased : (x : QueueEntry) (ys : List QueueEntry) → holds x ys ≡ true → length (erased x ys) + 1 ≡ length ys
length_erased x [] h = absurd (true_false (sym h))
length_erased x (y ∷ ys) h =
    elim (same x y) as (λ b. (b || holds x ys) ≡ true → length (cond b ys (y ∷ erased x ys)) + 1 ≡ length (y ∷ ys)) [
      | true ↦ λ e. omega arith
      | false ↦ λ e. omega (arith, length_erased x ys e)
    ] h

pub erased_absent : (x : QueueEntry) (ys : List QueueEntry) → holds x ys ≡ false → erased x ys ≡ ys
erased_absent x [] h = refl
erased_absent x (y ∷ ys) h =
    elim (same x y) as (λ b. (b || holds x ys) ≡ false → cond b ys (y ∷ erased x ys) ≡ y ∷ ys) [
      | true ↦ λ e. absurd (true_false e)
      | false ↦ λ e. ap (λ z. y ∷ z) (erased_absent x ys e)
    ] h

holds_there : (x : QueueEntry) (ys : List QueueEntry) → holds x ys ≡ true → Contains ys x
holds_there x [] h = absurd (true_false (sym h))
holds_there x (y ∷ ys) h =
    elim (same x y) as (λ b. same x y ≡ b → (b || holds x ys) ≡ true → Contains (y ∷ ys) x) [
      | true ↦ λ e q. (0, omega arith, sym (equal_same x y e))
      | false ↦ λ e q. let (k, lt, is) = holds_there x ys q in (suc k, omega arith, is)
    ] refl h

there_holds : (x : QueueEntry) (ys : List QueueEntry) (k : ℕ) → k < length ys → slice_index_or ys k x ≡ x → holds x ys ≡ true
there_holds x [] k lt is = absurd (omega arith)
there_holds x (y ∷ ys) zero lt is = rw (is, same_itself x)
there_holds x (y ∷ ys) (suc k) lt is = rw (there_holds x ys k (omega arith) is) (or_true (same x y))

-- the test answers whether the entry is among them
pub holds_exactly : (x : QueueEntry) (ys : List QueueEntry) → IsTrue (holds x ys) ↔ Contains ys x
holds_exactly x ys = (λ h. holds_there x ys h, λ p. there_holds x ys p.0 p.1 p.2)

all_no_later : (x : QueueEntry) (ys : List QueueEntry) → IsFirst x ys → AllByRecursion (ComesNoLater x) ys
all_no_later x [] f = tt
all_no_later x (y ∷ ys) f = (no_later x y f.0, all_no_later x ys f.1)

-- the first of entries in order is the foremost
pub first_foremost : (xs : List QueueEntry) → IsInOrder xs → IfSome (first_of xs) (λ x. IsForemost x xs)
first_foremost [] s = tt
first_foremost (x ∷ xs) s =
    ((0, omega arith, refl), All-cons (ComesNoLater x) x xs (no_later x x (precedes_itself x)) (All-from_recursion (ComesNoLater x) xs (all_no_later x xs s.0)))
