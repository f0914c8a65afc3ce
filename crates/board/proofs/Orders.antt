-- The queue after an item has begun, and after it was given back.
use Rattle.std.proofs.Common.{◌≡◌, ◌⊎◌, inl, inr, ℕ, ◌&&◌, List, ◌∷◌, sym, subst, if◌then◌else◌}
use Rattle.std.specs.Prelude.{ℤ}
use Rattle.std.specs.Ordering.{int_eq}
use Rattle.dataflow.specs.System.{Distinct, In}
use Rattle.board_history.specs.Marking.{kind_eq, without}
use Rattle.board_history.proofs.Marking.{in_without, without_in}
use Rattle.board_history.proofs.Tests.{choose, yes_no}
use Rattle.task_code.specs.Code.{Control, Kind, Leaf}
use Rattle.work_queue.specs.Both.{Both, with_changed}
use Rattle.work_queue.specs.Entries.{erased, inserted}
use Rattle.work_queue.specs.Waiting as Changes
use Rattle.work_queue.specs.declared.entry.QueueEntry.{QueueEntry}
use Rattle.board_items.specs.View.{numbers_at, queue_view}
use Rattle.board.specs.Queues.{SameNumbers}
use Rattle.board.proofs.Entries.{erased_gone, erased_old, erased_once, erased_only, inserted_new, inserted_old, inserted_once, inserted_only, int_same, int_sound, number_held}

-- a number stands in one part of the queue alone
pub record IsAlone (q : Both) (k : Kind) (z : ℤ) (n : ℕ) : Type 0 where
  pub there : In n (queue_view q k z)
  pub same_kind : (l : Kind) (y : ℤ) → In n (queue_view q l y) → l ≡ k
  pub same_priority : (l : Kind) (y : ℤ) → In n (queue_view q l y) → y ≡ z

-- the same numbers in one part
record SameIn (ns ms : List ℕ) : Type 0 where
  all : (m : ℕ) → In m ns → In m ms
  only : (m : ℕ) → In m ms → In m ns
  once : Distinct ms

-- in the part that has lost it
shorter : (x : QueueEntry) (es : List QueueEntry) (y : ℤ) → Distinct (numbers_at x.priority es) → Distinct (numbers_at y es) → In x.no (numbers_at x.priority es) → (In x.no (numbers_at y es) → y ≡ x.priority) → SameIn (without x.no (numbers_at y es)) (numbers_at y (erased x es))
shorter x es y d e there same =
    record {
      all = λ m h. let p = in_without x.no m (numbers_at y es) h in erased_old y m x es p.0 (λ a b. p.1 (sym a));
      only = λ m h. without_in x.no m (numbers_at y es) (erased_only y m x es h) (λ a. gone m h a);
      once = erased_once y x es e;
    }
  where
    gone : (m : ℕ) → In m (numbers_at y (erased x es)) → x.no ≡ m → ⊥
    gone m h a =
        let g : In x.no (numbers_at y (erased x es)) = subst (λ (k : ℕ). In k (numbers_at y (erased x es))) (sym a) h in
        let b : y ≡ x.priority = same (erased_only y x.no x es g) in
        erased_gone x es d (subst (λ (v : ℤ). In x.no (numbers_at v (erased x es))) b g) (number_held x.priority x.no es there)

-- in one that never had it
untouched : (n : ℕ) (ns : List ℕ) → Distinct ns → (In n ns → ⊥) → SameIn (without n ns) ns
untouched n ns d not =
    record {
      all = λ m h. (in_without n m ns h).0;
      only = λ m h. without_in n m ns h (λ e. not (subst (λ (k : ℕ). In k ns) (sym e) h));
      once = d;
    }

kinds_differ : {A : Type 0} → Control ≡ Leaf → A
kinds_differ h = absurd (cc)

kinds_other : {A : Type 0} → Leaf ≡ Control → A
kinds_other h = absurd (cc)

-- the queue without the number
begun_part : (q : Both) (k : Kind) (z : ℤ) (n : ℕ) → IsAlone q k z n → ((l : Kind) (y : ℤ) → Distinct (queue_view q l y)) → (l : Kind) (y : ℤ) → SameIn (without n (queue_view q l y)) (queue_view (with_changed k (Changes.without (record { priority = z; no = n })) q) l y)
begun_part q Control z n a d Control y = shorter (record { priority = z; no = n }) q.control.entries y (d Control z) (d Control y) a.there (a.same_priority Control y)
begun_part q Control z n a d Leaf y = untouched n (queue_view q Leaf y) (d Leaf y) (λ h. kinds_other (a.same_kind Leaf y h))
begun_part q Leaf z n a d Control y = untouched n (queue_view q Control y) (d Control y) (λ h. kinds_differ (a.same_kind Control y h))
begun_part q Leaf z n a d Leaf y = shorter (record { priority = z; no = n }) q.leaf.entries y (d Leaf z) (d Leaf y) a.there (a.same_priority Leaf y)

pub begun_order : (q : Both) (k : Kind) (z : ℤ) (n : ℕ) → IsAlone q k z n → ((l : Kind) (y : ℤ) → Distinct (queue_view q l y)) → SameNumbers (λ l y. without n (queue_view q l y)) (queue_view (with_changed k (Changes.without (record { priority = z; no = n })) q))
begun_order q k z n a d =
    record {
      all = λ l y m h. (begun_part q k z n a d l y).all m h;
      only = λ l y m h. (begun_part q k z n a d l y).only m h;
      once = λ l y. (begun_part q k z n a d l y).once;
    }

-- the queue with one number more
longer : (x : QueueEntry) (es : List QueueEntry) (y : ℤ) → Distinct (numbers_at y es) → (In x.no (numbers_at y es) → ⊥) → SameIn (if int_eq x.priority y then x.no ∷ numbers_at y es else numbers_at y es) (numbers_at y (inserted x es))
longer x es y d not =
    record {
      all = λ m.
          choose (λ (ns : List ℕ). In m ns → In m (numbers_at y (inserted x es))) (int_eq x.priority y) (x.no ∷ numbers_at y es) (numbers_at y es)
          (λ b h. elim h [
            | inl e ↦ subst (λ (k : ℕ). In k (numbers_at y (inserted x es))) (sym e) (subst (λ (v : ℤ). In x.no (numbers_at v (inserted x es))) (int_sound x.priority y b) (inserted_new x es))
            | inr g ↦ inserted_old y m x es g
          ])
          (λ b h. inserted_old y m x es h);
      only = λ m h. back m (inserted_only y m x es h);
      once = inserted_once y x es d not;
    }
  where
    back : (m : ℕ) → ((m ≡ x.no) × (x.priority ≡ y)) ⊎ In m (numbers_at y es) → In m (if int_eq x.priority y then x.no ∷ numbers_at y es else numbers_at y es)
    back m (inl p) =
        choose (λ (ns : List ℕ). In m ns) (int_eq x.priority y) (x.no ∷ numbers_at y es) (numbers_at y es)
        (λ b. inl p.0)
        (λ b. yes_no (int_same x.priority y p.1) b)
    back m (inr g) =
        choose (λ (ns : List ℕ). In m ns) (int_eq x.priority y) (x.no ∷ numbers_at y es) (numbers_at y es)
        (λ b. inr g)
        (λ b. g)

same_list : (ns : List ℕ) → Distinct ns → SameIn ns ns
same_list ns d = record { all = λ m h. h; only = λ m h. h; once = d }

returned_part : (q : Both) (k : Kind) (z : ℤ) (n : ℕ) → ((l : Kind) (y : ℤ) → In n (queue_view q l y) → ⊥) → ((l : Kind) (y : ℤ) → Distinct (queue_view q l y)) → (l : Kind) (y : ℤ) → SameIn (if kind_eq k l && int_eq z y then n ∷ queue_view q l y else queue_view q l y) (queue_view (with_changed k (Changes.with_put (record { priority = z; no = n })) q) l y)
returned_part q Control z n not d Control y = longer (record { priority = z; no = n }) q.control.entries y (d Control y) (not Control y)
returned_part q Control z n not d Leaf y = same_list (queue_view q Leaf y) (d Leaf y)
returned_part q Leaf z n not d Control y = same_list (queue_view q Control y) (d Control y)
returned_part q Leaf z n not d Leaf y = longer (record { priority = z; no = n }) q.leaf.entries y (d Leaf y) (not Leaf y)

pub returned_order : (q : Both) (k : Kind) (z : ℤ) (n : ℕ) → ((l : Kind) (y : ℤ) → In n (queue_view q l y) → ⊥) → ((l : Kind) (y : ℤ) → Distinct (queue_view q l y)) → SameNumbers (λ l y. if kind_eq k l && int_eq z y then n ∷ queue_view q l y else queue_view q l y) (queue_view (with_changed k (Changes.with_put (record { priority = z; no = n })) q))
returned_order q k z n not d =
    record {
      all = λ l y m h. (returned_part q k z n not d l y).all m h;
      only = λ l y m h. (returned_part q k z n not d l y).only m h;
      once = λ l y. (returned_part q k z n not d l y).once;
    }
