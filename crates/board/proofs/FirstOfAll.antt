-- The first of all items that can begin: of the first of each kind, the one that comes before the other.
use Rattle.std.proofs.Common.{◌≡◌, ◌⊎◌, inl, inr, ℕ, suc, ◌<◌, Bool, true, false, refl, sym, ap, ◌∙◌, None, arith}
use Rattle.std.specs.Prelude.{ℤ, int_lt}
use Rattle.std.proofs.Math.Nat.{lt_of_not-le}
use Rattle.std.proofs.lemmas.Int.{ints}
use Rattle.task_code.specs.Code.{Control, Kind, Leaf}
use Rattle.task_code.specs.Machine.{CodeItem}
use Rattle.task_code.specs.System.{task_kind, task_priority}
use Rattle.work_queue.specs.Both.{of}
use Rattle.work_queue.specs.Entries.{IsForemost, first_of}
use Rattle.work_queue.specs.Order.{precedes}
use Rattle.work_queue.specs.declared.entry.QueueEntry.{QueueEntry}
use Rattle.work_queue.proofs.OrderLaws.{no_later, precedes_order}
use Rattle.board.specs.Board.{IsGoing, Seen}
use Rattle.board.specs.Inside.{IsSound, seen_of}
use Rattle.board.specs.Ready.{HasKind, IsFirst, IsNext, IsReady, Precedes}
use Rattle.board.specs.declared.board.Board.TheInside.{Inside}
use Rattle.board.proofs.Firsts.{contains_in, is_before, next_none, next_some, no_number, not_before, one_item, stood}

-- the order of items is that of their priorities and numbers
pub precedes_by : (b : Seen) (i j : CodeItem) (y z : ℤ) (n m : ℕ) → y ≡ task_priority b.code i.task → z ≡ task_priority b.code j.task → i.number ≡ n → j.number ≡ m
    → (int_lt z y ≡ true) ⊎ ((y ≡ z) × (n < m)) → Precedes b i j
precedes_by b i j y z n m p q e f (inl h) = inl ((λ t. int_lt (sym q t) (sym p t)) ∙ h)
precedes_by b i j y z n m p q e f (inr h) = let g = h.1 in inr (sym p ∙ h.0 ∙ q, omega arith)

pub by_precedes : (b : Seen) (i j : CodeItem) (y z : ℤ) (n m : ℕ) → y ≡ task_priority b.code i.task → z ≡ task_priority b.code j.task → i.number ≡ n → j.number ≡ m
    → Precedes b i j → (int_lt z y ≡ true) ⊎ ((y ≡ z) × (n < m))
by_precedes b i j y z n m p q e f (inl h) = inl ((λ t. int_lt (q t) (p t)) ∙ h)
by_precedes b i j y z n m p q e f (inr h) = let g = h.1 in inr (p ∙ h.0 ∙ sym q, omega arith)

-- not both come before the other
both : (p q : ℤ) (k n : ℕ) → (int_lt q p ≡ true) ⊎ ((p ≡ q) × (k < n)) → (int_lt p q ≡ true) ⊎ ((q ≡ p) × (n < k)) → ⊥
both p q k n (inl a) (inl b) = grind (arith, ints)
both p q k n (inl a) (inr b) = let e = b.0 in grind (arith, ints)
both p q k n (inr a) (inl b) = let e = a.0 in grind (arith, ints)
both p q k n (inr a) (inr b) = let e = a.1 in let f = b.1 in omega arith

-- what comes before a third that the second does not come before comes before the second
follows : (p q r : ℤ) (k n m : ℕ) → ((int_lt r q ≡ true) ⊎ ((q ≡ r) × (n < m)) → ⊥) → (int_lt r p ≡ true) ⊎ ((p ≡ r) × (k < m)) → (int_lt q p ≡ true) ⊎ ((p ≡ q) × (k < n))
follows p q r k n m not h = by (int_lt r q) refl h
  where
    level : int_lt r q ≡ false → p ≡ r → k < m → (x : Bool) → int_lt q r ≡ x → (int_lt q p ≡ true) ⊎ ((p ≡ q) × (k < n))
    level e f g true d = inl (grind (arith, ints))
    level e f g false d =
        let same : q ≡ r = grind (arith, ints) in
        inr (f ∙ sym same, below g (λ l. not (inr (same, l))))
      where
        below : k < m → (n < m → ⊥) → k < n
        below g far = let h : m < suc n = lt_of_not-le far in omega arith

    by : (x : Bool) → int_lt r q ≡ x → (int_lt r p ≡ true) ⊎ ((p ≡ r) × (k < m)) → (int_lt q p ≡ true) ⊎ ((p ≡ q) × (k < n))
    by true e g = absurd (not (inl e))
    by false e (inl g) = inl (grind (arith, ints))
    by false e (inr g) = level e g.0 g.1 (int_lt q r) refl

module _ (b : Seen) (n m : ℕ) (c : IsNext b Control n) (l : IsNext b Leaf m) where
  first_by : (x : CodeItem) → ((other : CodeItem) → IsReady b other → Precedes b other x → Precedes b other c.item) → ((other : CodeItem) → IsReady b other → Precedes b other x → Precedes b other l.item)
      → (other : CodeItem) → IsReady b other → (k : Kind) → task_kind b.code other.task ≡ k → Precedes b other x → ⊥
  first_by x f g other ready Control e h = c.first other ready e (f other ready h)
  first_by x f g other ready Leaf e h = l.first other ready e (g other ready h)

  behind : (i j other : CodeItem) → (Precedes b j i → ⊥) → Precedes b other i → Precedes b other j
  behind i j other not h = follows (task_priority b.code other.task) (task_priority b.code j.task) (task_priority b.code i.task) other.number j.number i.number not h

  -- the leaf item comes before the control item
  pub leaf_first : Precedes b l.item c.item → IsFirst b m
  leaf_first h =
      record {
        going = l.going;
        item = l.item;
        ready = l.ready;
        number_is = l.number_is;
        first = λ other ready.
            first_by l.item
            (λ o r p. behind l.item c.item o (λ q. apart q) p)
            (λ o r p. p) other ready (task_kind b.code other.task) refl;
      }
    where
      apart : Precedes b c.item l.item → ⊥
      apart q = both (task_priority b.code l.item.task) (task_priority b.code c.item.task) l.item.number c.item.number h q

  pub control_first : (Precedes b l.item c.item → ⊥) → IsFirst b n
  control_first not =
      record {
        going = c.going;
        item = c.item;
        ready = c.ready;
        number_is = c.number_is;
        first = λ other ready.
            first_by c.item
            (λ o r p. p)
            (λ o r p. behind c.item l.item o not p) other ready (task_kind b.code other.task) refl;
      }

-- one kind alone can begin
pub control_alone : (b : Seen) (n : ℕ) → IsNext b Control n → ((i : CodeItem) → IsReady b i → task_kind b.code i.task ≡ Leaf → ⊥) → IsFirst b n
control_alone b n c none =
    record {
      going = c.going;
      item = c.item;
      ready = c.ready;
      number_is = c.number_is;
      first = λ other ready p. by other ready (task_kind b.code other.task) refl p;
    }
  where
    by : (other : CodeItem) → IsReady b other → (k : Kind) → task_kind b.code other.task ≡ k → Precedes b other c.item → ⊥
    by other ready Control e p = c.first other ready e p
    by other ready Leaf e p = none other ready e

pub leaf_alone : (b : Seen) (n : ℕ) → IsNext b Leaf n → ((i : CodeItem) → IsReady b i → task_kind b.code i.task ≡ Control → ⊥) → IsFirst b n
leaf_alone b n l none =
    record {
      going = l.going;
      item = l.item;
      ready = l.ready;
      number_is = l.number_is;
      first = λ other ready p. by other ready (task_kind b.code other.task) refl p;
    }
  where
    by : (other : CodeItem) → IsReady b other → (k : Kind) → task_kind b.code other.task ≡ k → Precedes b other l.item → ⊥
    by other ready Control e p = none other ready e
    by other ready Leaf e p = l.first other ready e p

-- neither can
pub none_first_of : (b : Seen) → ((i : CodeItem) → IsReady b i → task_kind b.code i.task ≡ Control → ⊥) → ((i : CodeItem) → IsReady b i → task_kind b.code i.task ≡ Leaf → ⊥) → (i : CodeItem) → IsReady b i → ⊥
none_first_of b c l i ready = by (task_kind b.code i.task) refl
  where
    by : (k : Kind) → task_kind b.code i.task ≡ k → ⊥
    by Control e = c i ready e
    by Leaf e = l i ready e

-- an entry that is the foremost of its kind is of the next item of that kind
module _ (a : Inside) (s : IsSound a) (going : IsGoing (seen_of a)) where
  record Foremost (k : Kind) (e : QueueEntry) : Type 0 where
    next : IsNext (seen_of a) k e.no
    priority_is : task_priority a.program next.item.task ≡ e.priority

  foremost : (k : Kind) (e : QueueEntry) → IsForemost e (of k a.core.items.queue).entries → Foremost k e
  foremost k e f =
      let n = next_some a s k e.no (e, refl, f) going in
      let t = stood a s k e (contains_in (of k a.core.items.queue).entries e f.0) in
      record {
        next = n;
        priority_is = ap (λ (i : CodeItem). task_priority a.program i.task) (one_item a s n.item t.item n.ready t.ready (n.number_is ∙ sym t.number_is)) ∙ t.priority_is;
      }

  pub kind_of_foremost : (k : Kind) (e : QueueEntry) → IsForemost e (of k a.core.items.queue).entries → HasKind (seen_of a) e.no k
  kind_of_foremost k e f = let n = (foremost k e f).next in (n.item, n.ready.there, n.number_is, sym n.kind_is)

  kinds_differ : Control ≡ Leaf → ⊥
  kinds_differ e = absurd (cc)

  -- of the foremost of both kinds, the one that is taken first is of the first item of all
  module _ (x y : QueueEntry) (fx : IsForemost x a.core.items.queue.control.entries) (fy : IsForemost y a.core.items.queue.leaf.entries) where
    control : Foremost Control x
    control = foremost Control x fx

    leaf : Foremost Leaf y
    leaf = foremost Leaf y fy

    apart : y.no ≡ x.no → ⊥
    apart e =
        let c = control.next in
        let l = leaf.next in
        kinds_differ (sym c.kind_is ∙ ap (λ (i : CodeItem). task_kind a.program i.task) (one_item a s c.item l.item c.ready l.ready (c.number_is ∙ sym e ∙ sym l.number_is)) ∙ l.kind_is)

    pub leaf_is_first : precedes y x ≡ true → IsFirst (seen_of a) y.no
    leaf_is_first h =
        leaf_first (seen_of a) x.no y.no control.next leaf.next
        (precedes_by (seen_of a) leaf.next.item control.next.item y.priority x.priority y.no x.no (sym leaf.priority_is) (sym control.priority_is) leaf.next.number_is control.next.number_is
        (is_before y.priority x.priority y.no x.no (no_later y x (precedes_order.one_way y x h)) apart))

    pub control_is_first : precedes y x ≡ false → IsFirst (seen_of a) x.no
    control_is_first h =
        control_first (seen_of a) x.no y.no control.next leaf.next
        (λ p. not_before x.priority y.priority x.no y.no (no_later x y h)
        (by_precedes (seen_of a) leaf.next.item control.next.item y.priority x.priority y.no x.no (sym leaf.priority_is) (sym control.priority_is) leaf.next.number_is control.next.number_is p))

  pub control_is_alone : (x : QueueEntry) → IsForemost x a.core.items.queue.control.entries → first_of a.core.items.queue.leaf.entries ≡ None → IsFirst (seen_of a) x.no
  control_is_alone x f h =
      control_alone (seen_of a) x.no (foremost Control x f).next (λ i r e. next_none a s Leaf (no_number a.core.items.queue.leaf.entries h) i r e)

  pub leaf_is_alone : (y : QueueEntry) → IsForemost y a.core.items.queue.leaf.entries → first_of a.core.items.queue.control.entries ≡ None → IsFirst (seen_of a) y.no
  leaf_is_alone y f h =
      leaf_alone (seen_of a) y.no (foremost Leaf y f).next (λ i r e. next_none a s Control (no_number a.core.items.queue.control.entries h) i r e)

-- nothing waits, so nothing can begin
pub nothing_ready : (a : Inside) (s : IsSound a) → first_of a.core.items.queue.control.entries ≡ None → first_of a.core.items.queue.leaf.entries ≡ None → (i : CodeItem) → IsReady (seen_of a) i → ⊥
nothing_ready a s c l =
    none_first_of (seen_of a)
    (λ i r e. next_none a s Control (no_number a.core.items.queue.control.entries c) i r e)
    (λ i r e. next_none a s Leaf (no_number a.core.items.queue.leaf.entries l) i r e)
