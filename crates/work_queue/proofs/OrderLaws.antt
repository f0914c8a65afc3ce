-- Entries are ordered totally, and those that the order does not tell apart are equal.
use Rattle.std.proofs.Common.{◌≡◌, true, false, sym, ◌∙◌, ap, refl, rules, arith, ℕ, ◌≤◌, ◌<ℤ◌, inl, inr}
use Rattle.std.specs.Cmp.{IsTotalOrder, IsStrictWeakOrder, int_ranks, tied_itself}
use Rattle.std.specs.Cmp.Rules.{comparing}
use Rattle.std.specs.declared.cmp.Ordering.{Ordering}
use Rattle.std.specs.declared.cmp.Ordering.TheVariants.{Less, Equal, Greater}
use Rattle.std.specs.Ordering.{is_lt, is_eq, ordering_reverse, ordering_then, nat_cmp, int_cmp, MatchOrdering}
use Rattle.std.proofs.lemmas.List.Sorted.{ranks_by}
use Rattle.std.proofs.lemmas.Map.Keys.{ge_from_not_lt}
use Rattle.work_queue.specs.declared.entry.QueueEntry.{QueueEntry}
use Rattle.work_queue.specs.Order.{order, precedes, same}
use Rattle.work_queue.specs.Entries.{ComesNoLater}

pub order_total : IsTotalOrder order
order_total = search (comparing, rules)

pub precedes_order : IsStrictWeakOrder precedes
precedes_order = ranks_by order_total (λ x. x)

pub equal_same : (x y : QueueEntry) → same x y ≡ true → x ≡ y
equal_same x y h = search (comparing, rules)

pub same_itself : (x : QueueEntry) → same x x ≡ true
same_itself x = search (comparing, rules)

pub precedes_itself : (x : QueueEntry) → precedes x x ≡ false
precedes_itself x = ap is_lt (tied_itself order_total x)

-- an entry that is taken before x is none that is not taken before x
pub same_precedes : (x y : QueueEntry) → precedes x y ≡ true → same x y ≡ false
same_precedes x y h = grind arith

pub same_follows : (x y : QueueEntry) → precedes y x ≡ true → same x y ≡ false
same_follows x y h = grind (arith, order_total.antisymm x y)

-- y is not taken before k, and x is
pub same_behind : (x k y : QueueEntry) → precedes x k ≡ true → precedes y k ≡ false → same x y ≡ false
same_behind x k y h q = grind (arith, order_total.congr x y k)

-- y is not taken after k, and x is
pub same_ahead : (x k y : QueueEntry) → precedes k x ≡ true → precedes k y ≡ false → same x y ≡ false
same_ahead x k y h q = grind (arith, order_total.congr x y k, order_total.antisymm x k, order_total.antisymm y k)

pub true_false : true ≡ false → ⊥
true_false e = cc

pub less_precedes : (x y : QueueEntry) → order x y ≡ Less → precedes x y ≡ true
less_precedes x y h = ap is_lt h

pub greater_follows : (x y : QueueEntry) → order x y ≡ Greater → precedes y x ≡ true
greater_follows x y h = ap is_lt (order_total.antisymm y x ∙ ap ordering_reverse h)

pub equal_is_same : (x y : QueueEntry) → order x y ≡ Equal → x ≡ y
equal_is_same x y h = equal_same x y (ap is_eq h)

-- neither is taken before the other
pub tied_same : (x y : QueueEntry) → precedes x y ≡ false → precedes y x ≡ false → x ≡ y
tied_same x y h q =
    elim (order x y) as (λ o. order x y ≡ o → x ≡ y) [
      | Less ↦ λ e. absurd (true_false (sym (less_precedes x y e) ∙ h))
      | Equal ↦ λ e. equal_is_same x y e
      | Greater ↦ λ e. absurd (true_false (sym (greater_follows x y e) ∙ q))
    ] refl

by_rank : (x y : QueueEntry) (o : Ordering) → MatchOrdering o (x.priority <ℤ y.priority) (x.priority ≡ y.priority) (y.priority <ℤ x.priority) → is_lt (ordering_then o (nat_cmp y.no x.no)) ≡ false → ComesNoLater x y
by_rank x y Less r h = absurd (true_false h)
by_rank x y Equal r h = inr (r, ge_from_not_lt y.no x.no h)
by_rank x y Greater r h = inl r

-- what the test of the order says of two entries, in plain words
pub no_later : (x y : QueueEntry) → precedes y x ≡ false → ComesNoLater x y
no_later x y h = by_rank x y (int_cmp x.priority y.priority) (int_ranks x.priority y.priority) h
