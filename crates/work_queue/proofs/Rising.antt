-- Slots whose entries rise.
use Rattle.std.proofs.Common.{◌≡◌, Bool, true, false, cond, ◌||◌, List, [], ◌∷◌, ◌++◌, refl, sym, ◌∙◌, ap, subst, arith, length, ◌<◌, ◌+◌, ◌≤◌, ℕ, zero, suc, get_or, set, filter}
use Rattle.std.specs.Ordering.{is_lt, ordering_index}
use Rattle.std.specs.List.{AllByRecursion}
use Rattle.std.specs.List.Sorted.{IsSortedBy, IsNonDecreasingBy, IsPartitionPoint}
use Rattle.std.specs.declared.cmp.Ordering.TheVariants.{Less, Greater}
use Rattle.std.proofs.lemmas.List.{get_or_read}
use Rattle.std.proofs.lemmas.List.Sorted.{searchable_from_sorted}
use Rattle.work_queue.specs.declared.entry.QueueEntry.{QueueEntry}
use Rattle.work_queue.specs.declared.slot.EntrySlot.{EntrySlot}
use Rattle.work_queue.specs.Order.{order, precedes, same}
use Rattle.work_queue.specs.Entries.{IsFirst, inserted, erased, holds}
use Rattle.work_queue.specs.Slots.{entry_in, waiting, IsAhead, IsBehind, IsRising, BeginsWaiting, IsAt}
use Rattle.work_queue.proofs.OrderLaws.{order_total, precedes_order, same_itself, same_precedes, same_follows, true_false, less_precedes, greater_follows}
use Rattle.work_queue.proofs.Merging.{inserted_first}

-- x is taken before y, and y before z
onward : (x y z : QueueEntry) → precedes x y ≡ true → precedes y z ≡ true → precedes x z ≡ true
onward x y z h q =
    elim (precedes x z) as (λ b. precedes x z ≡ b → b ≡ true) [
      | true ↦ λ e. refl
      | false ↦ λ e. absurd (true_false (sym h ∙ precedes_order.chain x z y e (precedes_order.one_way y z q)))
    ] refl

pub ahead_of_all : (x y : QueueEntry) (ss : List EntrySlot) → precedes x y ≡ true → IsAhead y ss → IsAhead x ss
ahead_of_all x y [] h a = tt
ahead_of_all x y (s ∷ ss) h a = (onward x y (entry_in s) h a.0, ahead_of_all x y ss h a.1)

-- an entry that is taken before the first slot's is taken before each slot's
pub ahead_of_first : (x : QueueEntry) (ss : List EntrySlot) (d : EntrySlot) → IsRising ss → precedes x (entry_in (get_or ss 0 d)) ≡ true → IsAhead x ss
ahead_of_first x [] d r h = tt
ahead_of_first x (s ∷ ss) d r h = (h, ahead_of_all x (entry_in s) ss h r.0)

-- an entry that is taken after the last slot's is taken after each slot's
pub behind_last : (x : QueueEntry) (ss : List EntrySlot) (k : ℕ) (d : EntrySlot) → IsRising ss → length ss ≡ suc k → precedes (entry_in (get_or ss k d)) x ≡ true → IsBehind x ss
behind_last x [] k d r l h = tt
behind_last x (s ∷ []) zero d r l h = (h, tt)
behind_last x (s ∷ []) (suc k) d r l h = absurd (omega (arith, l))
behind_last x (s ∷ t ∷ ss) zero d r l h = absurd (omega (arith, l))
behind_last x (s ∷ t ∷ ss) (suc k) d r l h =
    let rest : IsBehind x (t ∷ ss) = behind_last x (t ∷ ss) k d r.1 (omega (arith, l)) h in
    (onward (entry_in s) (entry_in t) x r.0.0 rest.0, rest)

first_waiting : (x : QueueEntry) (ss : List EntrySlot) → IsAhead x ss → IsFirst x (waiting ss)
first_waiting x [] a = tt
first_waiting x (s ∷ ss) a =
    elim s.waits as (λ b. IsFirst x (cond b (entry_in s ∷ waiting ss) (waiting ss))) [
      | true ↦ (precedes_order.one_way x (entry_in s) a.0, first_waiting x ss a.1)
      | false ↦ first_waiting x ss a.1
    ]

-- an entry in front of all
pub inserted_ahead : (x : QueueEntry) (ss : List EntrySlot) → IsAhead x ss → inserted x (waiting ss) ≡ x ∷ waiting ss
inserted_ahead x ss a = inserted_first x (waiting ss) (first_waiting x ss a)

-- an entry behind all
pub inserted_behind : (x : QueueEntry) (t : EntrySlot) (ss : List EntrySlot) → entry_in t ≡ x → t.waits ≡ true → IsBehind x ss → waiting (ss ++ t ∷ []) ≡ inserted x (waiting ss)
inserted_behind x t [] e w b = rw w (ap (λ v. v ∷ []) e)
inserted_behind x t (s ∷ ss) e w b =
    elim s.waits as (λ b. cond b (entry_in s ∷ waiting (ss ++ t ∷ [])) (waiting (ss ++ t ∷ [])) ≡ inserted x (cond b (entry_in s ∷ waiting ss) (waiting ss))) [
      | true ↦ rw (precedes_order.one_way (entry_in s) x b.0) (ap (λ v. entry_in s ∷ v) (inserted_behind x t ss e w b.1))
      | false ↦ inserted_behind x t ss e w b.1
    ]

ahead_push : (x : QueueEntry) (t : EntrySlot) (ss : List EntrySlot) → IsAhead x ss → precedes x (entry_in t) ≡ true → IsAhead x (ss ++ t ∷ [])
ahead_push x t [] a h = (h, tt)
ahead_push x t (s ∷ ss) a h = (a.0, ahead_push x t ss a.1 h)

pub rising_push : (t : EntrySlot) (ss : List EntrySlot) → IsRising ss → IsBehind (entry_in t) ss → IsRising (ss ++ t ∷ [])
rising_push t [] r b = (tt, tt)
rising_push t (s ∷ ss) r b = (ahead_push (entry_in s) t ss r.0 b.0, rising_push t ss r.1 b.1)

pub begins_push : (t : EntrySlot) (ss : List EntrySlot) → t.waits ≡ true → BeginsWaiting ss → BeginsWaiting (ss ++ t ∷ [])
begins_push t [] w b = w
begins_push t (s ∷ ss) w b = b

-- what is ahead of all is ahead of the one at k
ahead_at : (x y : QueueEntry) (ss : List EntrySlot) (k : ℕ) → IsAhead x ss → IsAt y ss k → precedes x y ≡ true
ahead_at x y [] k a p = absurd (omega (arith, p.0))
ahead_at x y (s ∷ ss) zero a p = subst (λ v. precedes x v ≡ true) (p.1 s) a.0
ahead_at x y (s ∷ ss) (suc k) a p = ahead_at x y ss k a.1 (omega (arith, p.0), p.1)

ahead_set : (x y : QueueEntry) (ss : List EntrySlot) (k : ℕ) (t : EntrySlot) → IsAhead x ss → IsAt y ss k → entry_in t ≡ y → IsAhead x (set ss k t)
ahead_set x y [] k t a p e = tt
ahead_set x y (s ∷ ss) zero t a p e = (subst (λ v. precedes x v ≡ true) (p.1 s ∙ sym e) a.0, a.1)
ahead_set x y (s ∷ ss) (suc k) t a p e = (a.0, ahead_set x y ss k t a.1 (omega (arith, p.0), p.1) e)

-- a slot that keeps its entry
pub rising_set : (y : QueueEntry) (ss : List EntrySlot) (k : ℕ) (t : EntrySlot) → IsRising ss → IsAt y ss k → entry_in t ≡ y → IsRising (set ss k t)
rising_set y [] k t r p e = tt
rising_set y (s ∷ ss) zero t r p e = (subst (λ v. IsAhead v ss) (p.1 s ∙ sym e) r.0, r.1)
rising_set y (s ∷ ss) (suc k) t r p e =
    let q : IsAt y ss k = (omega (arith, p.0), p.1) in
    (ahead_set (entry_in s) y ss k t r.0 q e, rising_set y ss k t r.1 q e)

pub begins_set : (ss : List EntrySlot) (k : ℕ) (t : EntrySlot) → t.waits ≡ true → BeginsWaiting ss → BeginsWaiting (set ss k t)
begins_set [] k t w b = tt
begins_set (s ∷ ss) zero t w b = w
begins_set (s ∷ ss) (suc k) t w b = b

-- the entry of a slot comes back
pub woken : (y : QueueEntry) (ss : List EntrySlot) (k : ℕ) (t : EntrySlot) → IsRising ss → IsAt y ss k → ((d : EntrySlot) → (get_or ss k d).waits ≡ false) → entry_in t ≡ y → t.waits ≡ true → waiting (set ss k t) ≡ inserted y (waiting ss)
woken y [] k t r p o e w = absurd (omega (arith, p.0))
woken y (s ∷ ss) zero t r p o e w =
    rw (w, o s, e) (sym (inserted_ahead y ss (subst (λ v. IsAhead v ss) (p.1 s) r.0)))
woken y (s ∷ ss) (suc k) t r p o e w =
    let q : IsAt y ss k = (omega (arith, p.0), p.1) in
    let h : precedes y (entry_in s) ≡ false = precedes_order.one_way (entry_in s) y (ahead_at (entry_in s) y ss k r.0 q) in
    elim s.waits as (λ b. cond b (entry_in s ∷ waiting (set ss k t)) (waiting (set ss k t)) ≡ inserted y (cond b (entry_in s ∷ waiting ss) (waiting ss))) [
      | true ↦ rw h (ap (λ v. entry_in s ∷ v) (woken y ss k t r.1 q o e w))
      | false ↦ woken y ss k t r.1 q o e w
    ]

-- the entry of a slot leaves
pub rested : (y : QueueEntry) (ss : List EntrySlot) (k : ℕ) (t : EntrySlot) → IsRising ss → IsAt y ss k → ((d : EntrySlot) → (get_or ss k d).waits ≡ true) → t.waits ≡ false → waiting (set ss k t) ≡ erased y (waiting ss)
rested y [] k t r p o w = absurd (omega (arith, p.0))
rested y (s ∷ ss) zero t r p o w =
    rw (w, o s) (subst (λ v. waiting ss ≡ cond (same v (entry_in s)) (waiting ss) (entry_in s ∷ erased v (waiting ss))) (p.1 s) (rw (same_itself (entry_in s)) refl))
rested y (s ∷ ss) (suc k) t r p o w =
    let q : IsAt y ss k = (omega (arith, p.0), p.1) in
    let h : same y (entry_in s) ≡ false = same_follows y (entry_in s) (ahead_at (entry_in s) y ss k r.0 q) in
    elim s.waits as (λ b. cond b (entry_in s ∷ waiting (set ss k t)) (waiting (set ss k t)) ≡ erased y (cond b (entry_in s ∷ waiting ss) (waiting ss))) [
      | true ↦ rw h (ap (λ v. entry_in s ∷ v) (rested y ss k t r.1 q o w))
      | false ↦ rested y ss k t r.1 q o w
    ]

absent_ahead : (y : QueueEntry) (ss : List EntrySlot) → IsAhead y ss → holds y (waiting ss) ≡ false
absent_ahead y [] a = refl
absent_ahead y (s ∷ ss) a =
    elim s.waits as (λ b. holds y (cond b (entry_in s ∷ waiting ss) (waiting ss)) ≡ false) [
      | true ↦ rw (same_precedes y (entry_in s) a.0) (absent_ahead y ss a.1)
      | false ↦ absent_ahead y ss a.1
    ]

-- an entry waits if its slot says so
pub holds_at : (y : QueueEntry) (ss : List EntrySlot) (k : ℕ) (w : Bool) → IsRising ss → IsAt y ss k → ((d : EntrySlot) → (get_or ss k d).waits ≡ w) → holds y (waiting ss) ≡ w
holds_at y [] k w r p o = absurd (omega (arith, p.0))
holds_at y (s ∷ ss) zero true r p o =
    rw (o s) (subst (λ v. (same v (entry_in s) || holds v (waiting ss)) ≡ true) (p.1 s) (rw (same_itself (entry_in s)) refl))
holds_at y (s ∷ ss) zero false r p o = rw (o s) (absent_ahead y ss (subst (λ v. IsAhead v ss) (p.1 s) r.0))
holds_at y (s ∷ ss) (suc k) w r p o =
    let q : IsAt y ss k = (omega (arith, p.0), p.1) in
    let h : same y (entry_in s) ≡ false = same_follows y (entry_in s) (ahead_at (entry_in s) y ss k r.0 q) in
    elim s.waits as (λ b. holds y (cond b (entry_in s ∷ waiting ss) (waiting ss)) ≡ w) [
      | true ↦ rw h (holds_at y ss k w r.1 q o)
      | false ↦ holds_at y ss k w r.1 q o
    ]

-- an entry with no slot does not wait
pub absent : (y : QueueEntry) (ss : List EntrySlot) → AllByRecursion (λ s. same y (entry_in s) ≡ false) ss → holds y (waiting ss) ≡ false
absent y [] a = refl
absent y (s ∷ ss) a =
    elim s.waits as (λ b. holds y (cond b (entry_in s ∷ waiting ss) (waiting ss)) ≡ false) [
      | true ↦ rw a.0 (absent y ss a.1)
      | false ↦ absent y ss a.1
    ]

adjacent : (ss : List EntrySlot) (k : ℕ) (d : EntrySlot) → IsRising ss → k + 1 < length ss → precedes (entry_in (get_or ss k d)) (entry_in (get_or ss (suc k) d)) ≡ true
adjacent [] k d r l = absurd (omega (arith, l))
adjacent (s ∷ []) k d r l = absurd (omega (arith, l))
adjacent (s ∷ t ∷ ss) zero d r l = r.0.0
adjacent (s ∷ t ∷ ss) (suc k) d r l = adjacent (t ∷ ss) k d r.1 (omega (arith, l))

-- halving finds its way among slots that rise
pub searchable : (y : QueueEntry) (ss : List EntrySlot) → IsRising ss → IsNonDecreasingBy (λ s. ordering_index (order (entry_in s) y)) ss
searchable y ss r =
    searchable_from_sorted order_total entry_in ss y sorted
  where
    sorted : IsSortedBy (λ a b. is_lt (order (entry_in a) (entry_in b))) ss
    sorted k d from to =
        let next : suc k ≡ k + 1 = omega arith in
        precedes_order.one_way (entry_in (get_or ss k d)) (entry_in (get_or ss (k + 1) d)) (subst (λ j. precedes (entry_in (get_or ss k d)) (entry_in (get_or ss j d)) ≡ true) next (adjacent ss k d r to))

-- what stands before the place that halving ends at, and what stands from there on
pub absent_at_point : (y : QueueEntry) (ss : List EntrySlot) (i : ℕ) → IsPartitionPoint (λ s. order (entry_in s) y ≡ Less) (λ s. order (entry_in s) y ≡ Greater) ss i → AllByRecursion (λ s. same y (entry_in s) ≡ false) ss
absent_at_point y [] i p = tt
absent_at_point y (s ∷ ss) zero p = (
  same_precedes y (entry_in s) (greater_follows (entry_in s) y (p.1 0 s (omega arith) (omega arith))),
  absent_at_point y ss zero ((λ k d from to. absurd (omega (arith, to))), (λ k d from to. p.1 (suc k) d (omega arith) (omega (arith, to)))),
)
absent_at_point y (s ∷ ss) (suc i) p = (
  same_follows y (entry_in s) (less_precedes (entry_in s) y (p.0 0 s (omega arith) (omega arith))),
  absent_at_point y ss i ((λ k d from to. p.0 (suc k) d (omega arith) (omega (arith, to))), (λ k d from to. p.1 (suc k) d (omega (arith, from)) (omega (arith, to)))),
)

ahead_filter : (p : EntrySlot → Bool) (x : QueueEntry) (ss : List EntrySlot) → IsAhead x ss → IsAhead x (filter p ss)
ahead_filter p x [] a = tt
ahead_filter p x (s ∷ ss) a =
    elim (p s) as (λ b. IsAhead x (cond b (s ∷ filter p ss) (filter p ss))) [
      | true ↦ (a.0, ahead_filter p x ss a.1)
      | false ↦ ahead_filter p x ss a.1
    ]

pub rising_filter : (p : EntrySlot → Bool) (ss : List EntrySlot) → IsRising ss → IsRising (filter p ss)
rising_filter p [] r = tt
rising_filter p (s ∷ ss) r =
    elim (p s) as (λ b. IsRising (cond b (s ∷ filter p ss) (filter p ss))) [
      | true ↦ (ahead_filter p (entry_in s) ss r.0, rising_filter p ss r.1)
      | false ↦ rising_filter p ss r.1
    ]

pub begins_filter : (ss : List EntrySlot) → BeginsWaiting (filter (λ s. s.waits) ss)
begins_filter [] = tt
begins_filter (s ∷ ss) =
    elim s.waits as (λ b. s.waits ≡ b → BeginsWaiting (cond b (s ∷ filter (λ s. s.waits) ss) (filter (λ s. s.waits) ss))) [
      | true ↦ λ e. e
      | false ↦ λ e. begins_filter ss
    ] refl

pub waiting_filter : (ss : List EntrySlot) → waiting (filter (λ s. s.waits) ss) ≡ waiting ss
waiting_filter [] = refl
waiting_filter (s ∷ ss) =
    elim s.waits as (λ b. s.waits ≡ b → waiting (cond b (s ∷ filter (λ s. s.waits) ss) (filter (λ s. s.waits) ss)) ≡ cond b (entry_in s ∷ waiting ss) (waiting ss)) [
      | true ↦ λ e. rw e (ap (λ v. entry_in s ∷ v) (waiting_filter ss))
      | false ↦ λ e. waiting_filter ss
    ] refl

pub waiting_shorter : (ss : List EntrySlot) → length (waiting ss) ≤ length ss
waiting_shorter [] = omega arith
waiting_shorter (s ∷ ss) =
    elim s.waits as (λ b. length (cond b (entry_in s ∷ waiting ss) (waiting ss)) ≤ length (s ∷ ss)) [
      | true ↦ omega (arith, waiting_shorter ss)
      | false ↦ omega (arith, waiting_shorter ss)
    ]

-- what a read at k says of the slot at k
pub waits_read : (ss : List EntrySlot) (k : ℕ) (x : EntrySlot) (w : Bool) → k < length ss → x ≡ get_or ss k x → x.waits ≡ w → (d : EntrySlot) → (get_or ss k d).waits ≡ w
waits_read ss k x w l e h d = ap (λ s. s.waits) (sym (get_or_read ss k x l e d)) ∙ h

pub entry_read : (y : QueueEntry) (ss : List EntrySlot) (k : ℕ) (x : EntrySlot) → IsAt y ss k → x ≡ get_or ss k x → entry_in x ≡ y
entry_read y ss k x p e = ap entry_in e ∙ p.1 x
