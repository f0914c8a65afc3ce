-- Slots that are noted, and slots that shrink.
use Rattle.std.proofs.Common.{arith, ◌≡◌, ◌≢◌, ◌⊎◌, inl, inr, ℕ, suc, zero, ◌+◌, ◌*◌, ◌<◌, ◌≤◌, ◌%◌, ◌^◌, ◌==◌, ◌||◌, Bool, true, false, not, cond, nat_eq, count_by, is_some, List, [], ◌∷◌, length, filter, take, get_or, Option, Some, None, refl, sym, ap, subst, ◌∙◌, Contains}
use Rattle.std.specs.List.{list_any}
use Rattle.std.proofs.lemmas.Bool.{cases_eq, cases_lt, cases_Bool, or_cases, and_parts, or_parts, or_left, or_right}
use Rattle.std.proofs.lemmas.List.{get_or_past}
use Rattle.std.proofs.lemmas.List.Folds.{list_any_more}
use Rattle.std.proofs.lemmas.List.Sums.{sum_by-cons}
use Rattle.rules.specs.declared.input.Input.{Input}
use Rattle.rules.specs.declared.input.Input.TheVariants.{Whole, Element}
use Rattle.rules.specs.declared.subscribers.SlotNote.{SlotNote}
use Rattle.rules.specs.Inputs.{covers}
use Rattle.rules.specs.Waiting.{Waiting, is_ready, with_known}
use Rattle.rules.specs.Slots.{after_slot, unless_item, is_idle, AllBusy, IsSettled, Shrinks}
use Rattle.slab.specs.Slab.{Slab}
use Rattle.rules.specs.Places.{Noted, IsKept, Grows, IsNoted, IsFound, IsAt, is_at, needs, slot_needs, address, datum}

pub true_false : true ≡ false → ⊥
true_false e = cc

pub nat_sound : (m n : ℕ) → nat_eq m n ≡ true → m ≡ n
nat_sound m n h = grind arith

nat_itself : (n : ℕ) → nat_eq n n ≡ true
nat_itself n = grind arith

pub grows_on : (a b c : Noted) → Grows a b → Grows b c → Grows a c
grows_on a b c g h = record { notes = λ n k p. h.notes n k (g.notes n k p); strays = λ k p. h.strays k (g.strays k p); place = h.place ∙ g.place }

pub grows_none : (a : Noted) → Grows a a
grows_none a = record { notes = λ n k p. p; strays = λ k p. p; place = refl }

-- who is noted at both addresses of an input is noted wherever those are that miss it
pub input_noted : (i : Input) (notes : List SlotNote) (k : ℕ) → IsAt notes (address i) k → IsAt notes (datum i) k → (a : ℕ) → is_at a i ≡ true → IsAt notes a k
input_noted i notes k first second a h =
    elim (or_cases (address i == a) (datum i == a) h) [
      | inl e ↦ subst (λ m. IsAt notes m k) (nat_sound (address i) a e) first
      | inr e ↦ subst (λ m. IsAt notes m k) (nat_sound (datum i) a e) second
    ]

-- one input more of an item is noted
pub note_more : (old new : Noted) (is : List Input) (k x : ℕ) (d : Input) → k < length is → Grows old new
    → ((a : ℕ) → list_any (is_at a) (take k is) ≡ true → IsAt old.notes a x)
    → ((a : ℕ) → is_at a (get_or is k d) ≡ true → IsAt new.notes a x)
    → (a : ℕ) → list_any (is_at a) (take (k + 1) is) ≡ true → IsAt new.notes a x
note_more old new is k x d below g was now a h =
    elim (or_cases (list_any (is_at a) (take k is)) (is_at a (get_or is k d)) (sym (list_any_more (is_at a) is k d below) ∙ h)) [
      | inl e ↦ g.notes a x (was a e)
      | inr e ↦ now a e
    ]

-- nothing is to be found in a vacant slot
pub vacant_found : (places : Noted) (k : ℕ) → IsFound places k None
vacant_found places k = inr (λ a h. absurd (true_false (sym h)))

pub found_grows : (old new : Noted) (k : ℕ) (o : Option Waiting) → Grows old new → IsFound old k o → IsFound new k o
found_grows old new k o g h =
    elim h [
      | inl stray ↦ inl (g.strays k stray)
      | inr noted ↦ inr (λ a need. g.notes a k (noted a need))
    ]

-- one slot more is found
pub slot_more : (at : ℕ) (slots : List (Option Waiting)) (old new : Noted) → Grows old new → IsFound new at (get_or slots at None)
    → ((k : ℕ) → k < at → IsFound old k (get_or slots k None)) → (k : ℕ) → k < at + 1 → IsFound new k (get_or slots k None)
slot_more at slots old new g now was k below =
    elim (cases_eq k at) [
      | inl e ↦ subst (λ m. IsFound new m (get_or slots m None)) (sym e) now
      | inr differs ↦ found_grows old new k (get_or slots k None) g (was k (omega (arith, below, differs)))
    ]

-- where all slots are gone through, all are found
pub all_noted : (places : Noted) (slots : List (Option Waiting)) (end : ℕ) → length slots ≤ end
    → ((k : ℕ) → k < end → IsFound places k (get_or slots k None)) → IsNoted places slots
all_noted places slots end fits was k =
    elim (cases_lt k end) [
      | inl within ↦ was k within
      | inr past ↦ rw (get_or_past slots k None (omega (arith, past, fits))) (vacant_found places k)
    ]

-- where there are no items there is none to be found
pub none_noted : (places : Noted) → IsNoted places []
none_noted places k = vacant_found places k

-- a slot more is filled and found
pub noted_insert : (old new : Noted) (before after : List (Option Waiting)) (at : ℕ) → Grows old new → IsNoted old before
    → ((k : ℕ) → k ≢ at → get_or after k None ≡ get_or before k None) → IsFound new at (get_or after at None) → IsNoted new after
noted_insert old new before after at g was others now k =
    elim (cases_eq k at) [
      | inl e ↦ subst (λ m. IsFound new m (get_or after m None)) (sym e) now
      | inr differs ↦ subst (λ o. IsFound new k o) (sym (others k differs)) (found_grows old new k (get_or before k None) g (was k))
    ]

-- how many items lie in one slot more
count_more : (slots : List (Option Waiting)) (at : ℕ) → count_by is_some (take (suc at) slots) ≡ count_by is_some (take at slots) + cond (is_some (get_or slots at None)) 1 0
count_more [] zero = refl
count_more [] (suc at) = refl
count_more (o ∷ rest) zero = omega (arith, sum_by-cons (λ p. cond (is_some p) 1 0) o [])
count_more (o ∷ rest) (suc at) = omega (arith, count_more rest at, sum_by-cons (λ p. cond (is_some p) 1 0) o (take (suc at) rest), sum_by-cons (λ p. cond (is_some p) 1 0) o (take at rest))

pub count_next : (slots : List (Option Waiting)) (at : ℕ) → count_by is_some (take (at + 1) slots) ≡ count_by is_some (take at slots) + cond (is_some (get_or slots at None)) 1 0
count_next slots at =
    let e : suc at ≡ at + 1 = omega arith in
    subst (λ m. count_by is_some (take m slots) ≡ count_by is_some (take at slots) + cond (is_some (get_or slots at None)) 1 0) e (count_more slots at)

pub equal_at : (a b : ℕ) → a ≡ b → nat_eq b a ≡ true
equal_at a b e = subst (λ m. nat_eq m a ≡ true) e (nat_itself a)

-- who misses what an input covers is noted at that input's address
pub covers_at : (i j : Input) → covers i j ≡ true → is_at (address i) j ≡ true
covers_at (Whole a) (Whole b) h = or_left _ _ (equal_at (a % 2 ^ 32) (b % 2 ^ 32) (ap (λ d. d % 2 ^ 32) (nat_sound a b h)))
covers_at (Whole a) (Element b k) h = or_right _ _ (equal_at (a % 2 ^ 32) (b % 2 ^ 32) (ap (λ d. d % 2 ^ 32) (nat_sound a b h)))
covers_at (Element a k) (Whole b) h = absurd (true_false (sym h))
covers_at (Element a k) (Element b l) h =
    let parts = and_parts (nat_eq a b) (nat_eq k l) h in
    or_left _ _ (equal_at (address (Element a k)) (address (Element b l)) (λ i. address (Element (nat_sound a b parts.0 i) (nat_sound k l parts.1 i))))

kept_all : (i : Input) (js : List Input) → list_any (is_at (address i)) js ≡ false → filter (λ j. not (covers i j)) js ≡ js
kept_all i [] h = refl
kept_all i (j ∷ js) h =
    let parts = or_parts (is_at (address i) j) (list_any (is_at (address i)) js) h in
    elim (cases_Bool (covers i j)) [
      | inl hit ↦ absurd (true_false (sym (covers_at i j hit) ∙ parts.0))
      | inr lacks ↦ rw lacks (ap (λ l. j ∷ l) (kept_all i js parts.1))
    ]

-- an item that is not noted at an input's address learns nothing from it
untouched : (i : Input) (o : Option Waiting) → is_idle o ≡ false → slot_needs (address i) o ≡ false → after_slot i o ≡ o
untouched i None busy h = refl
untouched i (Some w) busy h =
    let same : with_known i w ≡ w = ap (λ js. record { item = w.item; missing = js }) (kept_all i w.missing h) in
    ap (λ v. cond (is_ready v) None (Some v)) same ∙ ap (λ b. cond b None (Some w)) busy

-- each item is a stray, or noted at the input's address, or learns nothing
pub found : (i : Input) (places : Noted) (slots : List (Option Waiting)) (k : ℕ) → IsNoted places slots → AllBusy slots
    → Contains places.strays k ⊎ (IsAt places.notes (address i) k ⊎ IsSettled (after_slot i) slots k)
found i places slots k are busy =
    elim (are k) [
      | inl stray ↦ inl stray
      | inr noted ↦ inr (elim (cases_Bool (slot_needs (address i) (get_or slots k None))) as (λ _. IsAt places.notes (address i) k ⊎ IsSettled (after_slot i) slots k) [
        | inl hit ↦ inl (noted (address i) hit)
        | inr lacks ↦ inr (untouched i (get_or slots k None) (busy k) lacks)
      ])
    ]

any_filter : (p q : Input → Bool) (js : List Input) → list_any p (filter q js) ≡ true → list_any p js ≡ true
any_filter p q [] h = h
any_filter p q (j ∷ js) h =
    elim (q j) as (λ b. list_any p (cond b (j ∷ filter q js) (filter q js)) ≡ true → (p j || list_any p js) ≡ true) [
      | true ↦ λ e. elim (or_cases (p j) (list_any p (filter q js)) e) [
        | inl here ↦ or_left (p j) (list_any p js) here
        | inr later ↦ or_right (p j) (list_any p js) (any_filter p q js later)
      ]
      | false ↦ λ e. or_right (p j) (list_any p js) (any_filter p q js e)
    ] h

-- an item that has learnt is to be noted nowhere else
pub needs_after : (i : Input) (a : ℕ) (o : Option Waiting) → slot_needs a (after_slot i o) ≡ true → slot_needs a o ≡ true
needs_after i a None h = h
needs_after i a (Some w) h =
    elim (is_ready (with_known i w)) as (λ r. slot_needs a (cond r None (Some (with_known i w))) ≡ true → needs a w ≡ true) [
      | true ↦ λ e. absurd (true_false (sym e))
      | false ↦ λ e. any_filter (is_at a) (λ j. not (covers i j)) w.missing e
    ] h

pub needs_unless : (x a : ℕ) (o : Option Waiting) → slot_needs a (unless_item x o) ≡ true → slot_needs a o ≡ true
needs_unless x a None h = h
needs_unless x a (Some w) h =
    elim (nat_eq w.item x) as (λ r. slot_needs a (cond r None (Some w)) ≡ true → needs a w ≡ true) [
      | true ↦ λ e. absurd (true_false (sym e))
      | false ↦ λ e. e
    ] h

-- where slots shrink, all that are left are found as they were
pub noted_shrinks : (f : Option Waiting → Option Waiting) → ((a : ℕ) (o : Option Waiting) → slot_needs a (f o) ≡ true → slot_needs a o ≡ true)
    → (places : Noted) (old new : List (Option Waiting)) → Shrinks f old new → IsNoted places old → IsNoted places new
noted_shrinks f fewer places old new shrinks are k =
    elim (are k) [
      | inl stray ↦ inl stray
      | inr noted ↦ inr (λ a need. noted a (elim (shrinks k) as (λ _. slot_needs a (get_or old k None) ≡ true) [
        | inl same ↦ subst (λ o. slot_needs a o ≡ true) same need
        | inr changed ↦ fewer a (get_or old k None) (subst (λ o. slot_needs a o ≡ true) changed need)
      ]))
    ]

-- more slots, and the same items in them
pub kept_more : (old new : Slab Waiting) (slots : ℕ) (places : Noted) → new ≡ record old { capacity = new.capacity } → old.capacity ≤ new.capacity → IsKept old slots places → IsKept new slots places
kept_more old new slots places e more k =
    let same : old.slots ≡ new.slots = sym (ap (λ s. s.slots) e) in
    record {
      used = subst (λ ss. count_by is_some ss ≤ slots) same k.used;
      has_place = omega (arith, k.has_place, more);
      place = k.place;
      busy = subst AllBusy same k.busy;
      noted = subst (IsNoted places) same k.noted;
    }

pub busy_shrinks : (f : Option Waiting → Option Waiting) → ((o : Option Waiting) → is_idle o ≡ false → is_idle (f o) ≡ false)
    → (old new : List (Option Waiting)) → Shrinks f old new → ((k : ℕ) → is_idle (get_or old k None) ≡ false) → (k : ℕ) → is_idle (get_or new k None) ≡ false
busy_shrinks f stays old new shrinks busy k =
    elim (shrinks k) [
      | inl same ↦ rw same (busy k)
      | inr changed ↦ rw changed (stays (get_or old k None) (busy k))
    ]
