-- What one step of a visit leaves, and what all of them do.
use Rattle.std.proofs.Common.{◌≡◌, ℕ, zero, suc, Bool, true, false, not, cond, nat_eq, List, [], ◌∷◌, ◌++◌, map, filter, get_or, Option, Some, None, refl, sym, ap, subst, ◌∙◌}
use Rattle.std.specs.List.{cons_option}
use Rattle.std.specs.List.Sorted.{IsPermutation}
use Rattle.std.proofs.lemmas.List.{append_assoc, append-nil}
use Rattle.std.proofs.lemmas.List.Sorted.{IsPermutation-refl, IsPermutation-trans, IsPermutation-append_right, IsPermutation-append_left, IsPermutation-append_comm}
use Rattle.rules.specs.declared.input.Input.{Input}
use Rattle.rules.specs.Inputs.{covers}
use Rattle.rules.specs.Waiting.{Waiting, is_ready, with_known, still_waiting, woken, without_item, EachMisses}
use Rattle.rules.specs.Slots.{after_slot, told, unless_item, is_idle, present, AllBusy, IsSettled, Learnt}
use Rattle.rules.proofs.Settling.{stepped, kept_step}

-- a test that is made twice tells no more
filter_twice : {X : Type 0} (p : X → Bool) (xs : List X) → filter p (filter p xs) ≡ filter p xs
filter_twice p [] = refl
filter_twice p (x ∷ xs) =
    elim (p x) as (λ b. p x ≡ b → filter p (cond b (x ∷ filter p xs) (filter p xs)) ≡ cond b (x ∷ filter p xs) (filter p xs)) [
      | true ↦ λ e. rw e (ap (λ ys. x ∷ ys) (filter_twice p xs))
      | false ↦ λ e. filter_twice p xs
    ] refl

known_twice : (i : Input) (w : Waiting) → with_known i (with_known i w) ≡ with_known i w
known_twice i w = ap (λ js. record { item = w.item; missing = js }) (filter_twice (λ j. not (covers i j)) w.missing)

-- what waits on learns nothing more
pub after_twice : (i : Input) (o : Option Waiting) → after_slot i (after_slot i o) ≡ after_slot i o
after_twice i None = refl
after_twice i (Some w) =
    elim (is_ready (with_known i w)) as (λ b. is_ready (with_known i w) ≡ b → after_slot i (cond b None (Some (with_known i w))) ≡ cond b None (Some (with_known i w))) [
      | true ↦ λ e. refl
      | false ↦ λ e. ap (λ v. cond (is_ready v) None (Some v)) (known_twice i w) ∙ ap (λ b. cond b None (Some (with_known i w))) e
    ] refl

told_after : (i : Input) (o : Option Waiting) → told i (after_slot i o) ≡ []
told_after i None = refl
told_after i (Some w) =
    elim (is_ready (with_known i w)) as (λ b. is_ready (with_known i w) ≡ b → told i (cond b None (Some (with_known i w))) ≡ []) [
      | true ↦ λ e. refl
      | false ↦ λ e. ap (λ v. cond (is_ready v) (w.item ∷ []) []) (known_twice i w) ∙ ap (λ b. cond b (w.item ∷ []) []) e
    ] refl

pub still_cons : (i : Input) (o : Option Waiting) (ws : List Waiting) → still_waiting i (cons_option o ws) ≡ cons_option (after_slot i o) (still_waiting i ws)
still_cons i None ws = refl
still_cons i (Some w) ws = refl

woken_cons : (i : Input) (o : Option Waiting) (ws : List Waiting) → woken i (cons_option o ws) ≡ told i o ++ woken i ws
woken_cons i None ws = refl
woken_cons i (Some w) ws =
    elim (is_ready (with_known i w)) as (λ b. map (λ v. v.item) (cond b (w ∷ filter (λ v. is_ready (with_known i v)) ws) (filter (λ v. is_ready (with_known i v)) ws)) ≡ cond b (w.item ∷ []) [] ++ woken i ws) [
      | true ↦ refl
      | false ↦ refl
    ]

-- the second of three lists comes to the front
to_front : (xs ys zs : List ℕ) → IsPermutation (xs ++ (ys ++ zs)) (ys ++ (xs ++ zs))
to_front xs ys zs =
    rw (← append_assoc xs ys zs, ← append_assoc ys xs zs) (IsPermutation-append_left zs (xs ++ ys) (ys ++ xs) (IsPermutation-append_comm xs ys))

told_step : (i : Input) (slots : List (Option Waiting)) (k : ℕ) → IsPermutation (woken i (present slots)) (told i (get_or slots k None) ++ woken i (present (stepped (after_slot i) (after_twice i) refl slots k)))
told_step i [] k = IsPermutation-refl []
told_step i (o ∷ rest) zero =
    let e : woken i (cons_option o (present rest)) ≡ told i o ++ woken i (cons_option (after_slot i o) (present rest)) =
    woken_cons i o (present rest) ∙ ap (λ l. told i o ++ l) (ap (λ l. l ++ woken i (present rest)) (sym (told_after i o)) ∙ sym (woken_cons i (after_slot i o) (present rest))) in
    subst (λ l. IsPermutation (woken i (cons_option o (present rest))) l) e (IsPermutation-refl _)
told_step i (o ∷ rest) (suc k) =
    let x = get_or rest k None in
    let later = woken i (present (stepped (after_slot i) (after_twice i) refl rest k)) in
    let moved = IsPermutation-trans (told i o ++ woken i (present rest)) (told i o ++ (told i x ++ later)) (told i x ++ (told i o ++ later))
    (IsPermutation-append_right (told i o) (woken i (present rest)) (told i x ++ later) (told_step i rest k)) (to_front (told i o) (told i x) later) in
    subst (λ l. IsPermutation l (told i x ++ woken i (cons_option o (present (stepped (after_slot i) (after_twice i) refl rest k))))) (sym (woken_cons i o (present rest)))
    (subst (λ l. IsPermutation (told i o ++ woken i (present rest)) (told i x ++ l)) (sym (woken_cons i o (present (stepped (after_slot i) (after_twice i) refl rest k)))) moved)

pub learnt_none : (i : Input) (slots : List (Option Waiting)) (list : List ℕ) → Learnt i slots slots list list
learnt_none i slots list = record { said = []; is = sym (append-nil list); told = IsPermutation-refl _; still = refl }

-- one more slot has learnt
pub learnt_step : (i : Input) (old slots : List (Option Waiting)) (k : ℕ) (list longer : List ℕ) → Learnt i old slots list longer → Learnt i old (stepped (after_slot i) (after_twice i) refl slots k) list (longer ++ told i (get_or slots k None))
learnt_step i old slots k list longer l =
    let x = told i (get_or slots k None) in
    let later = woken i (present (stepped (after_slot i) (after_twice i) refl slots k)) in
    record {
      said = l.said ++ x;
      is = ap (λ m. m ++ x) l.is ∙ append_assoc list l.said x;
      told = rw (append_assoc l.said x later) (IsPermutation-trans _ (l.said ++ woken i (present slots)) _ l.told (IsPermutation-append_right l.said _ _ (told_step i slots k)));
      still = kept_step (after_slot i) (after_twice i) refl (still_waiting i) refl (still_cons i) slots k ∙ l.still;
    }

-- where all are clean nothing more is to be learnt
pub woken_clean : (i : Input) (slots : List (Option Waiting)) → ((k : ℕ) → IsSettled (after_slot i) slots k) → woken i (present slots) ≡ []
woken_clean i [] h = refl
woken_clean i (o ∷ rest) h =
    woken_cons i o (present rest) ∙ ap (λ l. l ++ woken i (present rest)) (ap (told i) (sym (h zero)) ∙ told_after i o) ∙ woken_clean i rest (λ k. h (suc k))

pub unless_twice : (x : ℕ) (o : Option Waiting) → unless_item x (unless_item x o) ≡ unless_item x o
unless_twice x None = refl
unless_twice x (Some w) =
    elim (nat_eq w.item x) as (λ b. nat_eq w.item x ≡ b → unless_item x (cond b None (Some w)) ≡ cond b None (Some w)) [
      | true ↦ λ e. refl
      | false ↦ λ e. ap (λ b. cond b None (Some w)) e
    ] refl

pub without_cons : (x : ℕ) (o : Option Waiting) (ws : List Waiting) → without_item x (cons_option o ws) ≡ cons_option (unless_item x o) (without_item x ws)
without_cons x None ws = refl
without_cons x (Some w) ws =
    elim (nat_eq w.item x) as (λ b. cond (not b) (w ∷ without_item x ws) (without_item x ws) ≡ cons_option (cond b None (Some w)) (without_item x ws)) [
      | true ↦ refl
      | false ↦ refl
    ]

-- an item that misses something before and is there after has something left
pub busy_after : (i : Input) (o : Option Waiting) → is_idle (after_slot i o) ≡ false
busy_after i None = refl
busy_after i (Some w) =
    elim (is_ready (with_known i w)) as (λ b. is_ready (with_known i w) ≡ b → is_idle (cond b None (Some (with_known i w))) ≡ false) [
      | true ↦ λ e. refl
      | false ↦ λ e. e
    ] refl

pub busy_unless : (x : ℕ) (o : Option Waiting) → is_idle o ≡ false → is_idle (unless_item x o) ≡ false
busy_unless x None h = refl
busy_unless x (Some w) h =
    elim (nat_eq w.item x) as (λ b. is_idle (cond b None (Some w)) ≡ false) [
      | true ↦ refl
      | false ↦ h
    ]

-- where no slot has an item that misses nothing, each item misses something
pub each_misses : (slots : List (Option Waiting)) → AllBusy slots → EachMisses (present slots)
each_misses [] h = tt
each_misses (None ∷ rest) h = each_misses rest (λ k. h (suc k))
each_misses (Some w ∷ rest) h = (h zero, each_misses rest (λ k. h (suc k)))

-- what was learnt from some slots, and then from others
pub learnt_on : (i : Input) (a b c : List (Option Waiting)) (k l m : List ℕ) → Learnt i a b k l → Learnt i b c l m → Learnt i a c k m
learnt_on i a b c k l m g h =
    let later = woken i (present c) in
    record {
      said = g.said ++ h.said;
      is = h.is ∙ ap (λ n. n ++ h.said) g.is ∙ append_assoc k g.said h.said;
      told = rw (append_assoc g.said h.said later) (IsPermutation-trans _ (g.said ++ woken i (present b)) _ g.told (IsPermutation-append_right g.said _ _ h.told));
      still = h.still ∙ g.still;
    }
