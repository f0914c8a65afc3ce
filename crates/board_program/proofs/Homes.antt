-- The bodies that have the entries, one after the other.
use Rattle.std.proofs.Common.{◌≡◌, ◌∙◌, refl, ap, ℕ, zero, suc, ◌+◌, ◌<◌, ◌≤◌, List, [], ◌∷◌, ◌++◌, length, take, drop, Option, Some, None, arith}
use Rattle.std.specs.Prelude.{replicate, set, slice_index_or}
use Rattle.std.proofs.lemmas.List.{set_past}
use Rattle.task_code.specs.Code.{blank_body, Body, nth}
use Rattle.board_program.specs.Spots.{note, noted}

pub next : (n : ℕ) → suc n ≡ n + 1
next n = omega arith

-- the first of what is left
pub cut : {X : Type 0} (xs : List X) (i : ℕ) (d : X) → i < length xs → drop i xs ≡ slice_index_or xs i d ∷ drop (suc i) xs
cut [] i d h = absurd (omega (arith, h))
cut (x ∷ xs) zero d h = refl
cut (x ∷ xs) (suc i) d h = cut xs i d (omega (arith, h))

pub emptied : {X : Type 0} (xs : List X) (i : ℕ) → length xs ≤ i → drop i xs ≡ []
emptied [] zero h = refl
emptied [] (suc i) h = refl
emptied (x ∷ xs) zero h = absurd (omega (arith, h))
emptied (x ∷ xs) (suc i) h = emptied xs i (omega (arith, h))

-- lists to a place
pub taken : {X : Type 0} (xs : List X) (i : ℕ) (d : X) → i < length xs → take (i + 1) xs ≡ take i xs ++ slice_index_or xs i d ∷ []
taken [] i d h = absurd (omega (arith, h))
taken (x ∷ xs) zero d h = refl
taken (x ∷ xs) (suc i) d h = ap (λ n. take n (x ∷ xs)) (later i) ∙ ap (λ l. x ∷ l) (taken xs i d (omega (arith, h)))
  where
    later : (i : ℕ) → suc i + 1 ≡ suc (i + 1)
    later i = omega arith

pub whole : {X : Type 0} (xs : List X) (i : ℕ) → length xs ≤ i → take i xs ≡ xs
whole [] zero h = refl
whole [] (suc i) h = refl
whole (x ∷ xs) zero h = absurd (omega (arith, h))
whole (x ∷ xs) (suc i) h = ap (λ l. x ∷ l) (whole xs i (omega (arith, h)))

-- one entry more
pub note_next : (b : ℕ) (is : List ℕ) (i d : ℕ) (hs : List (Option ℕ)) → i < length is → note b (drop i is) hs ≡ note b (drop (i + 1) is) (set hs (slice_index_or is i d) (Some b))
note_next b is i d hs h =
    ap (λ l. note b l hs) (cut is i d h)
    ∙ ap (λ n. note b (drop n is) (set hs (slice_index_or is i d) (Some b))) (next i)

pub note_past : (b : ℕ) (is : List ℕ) (i d : ℕ) (hs : List (Option ℕ)) → i < length is → length hs ≤ slice_index_or is i d → note b (drop i is) hs ≡ note b (drop (i + 1) is) hs
note_past b is i d hs h q = note_next b is i d hs h ∙ ap (note b (drop (i + 1) is)) (set_past hs (slice_index_or is i d) (Some b) q)

pub note_end : (b : ℕ) (is : List ℕ) (i : ℕ) (hs : List (Option ℕ)) → length is ≤ i → note b (drop i is) hs ≡ hs
note_end b is i hs h = ap (λ l. note b l hs) (emptied is i h)

pub one_more : (n : ℕ) → ◌≡◌ {A = List (Option ℕ)} (replicate n None ++ None ∷ []) (replicate (n + 1) None)
one_more zero = refl
one_more (suc n) = ap (λ (l : List (Option ℕ)). None ∷ l) (one_more n) ∙ ap (λ k. replicate k None) (later n)
  where
    later : (n : ℕ) → suc (n + 1) ≡ suc n + 1
    later n = omega arith

-- the body of a number
nth_cut : (xs : List Body) (i : ℕ) → i < length xs → drop i xs ≡ nth blank_body xs i ∷ drop (suc i) xs
nth_cut [] i h = absurd (omega (arith, h))
nth_cut (x ∷ xs) zero h = refl
nth_cut (x ∷ xs) (suc i) h = nth_cut xs i (omega (arith, h))

pub noted_next : (xs : List Body) (i : ℕ) (hs : List (Option ℕ)) → i < length xs → noted i (drop i xs) hs ≡ noted (i + 1) (drop (i + 1) xs) (note i (nth blank_body xs i).entries hs)
noted_next xs i hs h =
    ap (λ l. noted i l hs) (nth_cut xs i h)
    ∙ ap (λ n. noted n (drop n xs) (note i (nth blank_body xs i).entries hs)) (next i)

pub noted_end : (xs : List Body) (n i : ℕ) (hs : List (Option ℕ)) → length xs ≤ i → noted n (drop i xs) hs ≡ hs
noted_end xs n i hs h = ap (λ l. noted n l hs) (emptied xs i h)

pub plus : (n : ℕ) → 0 + n ≡ n
plus n = omega arith
