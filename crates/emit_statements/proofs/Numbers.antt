-- Numbers, one more behind others.
use Rattle.std.proofs.Common.{◌≡◌, ◌^◌, length, map, length-append, ℕ, zero, suc, ◌+◌, ◌-◌, ◌≤◌, ◌<◌, List, [], ◌∷◌, ◌++◌, ap, sym, ◌∙◌, append_assoc, arith}
use Rattle.std.proofs.lemmas.List.{append-nil}
use Rattle.std.proofs.lemmas.List.{length-map}
use Rattle.task_code.specs.Code.{Entry}
use Rattle.task_code.specs.View.{entry_view}
use Rattle.task_code.specs.declared.entry.Entry.{Entry as Made}
use Rattle.code_rules.specs.Laying.{counted}

up : (a n : ℕ) → suc a + n ≡ a + suc n
up a n = omega arith

at_zero : (a : ℕ) → a ≡ a + 0
at_zero a = omega arith

counted_last : (a n : ℕ) → counted a (suc n) ≡ counted a n ++ (a + n) ∷ []
counted_last a zero = ap (λ m. m ∷ []) (at_zero a)
counted_last a (suc n) = ap (λ l. a ∷ l) (counted_last (suc a) n ∙ ap (λ m. counted (suc a) n ++ m ∷ []) (up a n))

next_is : (a i : ℕ) → a ≤ i → (i + 1) - a ≡ suc (i - a)
next_is a i h = omega (arith, h)

there_is : (a i : ℕ) → a ≤ i → i ≡ a + (i - a)
there_is a i h = omega (arith, h)

pub none_counted : (a : ℕ) (old : List ℕ) → old ≡ old ++ counted a (a - a)
none_counted a old = sym (append-nil old) ∙ ap (λ n. old ++ counted a n) (none a)
  where
    none : (a : ℕ) → 0 ≡ a - a
    none a = omega arith

pub one_counted : (a i x : ℕ) (old now new : List ℕ) → a ≤ i → x ≡ i → now ≡ old ++ counted a (i - a) → new ≡ now ++ x ∷ [] → new ≡ old ++ counted a ((i + 1) - a)
one_counted a i x old now new h e is more =
    more ∙ ap (λ l. l ++ x ∷ []) is ∙ append_assoc old (counted a (i - a)) (x ∷ [])
    ∙ ap (λ m. old ++ (counted a (i - a) ++ m ∷ [])) (e ∙ there_is a i h)
    ∙ ap (λ l. old ++ l) (sym (counted_last a (i - a))) ∙ ap (λ n. old ++ counted a n) (sym (next_is a i h))

pub small_fits : (i to : ℕ) → i < to → to ≤ 2 ^ 32 → i < 2 ^ 32
small_fits i to h b = omega (arith, h, b)

-- the numbers of the entries that are added
pub long : (old new : List Made) (more : List Entry) → map entry_view new ≡ map entry_view old ++ more → length new ≡ length old + length more
long old new more is = sym (length-map new entry_view) ∙ ap length is ∙ length-append (map entry_view old) more ∙ ap (λ n. n + length more) (length-map old entry_view)

pub added_numbers : (old new : List Made) (more : List Entry) (from to : ℕ) (xs ys : List ℕ) → map entry_view new ≡ map entry_view old ++ more → from ≡ length old → to ≡ length new → length new ≤ 2 ^ 32
    → (from ≤ to → to ≤ 2 ^ 32 → ys ≡ xs ++ counted from (to - from)) → ys ≡ xs ++ counted (length (map entry_view old)) (length more)
added_numbers old new more from to xs ys is a b few add =
    let n = long old new more is in
    add (omega (arith, n, a, b)) (omega (arith, b, few))
    ∙ ap (λ m. xs ++ counted m (to - from)) (a ∙ sym (length-map old entry_view))
    ∙ ap (λ m. xs ++ counted (length (map entry_view old)) m) (rest (length old) (length new) (length more) from to n a b)
  where
    rest : (i j m from to : ℕ) → j ≡ i + m → from ≡ i → to ≡ j → to - from ≡ m
    rest i j m from to e a b = omega (arith, e, a, b)

-- and that of a last one
pub last_number : (old mid : List Made) (more : List Entry) (e : Entry) → map entry_view mid ≡ map entry_view old ++ more
    → counted (length (map entry_view old)) (length (more ++ e ∷ [])) ≡ counted (length (map entry_view old)) (length more) ++ length (map entry_view mid) ∷ []
last_number old mid more e is =
    ap (counted (length (map entry_view old))) (length-append more (e ∷ []) ∙ one (length more)) ∙ counted_last (length (map entry_view old)) (length more)
    ∙ ap (λ n. counted (length (map entry_view old)) (length more) ++ n ∷ []) (sym (ap length is ∙ length-append (map entry_view old) more))
  where
    one : (n : ℕ) → n + 1 ≡ suc n
    one n = omega arith

pub numbered_all : (from to i : ℕ) (old : List ℕ) → i ≤ to → to ≤ i → old ++ counted from (i - from) ≡ old ++ counted from (to - from)
numbered_all from to i old h b = ap (λ n. old ++ counted from (n - from)) (same i to h b)
  where
    same : (i to : ℕ) → i ≤ to → to ≤ i → i ≡ to
    same i to h b = omega (arith, h, b)
