-- Numbers in a text.
use Rattle.std.proofs.Common.{◌≡◌, ◌≢◌, ◌∙◌, sym, ap, refl, ℕ, zero, suc, ◌^◌, ◌<◌, ◌≤◌, List, [], ◌∷◌, ◌++◌, length, length-append, get_or, take, drop, arith}
use Rattle.std.proofs.Math.ListN.{get_or-append}
use Rattle.std.proofs.Math.Seq.{get_or-append_seam, take-append_seam}
use Rattle.std.specs.Fmt.{decimal}
use Rattle.std.specs.Str.Parse.{AllDigits}
use Rattle.std.proofs.lemmas.Fmt.{decimal_is_IsNumeral, decimal_digit, first_decimal, decimal-digits_value, decimal_injective}
use Rattle.std.proofs.lemmas.Str.Parse.{digit_from_value, numerals_by_value, tells_digits}
use Rattle.swt_trace.specs.Trace.{IsWritten}

-- digits that write a number are its decimal text
pub written_decimal : (ds : List ℕ) (n : ℕ) → n < 2 ^ 64 → IsWritten ds n → ds ≡ decimal n
written_decimal ds n small w =
    sym (decimal-digits_value (numerals_by_value _ tells_digits) ds w.digits_only.1 w.digits_only.0 w.no_leading_zero (omega (arith, w.value)))
    ∙ ap (λ m. decimal m) w.value

zero_alone : (n : ℕ) → n < 2 ^ 64 → get_or (decimal n) 0 0 ≡ 48 → length (decimal n) ≡ 1
zero_alone zero small e = ap length (decimal_digit 0 (omega arith))
zero_alone (suc n) small e = absurd (omega (arith, e, first_decimal (suc n) (omega arith) small))

pub decimal_written : (n : ℕ) → n < 2 ^ 64 → IsWritten (decimal n) n
decimal_written n small = record {
  digits_only = (decimal_is_IsNumeral n small).0;
  no_leading_zero = zero_alone n small;
  value = (decimal_is_IsNumeral n small).1;
}

-- two texts of digits, each before a byte that is no digit
same_digits : (xs ys r s : List ℕ) (end : ℕ) → end < 48 → AllDigits 10 xs → AllDigits 10 ys → xs ++ end ∷ r ≡ ys ++ end ∷ s → (xs ≡ ys) × (r ≡ s)
same_digits [] [] r s end low p q e = (refl, grind (arith, e))
same_digits [] (y ∷ ys) r s end low p q e =
    let h : end ≡ y = grind (arith, e) in
    absurd (omega (arith, digit_from_value y q.0, h, low))
same_digits (x ∷ xs) [] r s end low p q e =
    let h : x ≡ end = grind (arith, e) in
    absurd (omega (arith, digit_from_value x p.0, h, low))
same_digits (x ∷ xs) (y ∷ ys) r s end low p q e =
    let h : x ≡ y = grind (arith, e) in
    let rest = same_digits xs ys r s end low p.1 q.1 (ap (drop 1) e) in
    (grind (arith, h, rest.0), rest.1)

-- a number and a byte that is no digit are read in one way
pub same_number : (m n : ℕ) (r s : List ℕ) (end : ℕ) → m < 2 ^ 64 → n < 2 ^ 64 → end < 48 → decimal m ++ end ∷ r ≡ decimal n ++ end ∷ s → (m ≡ n) × (r ≡ s)
same_number m n r s end small little low e =
    let same = same_digits (decimal m) (decimal n) r s end low (decimal_is_IsNumeral m small).0.1 (decimal_is_IsNumeral n little).0.1 e in
    (decimal_injective m n small little same.0, same.1)

digit_at : (ds : List ℕ) (k : ℕ) → AllDigits 10 ds → k < length ds → 48 ≤ get_or ds k 0
digit_at [] k a l = absurd (omega arith)
digit_at (d ∷ ds) zero a l = omega (arith, digit_from_value d a.0)
digit_at (d ∷ ds) (suc k) a l = digit_at ds k a.1 (omega arith)

-- without the byte that ends it there is no number
pub no_end : (bs : List ℕ) (end : ℕ) → ((k : ℕ) → k < length bs → get_or bs k 0 ≢ end) → (n : ℕ) (rest : List ℕ) → n < 2 ^ 64 → bs ≢ decimal n ++ end ∷ rest
no_end bs end none n rest small e =
    none (length (decimal n)) (rw (e, length-append) (omega arith)) (ap (λ xs. get_or xs (length (decimal n)) 0) e ∙ get_or-append_seam (decimal n) end rest 0)

-- the number in front of a byte that is no digit ends at the first such byte
pub number_before : (bs : List ℕ) (end place n : ℕ) (rest : List ℕ) → end < 48 → get_or bs place 0 ≡ end → ((k : ℕ) → k < place → get_or bs k 0 ≢ end) → n < 2 ^ 64 → bs ≡ decimal n ++ end ∷ rest → take place bs ≡ decimal n
number_before bs end place n rest low found first small e =
    let not_before : place < length (decimal n) → ⊥ =
    λ l. omega (arith, low, sym found ∙ ap (λ xs. get_or xs place 0) e ∙ get_or-append (decimal n) (end ∷ rest) 0 place l, digit_at (decimal n) place (decimal_is_IsNumeral n small).0.1 l) in
    let not_behind : length (decimal n) < place → ⊥ =
    λ l. first (length (decimal n)) l (ap (λ xs. get_or xs (length (decimal n)) 0) e ∙ get_or-append_seam (decimal n) end rest 0) in
    let is : place ≡ length (decimal n) = omega (arith, not_before, not_behind) in
    (λ k. take (is k) (e k)) ∙ take-append_seam (decimal n) (end ∷ rest)
