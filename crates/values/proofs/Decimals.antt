-- A number's text is read back as the number.
use Rattle.std.proofs.Common.{◌≡◌, ◌∙◌, ap, rules, ℕ, suc, ◌+◌, ◌-◌, ◌*◌, ◌/◌, ◌%◌, ◌^◌, ◌<◌, ◌≤◌, List, [], ◌∷◌, ◌++◌, length, arith, refl, Some, true, false}
use Rattle.std.specs.Prelude.{ℤ, pos, negsuc, Result, Ok, Err, IfOk, nat_eq}
use mir.Syntax.{w64}
use mir.Val.{SFits}
use Rattle.std.specs.Fmt.{decimal, signed_decimal}
use Rattle.std.proofs.lemmas.Fmt.{decimal_by_steps}
use Rattle.std.proofs.lemmas.Int.{ints}
use Rattle.std.proofs.lemmas.Grind.{common_steps}
use Rattle.values.specs.Numbers.{digits_value, spelled, fits, number_in, number_or_not}

digits_value-more : (n m c : ℕ) (ds : List ℕ) → digits_value n ds ≡ Some m → digits_value n (ds ++ c ∷ []) ≡ digits_value m (c ∷ [])
digits_value-more n m c [] e = grind (arith, common_steps)
digits_value-more n m c (d ∷ ds) e = grind (arith, common_steps, digits_value-more (n * 10 + (d - 48)) m c ds)

digit_read : (n d : ℕ) → d < 10 → digits_value n ((48 + d) ∷ []) ≡ Some (n * 10 + d)
digit_read n d l = grind (arith, common_steps)

-- n is spelled by digits, of which there are some
abbrev Spells : ℕ → List ℕ → Type 0
Spells n ds = (digits_value 0 ds ≡ Some n) × (0 < length ds)

spells_one : (n : ℕ) → n < 10 → Spells n ((48 + n) ∷ [])
spells_one n l = (grind (arith, common_steps), omega arith)

spells_more : (n : ℕ) (ds : List ℕ) → 10 ≤ n → Spells (n / 10) ds → Spells n (ds ++ (48 + n % 10) ∷ [])
spells_more n ds l s =
    let whole : n / 10 * 10 + n % 10 ≡ n = omega arith in
    (digits_value-more 0 (n / 10) (48 + n % 10) ds s.0 ∙ digit_read (n / 10) (n % 10) (omega arith) ∙ ap Some whole, grind (arith, common_steps))

pub spells_decimal : (n : ℕ) → n < 2 ^ 64 → Spells n (decimal n)
spells_decimal n l = decimal_by_steps Spells spells_one spells_more n l

first_digit : (d : ℕ) (ds : List ℕ) (n : ℕ) → digits_value 0 (d ∷ ds) ≡ Some n → nat_eq d 45 ≡ false
first_digit d ds n e = grind (arith, common_steps)

small : (n : ℕ) → n < 2 ^ 63 → number_or_not (Some (pos n)) ≡ Ok (pos n)
small n l = let s : fits (pos n) ≡ true = grind arith in rw s refl

-- digits are one number, with a minus and without
number_in-digits : (n : ℕ) (ds : List ℕ) → Spells n ds → n < 2 ^ 63 → number_in ds ≡ Ok (pos n)
number_in-digits n [] s l = absurd (omega (arith, s.1))
number_in-digits n (d ∷ ds) s l =
    let other : nat_eq d 45 ≡ false = first_digit d ds n s.0 in
    rw (other, s.0) (small n l)

spelled-digits : (n : ℕ) (ds : List ℕ) → Spells n ds → spelled ds ≡ Some n
spelled-digits n [] s = absurd (omega (arith, s.1))
spelled-digits n (d ∷ ds) s = s.0

pub number_in-signed_decimal : (z : ℤ) → fits z ≡ true → number_in (signed_decimal z) ≡ Ok z
number_in-signed_decimal (pos n) h = number_in-digits n (decimal n) (spells_decimal n (grind arith)) (grind arith)
number_in-signed_decimal (negsuc n) h = rw (spelled-digits (suc n) (decimal (suc n)) (spells_decimal (suc n) (grind arith))) (rw h refl)

pub fits_signed : (z : ℤ) → SFits w64 z → fits z ≡ true
fits_signed (pos n) h = grind (arith, ints)
fits_signed (negsuc n) h = grind (arith, ints)

pub read_back : {E : Type 0} (r : Result (List ℕ) E) (z : ℤ) (bytes : List ℕ) → fits z ≡ true → bytes ≡ signed_decimal z → IfOk r (λ text. text ≡ bytes) → IfOk r (λ text. number_in text ≡ Ok z)
read_back (Ok text) z bytes small e h = let q : text ≡ signed_decimal z = h ∙ e in rw q (number_in-signed_decimal z small)
read_back (Err refused) z bytes small e h = search rules
