-- How many items lie in slots, and what one more does.
use Rattle.std.proofs.Common.{arith, ◌≡◌, ◌≢◌, ℕ, zero, suc, cond, count_by, is_some, List, [], ◌∷◌, length, get_or, Option, Some, None, refl, sym, ap, subst, ◌∙◌}
use Rattle.std.specs.List.{cons_option}
use Rattle.std.specs.List.Sorted.{IsPermutation}
use Rattle.std.proofs.lemmas.List.Sums.{sum_by-cons}
use Rattle.std.proofs.lemmas.List.Sorted.{IsPermutation-refl, IsPermutation-sym, IsPermutation-trans, IsPermutation-cons, IsPermutation-middle}
use Rattle.rules.specs.Waiting.{Waiting}
use Rattle.rules.specs.Slots.{present}

pub length_present : (slots : List (Option Waiting)) → length (present slots) ≡ count_by is_some slots
length_present [] = refl
length_present (None ∷ rest) = omega (arith, length_present rest, sum_by-cons (λ o. cond (is_some o) 1 0) None rest)
length_present (Some w ∷ rest) = omega (arith, length_present rest, sum_by-cons (λ o. cond (is_some o) 1 0) (Some w) rest)

present_same : (old new : List (Option Waiting)) → ((k : ℕ) → get_or new k None ≡ get_or old k None) → present new ≡ present old
present_same [] [] h = refl
present_same [] (n ∷ ns) h = ap (λ o. cons_option o (present ns)) (h zero) ∙ present_same [] ns (λ k. h (suc k))
present_same (o ∷ os) [] h = present_same os [] (λ k. h (suc k)) ∙ ap (λ p. cons_option p (present os)) (h zero)
present_same (o ∷ os) (n ∷ ns) h = ap (λ p. cons_option p (present ns)) (h zero) ∙ ap (cons_option o) (present_same os ns (λ k. h (suc k)))

past_head : (w : Waiting) (o : Option Waiting) (ws vs : List Waiting) → IsPermutation (w ∷ ws) vs → IsPermutation (w ∷ cons_option o ws) (cons_option o vs)
past_head w None ws vs h = h
past_head w (Some v) ws vs h =
    IsPermutation-trans (w ∷ v ∷ ws) (v ∷ w ∷ ws) (v ∷ vs) (IsPermutation-sym (v ∷ w ∷ ws) (w ∷ v ∷ ws) (IsPermutation-middle (v ∷ []) w ws)) (IsPermutation-cons v (w ∷ ws) vs h)

-- an item that comes into a vacant slot is one item more
pub present_insert : (old new : List (Option Waiting)) (at : ℕ) (w : Waiting) → get_or old at None ≡ None → get_or new at None ≡ Some w → ((k : ℕ) → k ≢ at → get_or new k None ≡ get_or old k None) → IsPermutation (w ∷ present old) (present new)
present_insert old [] at w vacant is others = absurd (cc)
present_insert [] (n ∷ ns) zero w vacant is others =
    let e : present (n ∷ ns) ≡ w ∷ [] = ap (λ p. cons_option p (present ns)) is ∙ ap (λ l. w ∷ l) (present_same [] ns (λ k. others (suc k) (λ q. absurd (omega (arith, q))))) in
    subst (λ l. IsPermutation (w ∷ []) l) (sym e) (IsPermutation-refl (w ∷ []))
present_insert (o ∷ os) (n ∷ ns) zero w vacant is others =
    let e : present (n ∷ ns) ≡ w ∷ present os = ap (λ p. cons_option p (present ns)) is ∙ ap (λ l. w ∷ l) (present_same os ns (λ k. others (suc k) (λ q. absurd (omega (arith, q))))) in
    let d : present (o ∷ os) ≡ present os = ap (λ p. cons_option p (present os)) vacant in
    subst (λ l. IsPermutation (w ∷ present (o ∷ os)) l) (sym e) (subst (λ l. IsPermutation (w ∷ l) (w ∷ present os)) (sym d) (IsPermutation-refl (w ∷ present os)))
present_insert [] (n ∷ ns) (suc at) w vacant is others =
    let e : present (n ∷ ns) ≡ present ns = ap (λ p. cons_option p (present ns)) (others zero (λ q. absurd (omega (arith, q)))) in
    subst (λ l. IsPermutation (w ∷ []) l) (sym e) (present_insert [] ns at w refl is (λ k d. others (suc k) (λ q. d (omega (arith, q)))))
present_insert (o ∷ os) (n ∷ ns) (suc at) w vacant is others =
    let e : present (n ∷ ns) ≡ cons_option o (present ns) = ap (λ p. cons_option p (present ns)) (others zero (λ q. absurd (omega (arith, q)))) in
    subst (λ l. IsPermutation (w ∷ present (o ∷ os)) l) (sym e) (past_head w o (present os) (present ns) (present_insert os ns at w vacant is (λ k d. others (suc k) (λ q. d (omega (arith, q))))))
