-- What a loop adds, element by element.
use Rattle.std.specs.Prelude.{◌≡◌, ℕ, ◌+◌, ◌<◌, List, ◌∷◌, ◌++◌, length, drop}
use Rattle.std.proofs.Common.{sym, ap, ◌∙◌, get_or}
use Rattle.std.proofs.lemmas.List.{append_assoc, drop_more}

-- what comes of one element more, where what comes of a list comes of its elements one after another
pub one_more : {X Z : Type 0} (of : List X → List Z) (own : X → List Z) → ((x : X) (ys : List X) → of (x ∷ ys) ≡ own x ++ of ys)
    → (whole before behind : List Z) (xs : List X) (i : ℕ) (x : X) → i < length xs → get_or xs i x ≡ x
    → whole ≡ before ++ of (drop i xs) → behind ≡ before ++ own x → whole ≡ behind ++ of (drop (i + 1) xs)
one_more {X} {Z} of own step whole before behind xs i x l g e h =
    e ∙ ap (λ (z : List X). before ++ of z) (drop_more xs i x l ∙ ap (λ (z : X). z ∷ drop (i + 1) xs) g)
    ∙ ap (λ (z : List Z). before ++ z) (step x (drop (i + 1) xs))
    ∙ sym (append_assoc before (own x) (of (drop (i + 1) xs)))
    ∙ ap (λ (z : List Z). z ++ of (drop (i + 1) xs)) (sym h)
