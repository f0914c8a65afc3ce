-- Whether two places are one.
use Rattle.std.specs.Prelude.{◌≡◌, ◌⊎◌, true, false, [], ◌∷◌, refl}
use Rattle.std.proofs.Common.{inl, inr, sym, ap, ◌∙◌, subst}
use Rattle.std.proofs.lemmas.Bool.{cases_Bool, cases_eq}
use Rattle.values.specs.declared.key.Key.{Key}
use Rattle.values.specs.Keys.{same_key}
use Rattle.values.proofs.Keys.{same_key-refl, same_key-eq}
use Rattle.language.specs.Places.{Path, Place, Step}

true_false : true ≡ false → ⊥
true_false h = absurd (cc (h))

pub key_is : (k l : Key) → (k ≡ l) ⊎ (k ≡ l → ⊥)
key_is k l = elim (cases_Bool (same_key k l)) [
  | inl same ↦ inl (same_key-eq k l same)
  | inr other ↦ inr (λ e. true_false (sym (same_key-refl k) ∙ subst (λ (z : Key). same_key k z ≡ false) (sym e) other))
]

step_parts : {a b : Step} {p q : Path} → a ∷ p ≡ b ∷ q → (a ≡ b) × (p ≡ q)
step_parts h = (cc (h), cc (h))

path_is : (p q : Path) → (p ≡ q) ⊎ (p ≡ q → ⊥)
path_is [] [] = inl refl
path_is [] (b ∷ q) = inr (λ e. absurd (cc (e)))
path_is (a ∷ p) [] = inr (λ e. absurd (cc (e)))
path_is (a ∷ p) (b ∷ q) = by (cases_eq a.0 b.0) (key_is a.1 b.1) (path_is p q)
  where
    by : ((a.0 ≡ b.0) ⊎ (a.0 ≡ b.0 → ⊥)) → ((a.1 ≡ b.1) ⊎ (a.1 ≡ b.1 → ⊥)) → ((p ≡ q) ⊎ (p ≡ q → ⊥)) → (a ∷ p ≡ b ∷ q) ⊎ (a ∷ p ≡ b ∷ q → ⊥)
    by (inl e) (inl f) (inl g) = inl (λ i. (e i, f i) ∷ g i)
    by (inr h) y z = inr (λ e. h (ap (λ (t : Step). t.0) (step_parts e).0))
    by (inl e) (inr h) z = inr (λ e. h (ap (λ (t : Step). t.1) (step_parts e).0))
    by (inl e) (inl f) (inr h) = inr (λ e. h (step_parts e).1)

pub place_is : (a b : Place) → (a ≡ b) ⊎ (a ≡ b → ⊥)
place_is a b = by (path_is a.0 b.0) (cases_eq a.1 b.1)
  where
    by : ((a.0 ≡ b.0) ⊎ (a.0 ≡ b.0 → ⊥)) → ((a.1 ≡ b.1) ⊎ (a.1 ≡ b.1 → ⊥)) → (a ≡ b) ⊎ (a ≡ b → ⊥)
    by (inl e) (inl f) = inl (λ i. (e i, f i))
    by (inr h) y = inr (λ e. h (ap (λ (z : Place). z.0) e))
    by (inl e) (inr h) = inr (λ e. h (ap (λ (z : Place). z.1) e))
