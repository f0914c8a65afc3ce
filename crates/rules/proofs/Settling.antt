-- Slots that change one at a time, each by f, which changes no slot twice.
use Rattle.std.proofs.Common.{arith, ◌≡◌, ◌≢◌, ◌⊎◌, inl, inr, ℕ, zero, suc, ◌<◌, ◌≤◌, List, [], ◌∷◌, length, set, get_or, Option, None, refl, sym, ap, subst, ◌∙◌}
use Rattle.std.specs.List.{cons_option}
use Rattle.std.proofs.lemmas.Bool.{cases_eq, cases_lt}
use Rattle.std.proofs.lemmas.List.{get_or-set_other, get_or_past}
use Rattle.rules.specs.Waiting.{Waiting}
use Rattle.rules.specs.Slots.{present, IsSettled, Shrinks}

module _ (f : Option Waiting → Option Waiting) (twice : (o : Option Waiting) → f (f o) ≡ f o) (vacant : f None ≡ None) where
  -- the slots once the one at k has changed
  abbrev pub stepped : List (Option Waiting) → ℕ → List (Option Waiting)
  stepped slots k = set slots k (f (get_or slots k None))

  get_stepped : (slots : List (Option Waiting)) (k : ℕ) → get_or (stepped slots k) k None ≡ f (get_or slots k None)
  get_stepped [] k = sym vacant
  get_stepped (o ∷ rest) zero = refl
  get_stepped (o ∷ rest) (suc k) = get_stepped rest k

  settled_here : (slots : List (Option Waiting)) (k : ℕ) → IsSettled f (stepped slots k) k
  settled_here slots k = ap f (get_stepped slots k) ∙ twice (get_or slots k None) ∙ sym (get_stepped slots k)

  settled_else : (slots : List (Option Waiting)) (k j : ℕ) → j ≢ k → IsSettled f slots j → IsSettled f (stepped slots k) j
  settled_else slots k j differs h = rw (get_or-set_other slots k j (f (get_or slots k None)) None differs) h

  -- what is settled stays so, and so is the slot that has changed
  pub settled_step : (slots : List (Option Waiting)) (k j : ℕ) → (j ≡ k) ⊎ IsSettled f slots j → IsSettled f (stepped slots k) j
  settled_step slots k j (inl e) = subst (λ m. IsSettled f (stepped slots k) m) (sym e) (settled_here slots k)
  settled_step slots k j (inr h) =
      elim (cases_eq j k) [
        | inl e ↦ subst (λ m. IsSettled f (stepped slots k) m) (sym e) (settled_here slots k)
        | inr differs ↦ settled_else slots k j differs h
      ]

  -- past the last slot nothing changes
  pub settled_past : (slots : List (Option Waiting)) (n k : ℕ) → (k < n → IsSettled f slots k) → length slots ≤ n → IsSettled f slots k
  settled_past slots n k h fits =
      elim (cases_lt k n) [
        | inl below ↦ h below
        | inr past ↦ rw (get_or_past slots k None (omega (arith, past, fits))) vacant
      ]

  pub shrinks_none : (slots : List (Option Waiting)) → Shrinks f slots slots
  shrinks_none slots k = inl refl

  pub shrinks_step : (old slots : List (Option Waiting)) (k : ℕ) → Shrinks f old slots → Shrinks f old (stepped slots k)
  shrinks_step old slots k h j =
      elim (cases_eq j k) [
        | inl e ↦
            let here : get_or (stepped slots k) j None ≡ f (get_or slots j None) = subst (λ m. get_or (stepped slots k) m None ≡ f (get_or slots m None)) (sym e) (get_stepped slots k) in
            elim (h j) as (λ _. (get_or (stepped slots k) j None ≡ get_or old j None) ⊎ (get_or (stepped slots k) j None ≡ f (get_or old j None))) [
              | inl same ↦ inr (here ∙ ap f same)
              | inr changed ↦ inr (here ∙ ap f changed ∙ twice (get_or old j None))
            ]
        | inr differs ↦
            let there : get_or (stepped slots k) j None ≡ get_or slots j None = get_or-set_other slots k j (f (get_or slots k None)) None differs in
            elim (h j) as (λ _. (get_or (stepped slots k) j None ≡ get_or old j None) ⊎ (get_or (stepped slots k) j None ≡ f (get_or old j None))) [
              | inl same ↦ inl (there ∙ same)
              | inr changed ↦ inr (there ∙ changed)
            ]
      ]

  pub shrinks_on : (a b c : List (Option Waiting)) → Shrinks f a b → Shrinks f b c → Shrinks f a c
  shrinks_on a b c g h k =
      elim (h k) [
        | inl same ↦ elim (g k) as (λ _. (get_or c k None ≡ get_or a k None) ⊎ (get_or c k None ≡ f (get_or a k None))) [
          | inl was ↦ inl (same ∙ was)
          | inr changed ↦ inr (same ∙ changed)
        ]
        | inr changed ↦ elim (g k) as (λ _. (get_or c k None ≡ get_or a k None) ⊎ (get_or c k None ≡ f (get_or a k None))) [
          | inl was ↦ inr (changed ∙ ap f was)
          | inr before ↦ inr (changed ∙ ap f before ∙ twice (get_or a k None))
        ]
      ]

  module _ (all : List Waiting → List Waiting) (all_nil : all [] ≡ []) (all_cons : (o : Option Waiting) (ws : List Waiting) → all (cons_option o ws) ≡ cons_option (f o) (all ws)) where
    -- a change of one slot takes nothing from what all of them come to
    pub kept_step : (slots : List (Option Waiting)) (k : ℕ) → all (present (stepped slots k)) ≡ all (present slots)
    kept_step [] k = refl
    kept_step (o ∷ rest) zero =
        all_cons (f o) (present rest) ∙ ap (λ p. cons_option p (all (present rest))) (twice o) ∙ sym (all_cons o (present rest))
    kept_step (o ∷ rest) (suc k) =
        all_cons o (present (stepped rest k)) ∙ ap (cons_option (f o)) (kept_step rest k) ∙ sym (all_cons o (present rest))

    -- where all are settled, they have come to it
    pub all_settled : (slots : List (Option Waiting)) → ((k : ℕ) → IsSettled f slots k) → all (present slots) ≡ present slots
    all_settled [] h = all_nil
    all_settled (o ∷ rest) h =
        all_cons o (present rest) ∙ ap (λ p. cons_option p (all (present rest))) (h zero) ∙ ap (cons_option o) (all_settled rest (λ k. h (suc k)))
