-- Lines that are marked one behind another.
use Rattle.std.proofs.Common.{◌≡◌, ◌⊎◌, inl, inr, ◌+◌, ◌*◌, ℕ, zero, suc, List, [], ◌∷◌, ◌++◌, length, slice_get, arith, sym, subst, ap, ◌∙◌, refl, length-append}
use Rattle.std.specs.Prelude.{Some}
use Rattle.std.proofs.lemmas.Option.{same_Some, none-some}
use Rattle.explain_text.specs.declared.position.SourceLine.{SourceLine}
use Rattle.explain_text.specs.Positions.{IsLine}

-- what stands in a list with one more is in the list, or is that one
behind : {X : Type 0} (xs : List X) (x y : X) (k : ℕ) → slice_get (xs ++ x ∷ []) k ≡ Some y → (slice_get xs k ≡ Some y) ⊎ ((k ≡ length xs) × (x ≡ y))
behind [] x y zero e = inr (refl, same_Some x y e)
behind [] x y (suc k) e = absurd (none-some y e)
behind (z ∷ xs) x y zero e = inl e
behind (z ∷ xs) x y (suc k) e = elim (behind xs x y k e) [
  | inl q ↦ inl q
  | inr q ↦ inr (ap suc q.0, q.1)
]

-- each line of a list is the one of the offset that is so many times 256
abbrev pub AreFrom : List ℕ → List SourceLine → Type 0
AreFrom text marks = (k : ℕ) (line : SourceLine) → slice_get marks k ≡ Some line → IsLine text (k * 256) line

marked_more : (text : List ℕ) (marks : List SourceLine) (line : SourceLine) (n : ℕ) → length marks ≡ n → AreFrom text marks → IsLine text (n * 256) line → AreFrom text (marks ++ line ∷ [])
marked_more text marks line n many before here k other e = elim (behind marks line other k e) [
  | inl q ↦ before k other q
  | inr q ↦
      let same : n ≡ k = sym many ∙ sym q.0 in
      subst (λ (m : ℕ). IsLine text (m * 256) other) same (subst (λ (l : SourceLine). IsLine text (n * 256) l) q.1 here)
]

-- the line of the next offset is marked
pub marked_next : (text : List ℕ) (marks news : List SourceLine) (line : SourceLine) (n : ℕ) → news ≡ marks ++ line ∷ [] → length marks ≡ n + 1 → AreFrom text marks → IsLine text (n * 256 + 256) line → IsLine text ((n + 1) * 256) line × (length news ≡ n + 1 + 1) × AreFrom text news
marked_next text marks news line n adds many before here =
    let next : n * 256 + 256 ≡ (n + 1) * 256 = omega arith in
    let h : IsLine text ((n + 1) * 256) line = subst (λ (m : ℕ). IsLine text m line) next here in
    let p : length news ≡ length (marks ++ line ∷ []) = ap (λ (ls : List SourceLine). length ls) adds in
    let q : length (marks ++ line ∷ []) ≡ length marks + 1 = length-append marks (line ∷ []) in
    (h, omega arith, subst (λ (ls : List SourceLine). AreFrom text ls) (sym adds) (marked_more text marks line (n + 1) many before h))
