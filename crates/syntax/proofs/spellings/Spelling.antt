-- Words by their bytes.
use Rattle.std.proofs.Common.{◌≡◌, ℕ, true, false, List, [], ◌∷◌, refl, sym, ap, ◌∙◌, arith}
use Rattle.std.specs.Prelude.{◌≢◌, ◌&&◌, nat_eq}
use Rattle.std.proofs.lemmas.Bool.Decides.{nat_tests}
use borrow.Author.Tests.{eqb-true}
use Rattle.syntax.specs.Reading.{spells}

pub spells_true : (a b : List ℕ) → a ≡ b → spells a b ≡ true
spells_true a b e = ap (spells a) (sym e) ∙ same a
  where
    same : (a : List ℕ) → spells a a ≡ true
    same [] = refl
    same (c ∷ cs) = let one : nat_eq c c ≡ true = grind (arith, nat_tests) in ap (λ v. v && spells cs cs) one ∙ same cs

pub spells_false : (a b : List ℕ) → a ≢ b → spells a b ≡ false
spells_false [] [] other = absurd (other refl)
spells_false [] (c ∷ cs) other = refl
spells_false (b ∷ bs) [] other = refl
spells_false (b ∷ bs) (c ∷ cs) other =
    elim (nat_eq b c) as (λ v. nat_eq b c ≡ v → (v && spells bs cs) ≡ false) [
      | true ↦ λ same. let first : b ≡ c = eqb-true b c same in spells_false bs cs (λ rest. other (cc))
      | false ↦ λ differ. refl
    ] refl
