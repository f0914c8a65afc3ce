-- A list with one more element.
use Rattle.std.proofs.Common.{◌≡◌, ℕ, zero, suc, ◌+◌, List, [], ◌∷◌, ◌++◌, sum, All, subst, sym, ap, arith}
use Rattle.std.proofs.lemmas.List.Sums.{sum_by-append}
use Rattle.std.proofs.lemmas.List.Elements.{All-append}

pub sum_more : (old new : List ℕ) (n : ℕ) → new ≡ old ++ n ∷ [] → sum new ≡ sum old + n
sum_more old new n is =
    let e : sum (old ++ n ∷ []) ≡ sum old + (0 + n) = sum_by-append (λ (x : ℕ). x) old (n ∷ []) in
    let f : sum new ≡ sum (old ++ n ∷ []) = ap sum is in
    omega arith

alone : {X : Type 0} (P : X → Type 0) (x : X) → P x → All P (x ∷ [])
alone P x here zero d lt = here
alone P x here (suc k) d lt = absurd (omega arith)

pub all_more : {X : Type 0} (P : X → Type 0) (old new : List X) (x : X) → new ≡ old ++ x ∷ [] → All P old → P x → All P new
all_more {X} P old new x is every here = subst (λ (l : List X). All P l) (sym is) (All-append P old (x ∷ []) every (alone P x here))
