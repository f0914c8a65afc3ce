-- What stands at a number of a list, where a value was put or added.
use Rattle.std.proofs.Common.{◌≡◌, ℕ, zero, suc, Bool, ◌<◌, List, [], ◌∷◌, ◌++◌, length, slice_get, cond, nat_eq, refl, ap, sym, ◌∙◌, arith}
use Rattle.std.specs.Prelude.{Option, Some, None}
use Rattle.std.proofs.Math.Dec.{eqb-zero-suc, eqb-suc-zero, eqb-suc-suc}
use Rattle.std.proofs.Math.ListN.{set}

-- a value was put
pub got_put : {X Z : Type 0} (f : Option X → Z) (v : X) (xs : List X) (n k : ℕ) → n < length xs → f (slice_get (set xs n v) k) ≡ cond (nat_eq n k) (f (Some v)) (f (slice_get xs k))
got_put f v [] n k below = absurd (omega arith)
got_put f v (x ∷ xs) zero zero below = refl
got_put f v (x ∷ xs) zero (suc k) below = ap (λ (b : Bool). cond b (f (Some v)) (f (slice_get xs k))) (sym (eqb-zero-suc k))
got_put f v (x ∷ xs) (suc n) zero below = ap (λ (b : Bool). cond b (f (Some v)) (f (Some x))) (sym (eqb-suc-zero n))
got_put f v (x ∷ xs) (suc n) (suc k) below = got_put f v xs n k (omega arith) ∙ ap (λ (b : Bool). cond b (f (Some v)) (f (slice_get xs k))) (sym (eqb-suc-suc n k))

at_end : {X Z : Type 0} (f : Option X → Z) (v : X) (xs : List X) (k : ℕ) → f (slice_get (xs ++ v ∷ []) k) ≡ cond (nat_eq (length xs) k) (f (Some v)) (f (slice_get xs k))
at_end f v [] zero = refl
at_end f v [] (suc k) = ap (λ (b : Bool). cond b (f (Some v)) (f None)) (sym (eqb-zero-suc k))
at_end f v (x ∷ xs) zero = ap (λ (b : Bool). cond b (f (Some v)) (f (Some x))) (sym (eqb-suc-zero (length xs)))
at_end f v (x ∷ xs) (suc k) = at_end f v xs k ∙ ap (λ (b : Bool). cond b (f (Some v)) (f (slice_get xs k))) (sym (eqb-suc-suc (length xs) k))

-- a value was added at the end
pub got_added : {X Z : Type 0} (f : Option X → Z) (v : X) (xs ys : List X) (n k : ℕ) → length xs ≡ n → ys ≡ xs ++ v ∷ [] → f (slice_get ys k) ≡ cond (nat_eq n k) (f (Some v)) (f (slice_get xs k))
got_added f v xs ys n k many adds =
    ap (λ (zs : List _). f (slice_get zs k)) adds ∙ at_end f v xs k ∙ ap (λ (m : ℕ). cond (nat_eq m k) (f (Some v)) (f (slice_get xs k))) many

seen_alike : {X Z : Type 0} (f : Option X → Z) (v : X) → f (Some v) ≡ f None → (xs : List X) (k : ℕ) → f (slice_get (xs ++ v ∷ []) k) ≡ f (slice_get xs k)
seen_alike f v none [] zero = none
seen_alike f v none [] (suc k) = refl
seen_alike f v none (x ∷ xs) zero = refl
seen_alike f v none (x ∷ xs) (suc k) = seen_alike f v none xs k

-- what was added is seen as nothing
pub got_padded : {X Z : Type 0} (f : Option X → Z) (v : X) (xs ys : List X) (k : ℕ) → f (Some v) ≡ f None → ys ≡ xs ++ v ∷ [] → f (slice_get ys k) ≡ f (slice_get xs k)
got_padded f v xs ys k none adds = ap (λ (zs : List _). f (slice_get zs k)) adds ∙ seen_alike f v none xs k
