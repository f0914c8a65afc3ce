-- The keys of a set as one is inserted, where equal keys are the same.
use Rattle.std.proofs.Common.{◌≡◌, ◌⊎◌, inl, inr, Bool, true, false, ◌||◌, List, [], ◌∷◌, ◌++◌, refl, sym, ap, subst, ◌∙◌, if◌then◌else◌, true≢false}
use Rattle.std.specs.List.{AllByRecursion, IsDistinct, list_any}
use Rattle.std.proofs.Math.Bool.{beq}
use Rattle.indexmap.specs.IndexSet.{insert_key}
use Rattle.dataflow.specs.System.{Distinct, In}
use Rattle.dataflow.proofs.Lists.{in_left, in_right, in_split}

pub same_flag : (a b : Bool) → beq a b ≡ true → a ≡ b
same_flag true true h = refl
same_flag false false h = refl
same_flag true false h = absurd (cc)
same_flag false true h = absurd (cc)

module _ {K : Type 0} (eq : K → K → Bool) (is_same : (a b : K) → eq a b ≡ true → a ≡ b) where
  pub any_in : (k : K) (ks : List K) → list_any (eq k) ks ≡ true → In k ks
  any_in k [] h = absurd (true≢false (sym h))
  any_in k (m ∷ ms) h = by (eq k m) refl (any_in k ms)
    where
      by : (b : Bool) → eq k m ≡ b → (list_any (eq k) ms ≡ true → In k ms) → In k (m ∷ ms)
      by true e rest = inl (is_same k m e)
      by false e rest = inr (rest (sym (ap (λ c. c || list_any (eq k) ms) e) ∙ h))

  pub put_there : (ks : List K) (k : K) → In k (insert_key eq ks k)
  put_there ks k = by (list_any (eq k) ks) refl
    where
      by : (b : Bool) → list_any (eq k) ks ≡ b → In k (insert_key eq ks k)
      by true e = subst (λ b. In k (if b then ks else ks ++ k ∷ [])) (sym e) (any_in k ks e)
      by false e = subst (λ b. In k (if b then ks else ks ++ k ∷ [])) (sym e) (in_right k ks (k ∷ []) (inl refl))

  pub put_kept : (ks : List K) (k m : K) → In m ks → In m (insert_key eq ks k)
  put_kept ks k m t = by (list_any (eq k) ks)
    where
      by : (b : Bool) → In m (if b then ks else ks ++ k ∷ [])
      by true = t
      by false = in_left m ks (k ∷ []) t

  pub put_only : (ks : List K) (k m : K) → In m (insert_key eq ks k) → In m ks ⊎ (m ≡ k)
  put_only ks k m = by (list_any (eq k) ks)
    where
      by : (b : Bool) → In m (if b then ks else ks ++ k ∷ []) → In m ks ⊎ (m ≡ k)
      by true t = inl t
      by false t = elim (in_split m ks (k ∷ []) t) [ inl u ↦ inl u | inr u ↦ elim u [ inl e ↦ inr e | inr f ↦ absurd f ] ]

module _ {K : Type 0} (eq : K → K → Bool) (same_self : (a : K) → eq a a ≡ true) where
  pub in_any : (k : K) (ks : List K) → In k ks → list_any (eq k) ks ≡ true
  in_any k [] t = absurd t
  in_any k (m ∷ ms) (inl e) = ap (λ b. b || list_any (eq k) ms) (subst (λ n. eq k n ≡ true) e (same_self k))
  in_any k (m ∷ ms) (inr t) = by (eq k m) (in_any k ms t)
    where
      by : (b : Bool) → list_any (eq k) ms ≡ true → (b || list_any (eq k) ms) ≡ true
      by true h = refl
      by false h = h

  -- keys none of which is equal to one after it are distinct
  apart_out : (k : K) (ks : List K) → AllByRecursion (λ m. eq k m ≡ false) ks → In k ks → ⊥
  apart_out k [] h t = t
  apart_out k (m ∷ ms) h (inl e) = true≢false (sym (same_self k) ∙ subst (λ n. eq k n ≡ false) (sym e) h.0)
  apart_out k (m ∷ ms) h (inr t) = apart_out k ms h.1 t

  pub distinct_keys : (ks : List K) → IsDistinct eq ks → Distinct ks
  unfolding IsDistinct
  distinct_keys [] h = tt
  distinct_keys (k ∷ ks) h = (apart_out k ks h.0, distinct_keys ks h.1)
