-- Lists by number as values are put into them.
use Rattle.std.proofs.Common.{◌≡◌, ◌⊎◌, inl, inr, ℕ, zero, suc, ◌<◌, ◌≤◌, List, [], ◌∷◌, ◌++◌, map, length, get_or, slice_set, Vec, Global, refl, sym, ap, subst, ◌∙◌, arith}
use Rattle.dataflow.specs.System.{In}
use Rattle.dataflow.proofs.Lists.{in_left, in_right, in_split}
use Rattle.ref_counting.specs.Rows.{row, Fills, put_in}

-- ROWS OF VECTORS

module _ {X : Type 0} where
  abbrev pub rows_of : List (Vec X Global) → List (List X)
  rows_of vs = map (λ (v : Vec X Global). v.items) vs

  pub row_past : (vs : List (Vec X Global)) (k : ℕ) → length vs ≤ k → [] ≡ row (rows_of vs) k
  row_past [] k h = refl
  row_past (v ∷ vs) zero h = absurd (omega arith)
  row_past (v ∷ vs) (suc k) h = row_past vs k (omega arith)

  pub row_there : (vs : List (Vec X Global)) (k : ℕ) (d : Vec X Global) → k < length vs → (get_or vs k d).items ≡ row (rows_of vs) k
  row_there [] k d h = absurd (omega arith)
  row_there (v ∷ vs) zero d h = refl
  row_there (v ∷ vs) (suc k) d h = row_there vs k d (omega arith)

  pub row_empty : (vs : List (Vec X Global)) (v : Vec X Global) → v.items ≡ [] → ((k : ℕ) → row (rows_of vs) k ≡ []) → (k : ℕ) → row (rows_of (vs ++ v ∷ [])) k ≡ []
  row_empty [] v e h zero = e
  row_empty [] v e h (suc k) = refl
  row_empty (w ∷ ws) v e h zero = h zero
  row_empty (w ∷ ws) v e h (suc k) = row_empty ws v e (λ j. h (suc j)) k

  -- GROWTH

  pub fills_not : {P : ℕ → X → Type 0} (a : List (List X)) → Fills P a a
  fills_not a = record { count = refl; kept = λ k x t. t; only = λ k x t. inl t }

  pub fills_on : {P Q : ℕ → X → Type 0} {a b c : List (List X)} → ((k : ℕ) (x : X) → Q k x → P k x) → Fills P a b → Fills Q b c → Fills P a c
  fills_on {P} {Q} {a} {b} {c} weaken f g = record { count = g.count ∙ f.count; kept = λ k x t. g.kept k x (f.kept k x t); only = only }
    where
      only : (k : ℕ) (x : X) → In x (row c k) → In x (row a k) ⊎ P k x
      only k x t = elim (g.only k x t) [ inl u ↦ f.only k x u | inr q ↦ inr (weaken k x q) ]

  -- A VALUE IS PUT BEHIND A LIST

  pub put_count : (rs : List (List X)) (n : ℕ) (x : X) → length (put_in rs n x) ≡ length rs
  put_count [] n x = refl
  put_count (r ∷ rs) zero x = refl
  put_count (r ∷ rs) (suc n) x = ap suc (put_count rs n x)

  pub put_here : (rs : List (List X)) (n : ℕ) (x : X) → n < length rs → row (put_in rs n x) n ≡ row rs n ++ x ∷ []
  put_here [] n x h = absurd (omega arith)
  put_here (r ∷ rs) zero x h = refl
  put_here (r ∷ rs) (suc n) x h = put_here rs n x (omega arith)

  -- every list is as it was, or is that of the number and has the value behind it
  pub put_row : (rs : List (List X)) (n : ℕ) (x : X) (k : ℕ) → (row (put_in rs n x) k ≡ row rs k) ⊎ ((k ≡ n) × (row (put_in rs n x) k ≡ row rs k ++ x ∷ []))
  put_row [] n x k = inl refl
  put_row (r ∷ rs) zero x zero = inr (refl, refl)
  put_row (r ∷ rs) zero x (suc k) = inl refl
  put_row (r ∷ rs) (suc n) x zero = inl refl
  put_row (r ∷ rs) (suc n) x (suc k) = elim (put_row rs n x k) [ inl e ↦ inl e | inr q ↦ inr (ap suc q.0, q.1) ]

  pub put_there : (rs : List (List X)) (n : ℕ) (x : X) → n < length rs → In x (row (put_in rs n x) n)
  put_there rs n x h = subst (In x) (sym (put_here rs n x h)) (in_right x (row rs n) (x ∷ []) (inl refl))

  pub put_fills : (rs : List (List X)) (n : ℕ) (x : X) → Fills (λ k y. (k ≡ n) × (y ≡ x)) rs (put_in rs n x)
  put_fills rs n x = record { count = put_count rs n x; kept = kept; only = only }
    where
      kept : (k : ℕ) (y : X) → In y (row rs k) → In y (row (put_in rs n x) k)
      kept k y t = elim (put_row rs n x k) [ inl e ↦ subst (In y) (sym e) t | inr q ↦ subst (In y) (sym q.1) (in_left y (row rs k) (x ∷ []) t) ]

      behind : (k : ℕ) (y : X) → k ≡ n → In y (row rs k) ⊎ In y (x ∷ []) → In y (row rs k) ⊎ ((k ≡ n) × (y ≡ x))
      behind k y e (inl u) = inl u
      behind k y e (inr (inl s)) = inr (e, s)
      behind k y e (inr (inr f)) = absurd f

      only : (k : ℕ) (y : X) → In y (row (put_in rs n x) k) → In y (row rs k) ⊎ ((k ≡ n) × (y ≡ x))
      only k y t = elim (put_row rs n x k) [ inl e ↦ inl (subst (In y) e t) | inr q ↦ behind k y q.0 (in_split y (row rs k) (x ∷ []) (subst (In y) q.1 t)) ]

  -- IN VECTORS

  pub puts_here : (vs : List (Vec X Global)) (n : ℕ) (x : X) (w : Vec X Global) (d : Vec X Global) → n < length vs → w.items ≡ (get_or vs n d).items ++ x ∷ [] → rows_of (slice_set vs n w) ≡ put_in (rows_of vs) n x
  puts_here [] n x w d h e = absurd (omega arith)
  puts_here (v ∷ vs) zero x w d h e = ap (λ r. r ∷ rows_of vs) e
  puts_here (v ∷ vs) (suc n) x w d h e = ap (λ rs. v.items ∷ rs) (puts_here vs n x w d (omega arith) e)

  pub puts_nowhere : (vs : List (Vec X Global)) (n : ℕ) (x : X) → length vs ≤ n → rows_of vs ≡ put_in (rows_of vs) n x
  puts_nowhere [] n x h = refl
  puts_nowhere (v ∷ vs) zero x h = absurd (omega arith)
  puts_nowhere (v ∷ vs) (suc n) x h = ap (λ rs. v.items ∷ rs) (puts_nowhere vs n x (omega arith))
