-- The elements of an array can be listed by rising keys.
use Rattle.std.proofs.Common.{◌≡◌, ◌⊎◌, inl, inr, true, [], ◌∷◌, refl, sym, ◌∙◌, subst}
use Rattle.std.specs.Prelude.{Bool, false}
use Rattle.std.proofs.lemmas.Bool.{and_from}
use Rattle.dataflow.specs.System.{In}
use Rattle.task_code.proofs.Equal.{head_below, rising_tail}
use Rattle.task_code.specs.Compute.{Elements, in_key_order}
use Rattle.values.specs.Keys.{key_below, same_key}
use Rattle.values.specs.Values.{same}
use Rattle.values.specs.declared.key.Key.{Key}
use Rattle.values.specs.declared.value.Scalar.{Scalar}
use Rattle.values.proofs.Keys.{same_key-eq, key_below-other}

order_or : (a b : Key) (x y : Bool) → same_key a b ≡ x → key_below a b ≡ y → (key_below a b ≡ true) ⊎ (a ≡ b) ⊎ (key_below b a ≡ true)
order_or a b true y p q = inr (inl (same_key-eq a b p))
order_or a b false true p q = inl q
order_or a b false false p q = inr (inr (key_below-other a b p q))

key_order : (a b : Key) → (key_below a b ≡ true) ⊎ (a ≡ b) ⊎ (key_below b a ≡ true)
key_order a b = order_or a b (same_key a b) (key_below a b) refl refl

rising_cons : (y : Key × Scalar) (zs : Elements) → in_key_order zs ≡ true → ((p : Key × Scalar) → In p zs → key_below y.0 p.0 ≡ true) → in_key_order (y ∷ zs) ≡ true
rising_cons y [] h f = refl
rising_cons y (z ∷ zs) h f = and_from (key_below y.0 z.0) (in_key_order (z ∷ zs)) (f z (inl refl)) h

-- with one element more
record Inserted (e : Key × Scalar) (ys : Elements) : Type 0 where
  list : Elements
  rising : in_key_order list ≡ true
  only : (p : Key × Scalar) → In p list → (p ≡ e) ⊎ In p ys
  all : (p : Key × Scalar) → (p ≡ e) ⊎ In p ys → In p list

insert : (e : Key × Scalar) (ys : Elements) → in_key_order ys ≡ true → ((v : Scalar) → In (e.0, v) ys → v ≡ e.1) → Inserted e ys
insert e [] h same = record { list = e ∷ []; rising = refl; only = λ p i. i; all = λ p i. i }
insert e (y ∷ ys) h same = by (key_order e.0 y.0) (insert e ys (rising_tail y ys h) (λ v i. same v (inr i)))
  where
    by : ((key_below e.0 y.0 ≡ true) ⊎ (e.0 ≡ y.0) ⊎ (key_below y.0 e.0 ≡ true)) → Inserted e ys → Inserted e (y ∷ ys)
    by (inl b) r = record { list = e ∷ y ∷ ys; rising = and_from (key_below e.0 y.0) (in_key_order (y ∷ ys)) b h; only = λ p i. i; all = λ p i. i }
    by (inr (inl k)) r =
        let v : y.1 ≡ e.1 = same y.1 (inl (λ i. (k i, y.1))) in
        let q : ◌≡◌ {A = Key × Scalar} e y = λ i. (k i, sym v i) in
        record { list = y ∷ ys; rising = h; only = λ p i. inr i; all = λ p i. elim i [ inl x ↦ inl (x ∙ q) | inr j ↦ j ] }
    by (inr (inr b)) r = record {
      list = y ∷ r.list;
      rising = rising_cons y r.list r.rising (λ p i. elim (r.only p i) [ inl x ↦ subst (λ (z : Key × Scalar). key_below y.0 z.0 ≡ true) (sym x) b | inr j ↦ head_below y ys h p j ]);
      only = λ p i. elim i [ inl x ↦ inr (inl x) | inr j ↦ elim (r.only p j) [ inl x ↦ inl x | inr g ↦ inr (inr g) ] ];
      all = λ p i. elim i [ inl x ↦ inr (r.all p (inl x)) | inr j ↦ elim j [ inl x ↦ inl x | inr g ↦ inr (r.all p (inr g)) ] ];
    }

pub code_listed : (xs : Elements) → ((k : Key) (v w : Scalar) → In (k, v) xs → In (k, w) xs → v ≡ w) → (ys : Elements) × (in_key_order ys ≡ true) × ((p : Key × Scalar) → In p xs → In p ys) × ((p : Key × Scalar) → In p ys → In p xs)
code_listed [] one = ([], refl, (λ p h. h), (λ p h. h))
code_listed (x ∷ xs) one =
    let r = code_listed xs (λ k v w h g. one k v w (inr h) (inr g)) in
    let n = insert x r.0 r.1 (λ v i. one x.0 v x.1 (inr (r.3 (x.0, v) i)) (inl refl)) in
    (n.list, n.rising, (λ p h. n.all p (elim h [ inl q ↦ inl q | inr i ↦ inr (r.2 p i) ])), (λ p h. elim (n.only p h) [ inl q ↦ inl q | inr i ↦ inr (r.3 p i) ]))
