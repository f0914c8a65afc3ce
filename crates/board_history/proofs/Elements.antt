-- The tests of code tell what they should.
use Rattle.std.proofs.Common.{◌≡◌, ◌⊎◌, inl, inr, true, [], ◌∷◌, refl, sym, ◌∙◌, subst, if◌then◌else◌}
use Rattle.std.proofs.lemmas.Bool.{and_from}
use Rattle.dataflow.specs.System.{In}
use Rattle.board_history.specs.Replay.{AreTests, HasOneValue, IsListing}
use Rattle.board_history.specs.Elements.{put_in, by_key, code_tests}
use Rattle.board_history.proofs.Tests.{choose}
use Rattle.task_code.proofs.Equal.{head_below, rising_tail, place_sound, place_same}
use Rattle.task_code.specs.Code.{Code}
use Rattle.task_code.specs.Compute.{Elements, in_key_order}
use Rattle.task_code.specs.System.{code_system}
use Rattle.values.proofs.Keys.{key_below-other, same_key-eq, same_key-refl}
use Rattle.values.specs.Keys.{key_below, same_key}
use Rattle.values.specs.declared.key.Key.{Key}
use Rattle.values.specs.declared.value.Scalar.{Scalar}

rising_cons : (y : Key × Scalar) (zs : Elements) → in_key_order zs ≡ true → ((p : Key × Scalar) → In p zs → key_below y.0 p.0 ≡ true) → in_key_order (y ∷ zs) ≡ true
rising_cons y [] h f = refl
rising_cons y (z ∷ zs) h f = and_from (key_below y.0 z.0) (in_key_order (z ∷ zs)) (f z (inl refl)) h

put_only : (e : Key × Scalar) (ys : Elements) (p : Key × Scalar) → In p (put_in e ys) → (p ≡ e) ⊎ In p ys
put_only e [] p = λ i. i
put_only e (y ∷ ys) p =
    choose (λ (l : Elements). In p l → (p ≡ e) ⊎ In p (y ∷ ys)) (key_below e.0 y.0) (e ∷ y ∷ ys) (if same_key e.0 y.0 then y ∷ ys else y ∷ put_in e ys)
    (λ t i. i)
    (λ t. choose (λ (l : Elements). In p l → (p ≡ e) ⊎ In p (y ∷ ys)) (same_key e.0 y.0) (y ∷ ys) (y ∷ put_in e ys)
    (λ u i. inr i)
    (λ u i. elim i [ inl x ↦ inr (inl x) | inr j ↦ elim (put_only e ys p j) [ inl x ↦ inl x | inr g ↦ inr (inr g) ] ]))

put_rising : (e : Key × Scalar) (ys : Elements) → in_key_order ys ≡ true → in_key_order (put_in e ys) ≡ true
put_rising e [] h = refl
put_rising e (y ∷ ys) h =
    choose (λ (l : Elements). in_key_order l ≡ true) (key_below e.0 y.0) (e ∷ y ∷ ys) (if same_key e.0 y.0 then y ∷ ys else y ∷ put_in e ys)
    (λ t. and_from (key_below e.0 y.0) (in_key_order (y ∷ ys)) t h)
    (λ t. choose (λ (l : Elements). in_key_order l ≡ true) (same_key e.0 y.0) (y ∷ ys) (y ∷ put_in e ys)
    (λ u. h)
    (λ u. rising_cons y (put_in e ys) (put_rising e ys (rising_tail y ys h))
    (λ p i. elim (put_only e ys p i) [ inl x ↦ subst (λ (z : Key × Scalar). key_below y.0 z.0 ≡ true) (sym x) (key_below-other e.0 y.0 u t) | inr j ↦ head_below y ys h p j ])))

put_all : (e : Key × Scalar) (ys : Elements) → ((v : Scalar) → In (e.0, v) ys → v ≡ e.1) → (p : Key × Scalar) → (p ≡ e) ⊎ In p ys → In p (put_in e ys)
put_all e [] same p i = i
put_all e (y ∷ ys) same p i =
    choose (λ (l : Elements). In p l) (key_below e.0 y.0) (e ∷ y ∷ ys) (if same_key e.0 y.0 then y ∷ ys else y ∷ put_in e ys)
    (λ t. i)
    (λ t. choose (λ (l : Elements). In p l) (same_key e.0 y.0) (y ∷ ys) (y ∷ put_in e ys)
    (λ u. let k = same_key-eq e.0 y.0 u in
    let v : y.1 ≡ e.1 = same y.1 (inl (λ j. (k j, y.1))) in
    let q : ◌≡◌ {A = Key × Scalar} e y = λ j. (k j, sym v j) in
    elim i [ inl x ↦ inl (x ∙ q) | inr j ↦ j ])
    (λ u. elim i [
      | inl x ↦ inr (put_all e ys (λ v g. same v (inr g)) p (inl x))
      | inr j ↦ elim j [ inl x ↦ inl x | inr g ↦ inr (put_all e ys (λ v k. same v (inr k)) p (inr g)) ]
    ]))

key_listed : (xs : Elements) → HasOneValue xs → IsListing in_key_order xs (by_key xs)
key_listed [] one = record { in_order = refl; all = λ p i. i; only = λ p i. i }
key_listed (x ∷ xs) one =
    let r = key_listed xs (λ k v w i j. one k v w (inr i) (inr j)) in
    record {
      in_order = put_rising x (by_key xs) r.in_order;
      all = λ p i. put_all x (by_key xs) (λ v j. one x.0 v x.1 (inr (r.only (x.0, v) j)) (inl refl)) p (elim i [ inl q ↦ inl q | inr j ↦ inr (r.all p j) ]);
      only = λ p i. elim (put_only x (by_key xs) p i) [ inl q ↦ inl q | inr j ↦ inr (r.only p j) ];
    }

pub code_told : (C : Code) → AreTests (code_system C) code_tests
code_told C = record { place_sound = place_sound; place_same = place_same; key_sound = same_key-eq; key_same = same_key-refl; listed = key_listed }
