-- The answers that are told are those that are seen.
use Rattle.std.proofs.Common.{◌≡◌, inl, inr, Bool, true, false, List, [], ◌∷◌, refl, sym, ap, ◌∙◌, subst, Option, None, Some}
use Rattle.dataflow.specs.System.{In, Input, StoredScalar, ClosedArray, ElementOf, ElementAt, Answer, Found, Missing, Content, System}
use Rattle.dataflow.specs.Machine.{State, Holds, IsElementKnown, IsKnown, SeesElement, Sees, SeesAll}
use Rattle.board_history.specs.Replay.{Tests, AreTests, both, is_closed, value_at, elements_at, scalar_answer, element_answer, array_answer, keyed_answer, answer, answers}
use Rattle.board_history.proofs.Tests.{yes_no, none_some, value_held, held_value, element_held, held_element, closed_sound, closed_told}

module _ {T D K V E : Type 0} (S : System T D K V E) (X : Tests D K V) (R : AreTests S X) (s : State T D K V E) where
  -- a key of a place has one value
  abbrev pub OneValue : Type 0
  OneValue = (a : D) (k : K) (v w : V) → Holds S s a k v → Holds S s a k w → v ≡ w

  module _ (one : OneValue) where
    scalar_sees : (d : D) (r : Option V) (x : Answer K V) → value_at S X s.stored d S.only ≡ r → scalar_answer S X r ≡ Some x → Sees S s (StoredScalar d) x
    scalar_sees d None x q h = none_some h
    scalar_sees d (Some v) x q h = (v, value_held S X R s.stored d S.only v q, (cc))

    element_sees : (a : D) (k : K) (r : Option V) (b : Bool) (x : Answer K V) → value_at S X s.stored a k ≡ r → is_closed S X s a ≡ b → element_answer S X r b ≡ Some x → SeesElement S s a k x
    element_sees a k (Some v) b x q c h =
        let e : Found v ≡ x = cc in
        subst (λ (y : Answer K V). SeesElement S s a k y) e (value_held S X R s.stored a k v q)
    element_sees a k None true x q c h =
        let e : Missing ≡ x = cc in
        subst (λ (y : Answer K V). SeesElement S s a k y) e (record { closed = closed_sound S X R s a c; none = λ v i. (let u = held_value S X R s.stored a k v i in none_some (sym q ∙ u.1)) })
    element_sees a k None false x q c h = none_some h

    array_sees : (a : D) (b : Bool) (x : Answer K V) → is_closed S X s a ≡ b → array_answer S X b (X.listing (elements_at S X s.stored a)) ≡ Some x → Sees S s (ClosedArray a) x
    array_sees a true x c h =
        let l = R.listed (elements_at S X s.stored a) (λ k v w i j. one a k v w (element_held S X R s.stored a k v i) (element_held S X R s.stored a k w j)) in (
          X.listing (elements_at S X s.stored a),
          record { closed = closed_sound S X R s a c; in_order = l.in_order; all = λ k v i. l.all (k, v) (held_element S X R s.stored a k v i); only = λ k v i. element_held S X R s.stored a k v (l.only (k, v) i) },
          (cc),
        )
    array_sees a false x c h = none_some h

    keyed_sees : (a d : D) (r : Option V) (x : Answer K V) → value_at S X s.stored d S.only ≡ r → keyed_answer S X s a r ≡ Some x → Sees S s (ElementAt a d) x
    keyed_sees a d None x q h = none_some h
    keyed_sees a d (Some v) x q h =
        (v, value_held S X R s.stored d S.only v q, element_sees a (S.key_of v) (value_at S X s.stored a (S.key_of v)) (is_closed S X s a) x refl refl h)

    pub answer_sees : (i : Input D K) (x : Answer K V) → answer S X s i ≡ Some x → Sees S s i x
    answer_sees (StoredScalar d) x h = scalar_sees d (value_at S X s.stored d S.only) x refl h
    answer_sees (ClosedArray a) x h = array_sees a (is_closed S X s a) x refl h
    answer_sees (ElementOf a k) x h = element_sees a k (value_at S X s.stored a k) (is_closed S X s a) x refl refl h
    answer_sees (ElementAt a d) x h = keyed_sees a d (value_at S X s.stored d S.only) x refl h

    both_is : {A : Type 0} (r : Option A) (rs : Option (List A)) (xs : List A) → both r rs ≡ Some xs → (x : A) × (ys : List A) × (r ≡ Some x) × (rs ≡ Some ys) × (x ∷ ys ≡ xs)
    both_is None rs xs h = none_some h
    both_is (Some x) None xs h = none_some h
    both_is (Some x) (Some ys) xs h = (x, ys, refl, refl, (cc))

    -- the answers that are told are seen
    pub answers_see : (is : List (Input D K)) (xs : List (Answer K V)) → answers S X s is ≡ Some xs → SeesAll S s is xs
    answers_see [] xs h = let e : [] ≡ xs = cc in subst (λ (l : List (Answer K V)). SeesAll S s [] l) e tt
    answers_see (i ∷ is) xs h =
        let r = both_is (answer S X s i) (answers S X s is) xs h in
        subst (λ (l : List (Answer K V)). SeesAll S s (i ∷ is) l) r.4 (answer_sees i r.0 r.2, answers_see is r.1 r.3)

    -- what is known has an answer
    element_told : (a : D) (k : K) (r : Option V) (b : Bool) → value_at S X s.stored a k ≡ r → is_closed S X s a ≡ b → IsElementKnown S s a k → (x : Answer K V) × (element_answer S X r b ≡ Some x)
    element_told a k (Some v) b q c h = (Found v, refl)
    element_told a k None true q c h = (Missing, refl)
    element_told a k None false q c (inl h) =
        let u = held_value S X R s.stored a k h.0 h.1 in
        none_some (subst (λ (z : Option V). z ≡ Some u.0) q u.1)
    element_told a k None false q c (inr h) = yes_no (closed_told S X R s a h) c

    told : (i : Input D K) → IsKnown S s i → (x : Answer K V) × (answer S X s i ≡ Some x)
    told (StoredScalar d) h = let u = held_value S X R s.stored d S.only h.0 h.1 in (Found u.0, ap (scalar_answer S X) u.1)
    told (ClosedArray a) h =
        (Content (X.listing (elements_at S X s.stored a)), ap (λ (b : Bool). array_answer S X b (X.listing (elements_at S X s.stored a))) (closed_told S X R s a h))
    told (ElementOf a k) h = element_told a k (value_at S X s.stored a k) (is_closed S X s a) refl refl h
    told (ElementAt a d) h =
        let u = held_value S X R s.stored d S.only h.0 h.1 in
        let same : h.0 ≡ u.0 = one d S.only h.0 u.0 h.1 (value_held S X R s.stored d S.only u.0 u.1) in
        let r = element_told a (S.key_of u.0) (value_at S X s.stored a (S.key_of u.0)) (is_closed S X s a) refl refl (subst (λ (v : V). IsElementKnown S s a (S.key_of v)) same h.2) in
        (r.0, subst (λ (z : Option V). keyed_answer S X s a z ≡ Some r.0) (sym u.1) r.1)

    pub all_told : (is : List (Input D K)) → ((n : Input D K) → In n is → IsKnown S s n) → (xs : List (Answer K V)) × (answers S X s is ≡ Some xs)
    all_told [] h = ([], refl)
    all_told (i ∷ is) h =
        let x = told i (h i (inl refl)) in
        let r = all_told is (λ n j. h n (inr j)) in
        (x.0 ∷ r.0, λ t. both (x.1 t) (r.1 t))

  -- what is seen is known
  element_known : (a : D) (k : K) (x : Answer K V) → SeesElement S s a k x → IsElementKnown S s a k
  element_known a k (Found v) h = inl (v, h)
  element_known a k Missing h = inr h.closed
  element_known a k (Content xs) h = absurd h

  known : (i : Input D K) (x : Answer K V) → Sees S s i x → IsKnown S s i
  known (StoredScalar d) x h = (h.0, h.1)
  known (ClosedArray a) x h = h.1.closed
  known (ElementOf a k) x h = element_known a k x h
  known (ElementAt a d) x h = (h.0, h.1, element_known a (S.key_of h.0) x h.2)

  pub all_known : (is : List (Input D K)) (xs : List (Answer K V)) → SeesAll S s is xs → (n : Input D K) → In n is → IsKnown S s n
  all_known [] xs h n i = absurd i
  all_known (j ∷ is) [] h n i = absurd h
  all_known (j ∷ is) (x ∷ xs) h n i = elim i [ inl p ↦ subst (λ (z : Input D K). IsKnown S s z) (sym p) (known j x h.0) | inr g ↦ all_known is xs h.1 n g ]
