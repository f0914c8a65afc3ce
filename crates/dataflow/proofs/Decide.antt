-- What can be told of a list: where a member stands, whether a key is stored, who uses a place.
use Rattle.std.proofs.Common.{◌≡◌, ◌⊎◌, inl, inr, ◌≤◌, Bool, true, false, List, [], ◌∷◌, ◌++◌, refl, sym, ap, ◌∙◌, subst, length, arith, length-append}
use Rattle.dataflow.specs.System.{In, Distinct, Write, Effect, System}
use Rattle.dataflow.specs.Laws.{Laws}
use Rattle.dataflow.specs.Machine.{Item, State, Holds, Clashes}
use Rattle.dataflow.proofs.Lists.{in_seam}
use Rattle.dataflow.proofs.Follows.{Uses}

-- a member stands somewhere
pub place_of : {X : Type 0} (x : X) (xs : List X) → In x xs → (before : List X) × (after : List X) × (xs ≡ before ++ x ∷ after)
place_of x [] h = absurd h
place_of {X} x (y ∷ xs) h =
    elim h [
      | inl p ↦ ([], xs, ap (λ (z : X). z ∷ xs) (sym p))
      | inr i ↦ (let r = place_of x xs i in (y ∷ r.0, r.1, ap (λ (l : List X). y ∷ l) r.2))
    ]

-- different members of a list are no more than the list has
pub distinct_within : {X : Type 0} (xs ys : List X) → Distinct xs → ((x : X) → In x xs → In x ys) → length xs ≤ length ys
distinct_within [] ys d f = omega arith
distinct_within {X} (x ∷ xs) ys d f =
    let p = place_of x ys (f x (inl refl)) in
    let rest = distinct_within xs (p.0 ++ p.1) d.1 (λ y i. other p.0 p.1 y i (in_seam y x p.0 p.1 (subst (λ (l : List X). In y l) p.2 (f y (inr i))))) in
    let e = ap length p.2 in
    omega (arith, length-append p.0 p.1, length-append p.0 (x ∷ p.1))
  where
    other : (before after : List X) (y : X) → In y xs → In y (before ++ after) ⊎ (y ≡ x) → In y (before ++ after)
    other before after y i (inl h) = h
    other before after y i (inr q) = absurd (d.0 (subst (λ (z : X). In z xs) q i))

module _ {T D K V E : Type 0} (S : System T D K V E) (L : Laws S) where
  -- whether a key is there
  pub value_is : (a : D) (k : K) (ws : List (Write D K V)) → ((v : V) × In (record { place = a; key = k; value = v }) ws) ⊎ ((v : V) → In (record { place = a; key = k; value = v }) ws → ⊥)
  value_is a k [] = inr (λ v h. h)
  value_is a k (w ∷ ws) = by_same (L.place_is a w.place) (L.key_is k w.key) (value_is a k ws)
    where
      There : Type 0
      There = (v : V) × In (record { place = a; key = k; value = v }) (w ∷ ws)

      by_same : ((a ≡ w.place) ⊎ (a ≡ w.place → ⊥)) → ((k ≡ w.key) ⊎ (k ≡ w.key → ⊥)) → (((v : V) × In (record { place = a; key = k; value = v }) ws) ⊎ ((v : V) → In (record { place = a; key = k; value = v }) ws → ⊥)) → ((v : V) × In (record { place = a; key = k; value = v }) (w ∷ ws)) ⊎ ((v : V) → In (record { place = a; key = k; value = v }) (w ∷ ws) → ⊥)
      by_same p q (inl x) = inl (x.0, inr x.1)
      by_same (inl p) (inl q) (inr n) = inl (w.value, inl (λ i. record { place = p i; key = q i; value = w.value }))
      by_same (inr p) q (inr n) = inr (λ v h. elim h [ inl e ↦ p (ap (λ (x : Write D K V). x.place) e) | inr i ↦ n v i ])
      by_same (inl p) (inr q) (inr n) = inr (λ v h. elim h [ inl e ↦ q (ap (λ (x : Write D K V). x.key) e) | inr i ↦ n v i ])

  array_is : (b : Bool) → (b ≡ true) ⊎ (b ≡ true → ⊥)
  array_is true = inl refl
  array_is false = inr (λ h. (let n : ⊥ = cc in n))

  ClashIn : State T D K V E → List (Write D K V) → Type 0
  ClashIn s ws = (a : D) × (k : K) × (v : V) × (w : V) × (S.is_array a ≡ true) × In (record { place = a; key = k; value = v }) ws × Holds S s a k w

  -- whether an effect writes a key that is there
  clash_is : (s : State T D K V E) (ws : List (Write D K V)) → ClashIn s ws ⊎ (ClashIn s ws → ⊥)
  unfolding ClashIn
  clash_is s [] = inr (λ x. x.5)
  clash_is s (w ∷ ws) = by_kind (array_is (S.is_array w.place)) (value_is w.place w.key s.stored) (clash_is s ws)
    where
      by_kind : ((S.is_array w.place ≡ true) ⊎ (S.is_array w.place ≡ true → ⊥)) → (((v : V) × In (record { place = w.place; key = w.key; value = v }) s.stored) ⊎ ((v : V) → In (record { place = w.place; key = w.key; value = v }) s.stored → ⊥)) → (ClashIn s ws ⊎ (ClashIn s ws → ⊥)) → ClashIn s (w ∷ ws) ⊎ (ClashIn s (w ∷ ws) → ⊥)
      by_kind p q (inl x) = inl (x.0, x.1, x.2, x.3, x.4, inr x.5, x.6)
      by_kind (inl p) (inl q) (inr n) = inl (w.place, w.key, w.value, q.0, p, inl refl, q.1)
      by_kind (inr p) q (inr n) =
          inr (λ x. elim x.5 [ inl e ↦ p (sym (ap (λ (y : Write D K V). S.is_array y.place) e) ∙ x.4) | inr i ↦ n (x.0, x.1, x.2, x.3, x.4, i, x.6) ])
      by_kind (inl p) (inr q) (inr n) =
          inr (λ x. elim x.5 [ inl e ↦ q x.3 (subst (λ (y : Write D K V). In (record { place = y.place; key = y.key; value = x.3 }) s.stored) e x.6) | inr i ↦ n (x.0, x.1, x.2, x.3, x.4, i, x.6) ])

  pub clashes_is : (s : State T D K V E) (e : Effect T D K V) → Clashes S s e ⊎ (Clashes S s e → ⊥)
  unfolding ClashIn
  clashes_is s e = clash_is s e.writes

  -- the elements of one place
  pub content_of : (a : D) (ws : List (Write D K V)) → (xs : List (K × V)) × ((k : K) (v : V) → In (record { place = a; key = k; value = v }) ws → In (k, v) xs) × ((k : K) (v : V) → In (k, v) xs → In (record { place = a; key = k; value = v }) ws)
  content_of a [] = ([], (λ k v h. h), (λ k v h. h))
  content_of a (w ∷ ws) = by (L.place_is a w.place) (content_of a ws)
    where
      by : ((a ≡ w.place) ⊎ (a ≡ w.place → ⊥)) → ((xs : List (K × V)) × ((k : K) (v : V) → In (record { place = a; key = k; value = v }) ws → In (k, v) xs) × ((k : K) (v : V) → In (k, v) xs → In (record { place = a; key = k; value = v }) ws)) → (xs : List (K × V)) × ((k : K) (v : V) → In (record { place = a; key = k; value = v }) (w ∷ ws) → In (k, v) xs) × ((k : K) (v : V) → In (k, v) xs → In (record { place = a; key = k; value = v }) (w ∷ ws))
      by (inl p) r = (
        (w.key, w.value) ∷ r.0,
        (λ k v h. elim h [ inl e ↦ inl (ap (λ (y : Write D K V). (y.key, y.value)) e) | inr i ↦ inr (r.1 k v i) ]),
        (λ k v h. elim h [ inl q ↦ inl (λ i. record { place = p i; key = (q i).0; value = (q i).1 }) | inr i ↦ inr (r.2 k v i) ]),
      )
      by (inr n) r = (
        r.0,
        (λ k v h. elim h [ inl e ↦ absurd (n (ap (λ (y : Write D K V). y.place) e)) | inr i ↦ r.1 k v i ]),
        (λ k v h. inr (r.2 k v h)),
      )

  pub in_is : (a : D) (ds : List D) → In a ds ⊎ (In a ds → ⊥)
  in_is a [] = inr (λ h. h)
  in_is a (d ∷ ds) = by (L.place_is a d) (in_is a ds)
    where
      by : ((a ≡ d) ⊎ (a ≡ d → ⊥)) → (In a ds ⊎ (In a ds → ⊥)) → In a (d ∷ ds) ⊎ (In a (d ∷ ds) → ⊥)
      by (inl p) r = inl (inl p)
      by (inr n) (inl i) = inl (inr i)
      by (inr n) (inr m) = inr (λ h. elim h [ inl p ↦ n p | inr i ↦ m i ])

  uses_is : (t : T) (a : D) → Uses S t a ⊎ (Uses S t a → ⊥)
  uses_is t a = by (in_is a (S.may_read t)) (in_is a (S.may_write t))
    where
      by : (In a (S.may_read t) ⊎ (In a (S.may_read t) → ⊥)) → (In a (S.may_write t) ⊎ (In a (S.may_write t) → ⊥)) → Uses S t a ⊎ (Uses S t a → ⊥)
      by (inl i) r = inl (inl i)
      by (inr n) (inl i) = inl (inr i)
      by (inr n) (inr m) = inr (λ u. elim u [ inl i ↦ n i | inr i ↦ m i ])

  pub user_is : (a : D) (items : List (Item T)) → ((i : Item T) × In i items × Uses S i.task a) ⊎ ((i : Item T) → In i items → Uses S i.task a → ⊥)
  user_is a [] = inr (λ i h u. h)
  user_is a (j ∷ items) = by (uses_is j.task a) (user_is a items)
    where
      by : (Uses S j.task a ⊎ (Uses S j.task a → ⊥)) → (((i : Item T) × In i items × Uses S i.task a) ⊎ ((i : Item T) → In i items → Uses S i.task a → ⊥)) → ((i : Item T) × In i (j ∷ items) × Uses S i.task a) ⊎ ((i : Item T) → In i (j ∷ items) → Uses S i.task a → ⊥)
      by (inl u) r = inl (j, inl refl, u)
      by (inr n) (inl x) = inl (x.0, inr x.1, x.2)
      by (inr n) (inr m) = inr (λ i h u. elim h [ inl p ↦ n (subst (λ (y : Item T). Uses S y.task a) p u) | inr g ↦ m i g u ])
