-- Elements put by rising key, the first of each key.
use Rattle.std.specs.Prelude.{◌≡◌, ◌⊎◌, IsTrue, List, [], ◌∷◌, Option, Some, None, refl}
use Rattle.std.proofs.Common.{inl, inr, sym, subst}
use Rattle.std.proofs.lemmas.Bool.{cases_Bool}
use Rattle.values.specs.declared.key.Key.{Key}
use Rattle.values.specs.declared.map.Element.{Element}
use Rattle.values.specs.declared.value.Scalar.{Scalar}
use Rattle.values.specs.Keys.{same_key}
use Rattle.values.specs.Maps.{rising, found, inserted, element as entry}
use Rattle.values.proofs.Keys.{same_key-eq}
use Rattle.values.proofs.Maps.{rising-inserted}
use Rattle.language.specs.Members.{◌∈◌, first, later}
use Rattle.language.proofs.Members.{split_in}
use Rattle.language_laws.proofs.Rising.{rising_same, rising_once}
use Rattle.language_laws.proofs.Sorted.{sorted, sorted_rising, sorted_from, sorted_all}
use Rattle.meaning_steps.specs.Kept.{put_unless, by_key_beside, by_key}

-- what rises is in order already
in_order : (es : List Element) → IsTrue (rising es) → sorted es ≡ es
in_order es r = rising_same (sorted es) es (sorted_rising es) r (sorted_from es) (sorted_all es (rising_once es r))

-- what stands beside one that is put in
put_from : (d : Element) (es : List Element) → IsTrue (rising es) → (x : Element) → x ∈ inserted d.key d.value es → x ∈ (d ∷ es)
put_from d es r x m = sorted_from (d ∷ es) x (subst (λ (z : List Element). x ∈ inserted d.key d.value z) (sym (in_order es r)) m)

put_all : (d : Element) (es : List Element) → IsTrue (rising es) → ((k : Key) (v u : Scalar) → entry k v ∈ (d ∷ es) → entry k u ∈ (d ∷ es) → v ≡ u) → (x : Element) → x ∈ (d ∷ es) → x ∈ inserted d.key d.value es
put_all d es r one x m = subst (λ (z : List Element). x ∈ inserted d.key d.value z) (in_order es r) (sorted_all (d ∷ es) one x m)

-- what is found is there
found_there : (k : Key) (es : List Element) (v : Scalar) → found k es ≡ Some v → entry k v ∈ es
found_there k [] v h = absurd (cc (h))
found_there k (e ∷ es) v h = elim (cases_Bool (same_key e.key k)) [
  | inl same ↦
      let value : Some e.value ≡ Some v = rw same at h in
      let key : e.key ≡ k = same_key-eq e.key k same in
      subst (λ (z : Element). z ∈ (e ∷ es)) (λ i. entry (key i) ((let q : e.value ≡ v = cc in q) i)) first
  | inr other ↦ later (found_there k es v (rw other at h))
]

beside_rising : (es ds : List Element) → IsTrue (rising es) → IsTrue (rising (by_key_beside es ds))
beside_rising es [] r = r
beside_rising es (d ∷ ds) r = by (found d.key es) (beside_rising es ds r) (beside_rising (inserted d.key d.value es) ds (rising-inserted d.key d.value es r))
  where
    by : (o : Option Scalar) → IsTrue (rising (by_key_beside es ds)) → IsTrue (rising (by_key_beside (inserted d.key d.value es) ds)) → IsTrue (rising (by_key_beside (put_unless o d es) ds))
    by (Some v) f g = f
    by None f g = g

beside_from : (es ds : List Element) → IsTrue (rising es) → (x : Element) → x ∈ by_key_beside es ds → (x ∈ es) ⊎ (x ∈ ds)
beside_from es [] r x m = inl m
beside_from es (d ∷ ds) r x m =
    by (found d.key es) m (beside_from es ds r x) (beside_from (inserted d.key d.value es) ds (rising-inserted d.key d.value es r) x)
  where
    by : (o : Option Scalar) → x ∈ by_key_beside (put_unless o d es) ds
        → (x ∈ by_key_beside es ds → (x ∈ es) ⊎ (x ∈ ds))
        → (x ∈ by_key_beside (inserted d.key d.value es) ds → (x ∈ inserted d.key d.value es) ⊎ (x ∈ ds))
        → (x ∈ es) ⊎ (x ∈ (d ∷ ds))
    by (Some v) i f g = elim (f i) [ inl j ↦ inl j | inr j ↦ inr (later j) ]
    by None i f g = elim (g i) [
      | inl j ↦ elim (split_in (put_from d es r x j)) [ inl q ↦ inr (subst (λ (z : Element). z ∈ (d ∷ ds)) (sym q) first) | inr l ↦ inl l ]
      | inr j ↦ inr (later j)
    ]

-- an element that stood in the first list or is the head of the second
moved : (d x : Element) (es ds : List Element) → x ∈ (d ∷ es) → (x ∈ es) ⊎ (x ∈ (d ∷ ds))
moved d x es ds m = elim (split_in m) [ inl q ↦ inr (subst (λ (z : Element). z ∈ (d ∷ ds)) (sym q) first) | inr i ↦ inl i ]

wider : (d x : Element) (es ds : List Element) → (x ∈ es) ⊎ (x ∈ ds) → (x ∈ es) ⊎ (x ∈ (d ∷ ds))
wider d x es ds (inl i) = inl i
wider d x es ds (inr i) = inr (later i)

beside_all : (es ds : List Element) → IsTrue (rising es)
    → ((k : Key) (v u : Scalar) → (entry k v ∈ es) ⊎ (entry k v ∈ ds) → (entry k u ∈ es) ⊎ (entry k u ∈ ds) → v ≡ u)
    → (x : Element) → (x ∈ es) ⊎ (x ∈ ds) → x ∈ by_key_beside es ds
beside_all es [] r one x (inl i) = i
beside_all es [] r one x (inr i) = elim i [ ]
beside_all es (d ∷ ds) r one x m =
    by (found d.key es) refl
    (beside_all es ds r (λ k v u a b. one k v u (wider d (entry k v) es ds a) (wider d (entry k u) es ds b)) x)
    (beside_all (inserted d.key d.value es) ds (rising-inserted d.key d.value es r) (λ k v u a b. one k v u (back (entry k v) a) (back (entry k u) b)) x)
  where
    back : (y : Element) → (y ∈ inserted d.key d.value es) ⊎ (y ∈ ds) → (y ∈ es) ⊎ (y ∈ (d ∷ ds))
    back y (inl i) = moved d y es ds (put_from d es r y i)
    back y (inr i) = inr (later i)

    all_put : (y : Element) → y ∈ (d ∷ es) → y ∈ inserted d.key d.value es
    all_put y i = put_all d es r (λ k v u a b. one k v u (moved d (entry k v) es ds a) (moved d (entry k u) es ds b)) y i

    head_there : (v : Scalar) → found d.key es ≡ Some v → d ∈ es
    head_there v e =
        let same : v ≡ d.value = one d.key v d.value (inl (found_there d.key es v e)) (inr first) in
        subst (λ (z : Scalar). entry d.key z ∈ es) same (found_there d.key es v e)

    by : (o : Option Scalar) → found d.key es ≡ o
        → ((x ∈ es) ⊎ (x ∈ ds) → x ∈ by_key_beside es ds)
        → ((x ∈ inserted d.key d.value es) ⊎ (x ∈ ds) → x ∈ by_key_beside (inserted d.key d.value es) ds)
        → x ∈ by_key_beside (put_unless o d es) ds
    by (Some v) e f g = elim m [
      | inl i ↦ f (inl i)
      | inr i ↦ elim (split_in i) [ inl q ↦ f (inl (subst (λ (z : Element). z ∈ es) (sym q) (head_there v e))) | inr j ↦ f (inr j) ]
    ]
    by None e f g = elim m [
      | inl i ↦ g (inl (all_put x (later i)))
      | inr i ↦ elim (split_in i) [ inl q ↦ g (inl (subst (λ (z : Element). z ∈ inserted d.key d.value es) (sym q) (all_put d first))) | inr j ↦ g (inr j) ]
    ]

pub by_key_rising : (ds : List Element) → IsTrue (rising (by_key ds))
by_key_rising ds = beside_rising [] ds refl

-- what stands in order stood there before
pub by_key_from : (ds : List Element) (x : Element) → x ∈ by_key ds → x ∈ ds
by_key_from ds x m = elim (beside_from [] ds refl x m) [ inl i ↦ elim i [ ] | inr i ↦ i ]

-- where a key has one scalar, all stands in order
pub by_key_all : (ds : List Element) → ((k : Key) (v u : Scalar) → entry k v ∈ ds → entry k u ∈ ds → v ≡ u) → (x : Element) → x ∈ ds → x ∈ by_key ds
by_key_all ds one x m = beside_all [] ds refl (λ k v u a b. one k v u (there a) (there b)) x (inr m)
  where
    there : {y : Element} → (y ∈ []) ⊎ (y ∈ ds) → y ∈ ds
    there (inl i) = elim i [ ]
    there (inr i) = i
