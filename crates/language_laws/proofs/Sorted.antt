-- Elements put in order.
use Rattle.std.specs.Prelude.{◌≡◌, ◌⊎◌, IsTrue, List, [], ◌∷◌, refl}
use Rattle.std.proofs.Common.{inl, inr, sym, subst}
use Rattle.std.proofs.lemmas.Bool.{cases_Bool}
use Rattle.values.specs.declared.key.Key.{Key}
use Rattle.values.specs.declared.map.Element.{Element}
use Rattle.values.specs.declared.value.Scalar.{Scalar}
use Rattle.values.specs.Keys.{key_below, same_key}
use Rattle.values.specs.Maps.{rising, inserted, element as entry}
use Rattle.values.proofs.Keys.{same_key-eq}
use Rattle.values.proofs.Maps.{rising-inserted}
use Rattle.language.specs.Members.{◌∈◌, first, later}
use Rattle.language.proofs.Members.{split_in}

-- in the order of their keys, one of each key
abbrev pub sorted : List Element → List Element
sorted [] = []
sorted (e ∷ es) = inserted e.key e.value (sorted es)

pub sorted_rising : (es : List Element) → IsTrue (rising (sorted es))
sorted_rising [] = refl
sorted_rising (e ∷ es) = rising-inserted e.key e.value (sorted es) (sorted_rising es)

-- what was put in stands there
put_in : (k : Key) (v : Scalar) (es : List Element) → entry k v ∈ inserted k v es
put_in k v [] = first
put_in k v (e ∷ es) = elim (cases_Bool (same_key e.key k)) [
  | inl same ↦ rw same first
  | inr other ↦ elim (cases_Bool (key_below k e.key)) [
    | inl below ↦ rw other (rw below first)
    | inr more ↦ rw other (rw more (later (put_in k v es)))
  ]
]

-- nothing else comes
put_from : (k : Key) (v : Scalar) (es : List Element) (x : Element) → x ∈ inserted k v es → (x ≡ entry k v) ⊎ (x ∈ es)
put_from k v [] x m = split_in m
put_from k v (e ∷ es) x m = elim (cases_Bool (same_key e.key k)) [
  | inl same ↦ elim (split_in (rw same at m)) [ inl q ↦ inl q | inr i ↦ inr (later i) ]
  | inr other ↦ elim (cases_Bool (key_below k e.key)) [
    | inl below ↦ split_in (rw below at (rw other at m))
    | inr more ↦ elim (split_in (rw more at (rw other at m))) [
      | inl q ↦ inr (subst (λ (z : Element). z ∈ (e ∷ es)) (sym q) first)
      | inr i ↦ elim (put_from k v es x i) [ inl q ↦ inl q | inr j ↦ inr (later j) ]
    ]
  ]
]

-- and all stays but what has the key
put_keeps : (k : Key) (v : Scalar) (es : List Element) (x : Element) → x ∈ es → (x.key ≡ k) ⊎ (x ∈ inserted k v es)
put_keeps k v [] x m = elim m [ ]
put_keeps k v (e ∷ es) x m = elim (cases_Bool (same_key e.key k)) [
  | inl same ↦ elim (split_in m) [
    | inl q ↦ inl (subst (λ (z : Element). z.key ≡ k) (sym q) (same_key-eq e.key k same))
    | inr i ↦ inr (rw same (later i))
  ]
  | inr other ↦ elim (cases_Bool (key_below k e.key)) [
    | inl below ↦ inr (rw other (rw below (later m)))
    | inr more ↦ elim (split_in m) [
      | inl q ↦ inr (rw other (rw more (subst (λ (z : Element). z ∈ (e ∷ inserted k v es)) (sym q) first)))
      | inr i ↦ elim (put_keeps k v es x i) [ inl q ↦ inl q | inr j ↦ inr (rw other (rw more (later j))) ]
    ]
  ]
]

-- what stands in order stood there before
pub sorted_from : (es : List Element) (x : Element) → x ∈ sorted es → x ∈ es
sorted_from [] x m = m
sorted_from (e ∷ es) x m = elim (put_from e.key e.value (sorted es) x m) [
  | inl q ↦ subst (λ (z : Element). z ∈ (e ∷ es)) (sym q) first
  | inr i ↦ later (sorted_from es x i)
]

-- where a key has one scalar, all stands in order
pub sorted_all : (es : List Element) → ((k : Key) (v u : Scalar) → entry k v ∈ es → entry k u ∈ es → v ≡ u) → (x : Element) → x ∈ es → x ∈ sorted es
sorted_all [] one x m = m
sorted_all (e ∷ es) one x m = elim (split_in m) [
  | inl q ↦ subst (λ (z : Element). z ∈ inserted e.key e.value (sorted es)) (sym q) (put_in e.key e.value (sorted es))
  | inr i ↦ elim (put_keeps e.key e.value (sorted es) x (sorted_all es (λ k v u a b. one k v u (later a) (later b)) x i)) [
    | inr j ↦ j
    | inl q ↦
        let there : entry e.key x.value ∈ (e ∷ es) = subst (λ (z : Key). entry z x.value ∈ (e ∷ es)) q m in
        let same : x.value ≡ e.value = one e.key x.value e.value there first in
        subst (λ (z : Element). z ∈ inserted e.key e.value (sorted es)) (λ i. entry (sym q i) (sym same i)) (put_in e.key e.value (sorted es))
  ]
]
