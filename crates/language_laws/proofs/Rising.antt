-- Elements whose keys rise are told by which they are.
use Rattle.std.specs.Prelude.{◌≡◌, ◌⊎◌, Bool, true, false, ◌&&◌, IsTrue, List, [], ◌∷◌, refl}
use Rattle.std.proofs.Common.{inl, inr, sym, ap, ◌∙◌, subst}
use Rattle.values.specs.declared.key.Key.{Key}
use Rattle.values.specs.declared.map.Element.{Element}
use Rattle.values.specs.declared.value.Scalar.{Scalar}
use Rattle.values.specs.Keys.{key_below}
use Rattle.values.specs.Maps.{rising, element as entry}
use Rattle.values.proofs.Keys.{key_below-irreflexive, key_below-trans}
use Rattle.language.specs.Members.{◌∈◌, first, later}
use Rattle.language.proofs.Members.{split_in}

not_below : (k : Key) → key_below k k ≡ true → ⊥
not_below k h = let e : false ≡ true = sym (key_below-irreflexive k) ∙ h in absurd (cc (e))

both : (a b : Bool) → IsTrue (a && b) → (a ≡ true) × IsTrue b
both true b h = (refl, h)
both false b h = absurd (cc (h))

rising_tail : (e : Element) (es : List Element) → IsTrue (rising (e ∷ es)) → IsTrue (rising es)
rising_tail e [] h = refl
rising_tail e (d ∷ es) h = (both (key_below e.key d.key) (rising (d ∷ es)) h).1

above_head : (e p : Element) (es : List Element) → IsTrue (rising (e ∷ es)) → p ∈ es → key_below e.key p.key ≡ true
above_head e p [] h m = elim m [ ]
above_head e p (d ∷ es) h first = (both (key_below e.key p.key) (rising (p ∷ es)) h).0
above_head e p (d ∷ es) h (later m) =
    let b = both (key_below e.key d.key) (rising (d ∷ es)) h in
    key_below-trans e.key d.key p.key b.0 (above_head d p es b.1 m)

-- two rising lists with the same elements are one
pub rising_same : (xs ys : List Element) → IsTrue (rising xs) → IsTrue (rising ys)
    → ((p : Element) → p ∈ xs → p ∈ ys) → ((p : Element) → p ∈ ys → p ∈ xs) → xs ≡ ys
rising_same [] [] r q f g = refl
rising_same [] (y ∷ ys) r q f g = elim (g y first) [ ]
rising_same (x ∷ xs) [] r q f g = elim (f x first) [ ]
rising_same (x ∷ xs) (y ∷ ys) r q f g =
    let same : x ≡ y = heads (f x first) (g y first) in
    let rest = rising_same xs ys (rising_tail x xs r) (rising_tail y ys q)
    (λ p m. tail_of p ys (λ e. not_below x.key (subst (λ (z : Element). key_below x.key z.key ≡ true) (e ∙ sym same) (above_head x p xs r m))) (f p (later m)))
    (λ p m. tail_of p xs (λ e. not_below y.key (subst (λ (z : Element). key_below y.key z.key ≡ true) (e ∙ same) (above_head y p ys q m))) (g p (later m))) in
    λ i. same i ∷ rest i
  where
    tail_of : {z : Element} (p : Element) (zs : List Element) → (p ≡ z → ⊥) → p ∈ (z ∷ zs) → p ∈ zs
    tail_of p zs n h = elim (split_in h) [ inl e ↦ absurd (n e) | inr m ↦ m ]

    heads : x ∈ (y ∷ ys) → y ∈ (x ∷ xs) → x ≡ y
    heads h k =
        elim (split_in h) [
          | inl e ↦ e
          | inr m ↦ elim (split_in k) [ inl e ↦ sym e | inr l ↦ absurd (not_below x.key (key_below-trans x.key y.key x.key (above_head x y xs r l) (above_head y x ys q m))) ]
        ]

-- a rising list has one scalar under a key
pub rising_once : (es : List Element) → IsTrue (rising es) → (k : Key) (v u : Scalar) → entry k v ∈ es → entry k u ∈ es → v ≡ u
rising_once [] r k v u m n = elim m [ ]
rising_once (e ∷ es) r k v u m n = by (split_in m) (split_in n) (λ i j. rising_once es (rising_tail e es r) k v u i j)
  where
    by : ((entry k v ≡ e) ⊎ (entry k v ∈ es)) → ((entry k u ≡ e) ⊎ (entry k u ∈ es)) → (entry k v ∈ es → entry k u ∈ es → v ≡ u) → v ≡ u
    by (inl p) (inl q) rec = ap (λ (z : Element). z.value) (p ∙ sym q)
    by (inl p) (inr j) rec = absurd (not_below k (subst (λ (z : Element). key_below z.key k ≡ true) (sym p) (above_head e (entry k u) es r j)))
    by (inr i) (inl q) rec = absurd (not_below k (subst (λ (z : Element). key_below z.key k ≡ true) (sym q) (above_head e (entry k v) es r i)))
    by (inr i) (inr j) rec = rec i j
