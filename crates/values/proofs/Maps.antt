-- Look-up and insertion in lists of elements whose keys rise.
use Rattle.std.proofs.Common.{◌≡◌, ◌∙◌, sym, ap, inl, inr, ℕ, zero, suc, ◌<◌, ◌≤◌, List, [], ◌∷◌, length, get_or, None, Some, true, false, arith, rules, refl}
use Rattle.std.specs.Prelude.{Bool, Option, IsTrue, slice_get, if◌then◌else◌}
use Rattle.std.specs.List.{insert}
use Rattle.std.specs.List.Sorted.{IsPartitionedBy, IsPartitionPoint}
use Rattle.std.proofs.lemmas.Bool.{cases_lt, cases_Bool}
use Rattle.std.proofs.lemmas.Grind.{common_steps}
use Rattle.values.specs.declared.key.Key.{Key}
use Rattle.values.specs.declared.map.Element.{Element}
use Rattle.values.specs.declared.value.Scalar.{Scalar}
use Rattle.values.specs.Keys.{key_below, same_key}
use Rattle.values.specs.Maps.{rising, found, found_at, inserted, element}
use Rattle.values.proofs.Keys.{key_below-trans, same_key-refl, same_key-eq, same_key-other, key_below-other, key_below-asymmetric, below_differs, above_differs}

-- nothing is found where every key is another
pub found-none : (k : Key) (es : List Element) → ((j : ℕ) (d : Element) → j < length es → same_key (get_or es j d).key k ≡ false) → found k es ≡ None
found-none k [] h = refl
found-none k (e ∷ es) h =
    let other : same_key e.key k ≡ false = h 0 e (omega arith) in
    rw other (found-none k es (λ j d m. h (suc j) d (omega arith)))

pub rising-tail : (e : Element) (es : List Element) → IsTrue (rising (e ∷ es)) → IsTrue (rising es)
rising-tail e [] r = search rules
rising-tail e (f ∷ es) r = grind (arith, common_steps)

-- the first key of a rising list is below each later one
pub rising-first : (e : Element) (es : List Element) → IsTrue (rising (e ∷ es)) → (j : ℕ) (d : Element) → j < length es → key_below e.key (get_or es j d).key ≡ true
rising-first e [] r j d l = absurd (omega arith)
rising-first e (f ∷ es) r zero d l = grind (arith, common_steps)
rising-first e (f ∷ es) r (suc j) d l =
    let below : key_below e.key f.key ≡ true = grind (arith, common_steps) in
    key_below-trans e.key f.key (get_or es j d).key below (rising-first f es (rising-tail e (f ∷ es) r) j d (omega arith))

-- of two places the earlier one has the smaller key
pub rising-places : (es : List Element) → IsTrue (rising es) → (i j : ℕ) (d : Element) → i < j → j < length es → key_below (get_or es i d).key (get_or es j d).key ≡ true
rising-places [] r i j d l m = absurd (omega arith)
rising-places (e ∷ es) r i zero d l m = absurd (omega arith)
rising-places (e ∷ es) r zero (suc j) d l m = rising-first e es r j d (omega arith)
rising-places (e ∷ es) r (suc i) (suc j) d l m = rising-places es (rising-tail e es r) i j d (omega arith) (omega arith)

else_none : (b : Bool) (v : Scalar) (x : Option Scalar) → (b ≡ false → x ≡ None) → (if b then Some v else x) ≡ (if b then Some v else None)
else_none true v x h = refl
else_none false v x h = h refl

-- where the keys below k end, k is found or nowhere
pub found-point : (k : Key) (es : List Element) (i : ℕ) → IsTrue (rising es) → i ≤ length es → ((j : ℕ) (d : Element) → j < i → key_below (get_or es j d).key k ≡ true) → ((d : Element) → i < length es → key_below (get_or es i d).key k ≡ false) → found k es ≡ found_at k (slice_get es i)
found-point k [] i r l low high = refl
found-point k (e ∷ es) zero r l low high =
    else_none (same_key e.key k) e.value (found k es) (λ differs. found-none k es (λ j d m.
    above_differs (get_or es j d).key k (key_below-trans k e.key (get_or es j d).key (key_below-other e.key k differs (high e (omega arith))) (rising-first e es r j d m))))
found-point k (e ∷ es) (suc i) r l low high =
    let other : same_key e.key k ≡ false = below_differs e.key k (low 0 e (omega arith)) in
    rw other (found-point k es i (rising-tail e es r) (omega arith) (λ j d m. low (suc j) d (omega arith)) (λ d m. high d (omega arith)))

-- the tests of a search by halving are those of a partition
pub rising-parted : (k : Key) (es : List Element) → IsTrue (rising es) → IsPartitionedBy (λ e. key_below e.key k) es
rising-parted k es r i j d l m h = elim (cases_lt i j) [
  | inl less ↦ key_below-trans (get_or es i d).key (get_or es j d).key k (rising-places es r i j d less m) h
  | inr more ↦ let same : i ≡ j = omega arith in rw same h
]

-- what stands where the parts meet
pub found-parted : (k : Key) (es : List Element) (i : ℕ) → IsTrue (rising es) → i ≤ length es → IsPartitionPoint (λ (e : Element). key_below e.key k ≡ true) (λ (e : Element). key_below e.key k ≡ false) es i → found k es ≡ found_at k (slice_get es i)
found-parted k es i r l point = found-point k es i r l (λ j d m. point.0 j d (omega arith) m) (λ d m. point.1 i d (omega arith) m)

rising-same : (k : Key) (v : Scalar) (e : Element) (es : List Element) → same_key e.key k ≡ true → IsTrue (rising (e ∷ es)) → IsTrue (rising (element k v ∷ es))
rising-same k v e [] s r = search rules
rising-same k v e (f ∷ es) s r = let q : e.key ≡ k = same_key-eq e.key k s in rw q at r

rising-front : (k : Key) (v : Scalar) (e : Element) (es : List Element) → IsTrue (rising (e ∷ es)) → key_below e.key k ≡ true → IsTrue (rising (e ∷ inserted k v es))
rising-front k v e [] r low = rw low (search rules)
rising-front k v e (f ∷ es) r low = elim (cases_Bool (same_key f.key k)) [
  | inl same ↦ rw same (rw low (rising-same k v f es same (rising-tail e (f ∷ es) r)))
  | inr other ↦ elim (cases_Bool (key_below k f.key)) [
    | inl below ↦ rw other (rw below (rw low (rw below (rising-tail e (f ∷ es) r))))
    | inr more ↦
        let first : key_below e.key f.key ≡ true = rising-first e (f ∷ es) r 0 f (omega arith) in
        rw other (rw more (rw first (rising-front k v f es (rising-tail e (f ∷ es) r) (key_below-other k f.key (same_key-other f.key k other) more))))
  ]
]

-- an element put into a rising list leaves it rising
pub rising-inserted : (k : Key) (v : Scalar) (es : List Element) → IsTrue (rising es) → IsTrue (rising (inserted k v es))
rising-inserted k v [] r = search rules
rising-inserted k v (e ∷ es) r = elim (cases_Bool (same_key e.key k)) [
  | inl same ↦ rw same (rising-same k v e es same r)
  | inr other ↦ elim (cases_Bool (key_below k e.key)) [
    | inl below ↦ rw other (rw below (rw below r))
    | inr more ↦ rw other (rw more (rising-front k v e es r (key_below-other k e.key (same_key-other e.key k other) more)))
  ]
]

-- what was put under a key is found there
pub found-inserted : (k : Key) (v : Scalar) (es : List Element) → found k (inserted k v es) ≡ Some v
found-inserted k v [] = rw same_key-refl refl
found-inserted k v (e ∷ es) = elim (cases_Bool (same_key e.key k)) [
  | inl same ↦ rw same (rw same_key-refl refl)
  | inr other ↦ elim (cases_Bool (key_below k e.key)) [
    | inl below ↦ rw other (rw below (rw same_key-refl refl))
    | inr more ↦ rw other (rw more (rw other (found-inserted k v es)))
  ]
]

-- under another key nothing changes
pub found-inserted_other : (k j : Key) (v : Scalar) (es : List Element) → same_key k j ≡ false → found j (inserted k v es) ≡ found j es
found-inserted_other k j v [] h = rw h refl
found-inserted_other k j v (e ∷ es) h = elim (cases_Bool (same_key e.key k)) [
  | inl same ↦ let q : e.key ≡ k = same_key-eq e.key k same in rw same (rw h (rw q (rw h refl)))
  | inr other ↦ elim (cases_Bool (key_below k e.key)) [
    | inl below ↦ rw other (rw below (rw h refl))
    | inr more ↦ rw other (rw more (ap (λ r. if same_key e.key j then Some e.value else r) (found-inserted_other k j v es h)))
  ]
]

-- a key that is nowhere is put where the keys below it end
pub inserted-gap : (k : Key) (v : Scalar) (es : List Element) (i : ℕ) → i ≤ length es → ((j : ℕ) (d : Element) → j < i → key_below (get_or es j d).key k ≡ true) → ((d : Element) → i < length es → key_below k (get_or es i d).key ≡ true) → inserted k v es ≡ insert es i (element k v)
inserted-gap k v [] zero l low high = refl
inserted-gap k v [] (suc i) l low high = absurd (omega arith)
inserted-gap k v (e ∷ es) zero l low high =
    let above : key_below k e.key ≡ true = high e (omega arith) in
    rw (above_differs e.key k above, above) refl
inserted-gap k v (e ∷ es) (suc i) l low high =
    let below : key_below e.key k ≡ true = low 0 e (omega arith) in
    rw (below_differs e.key k below, key_below-asymmetric e.key k below)
    (ap (λ rest. e ∷ rest) (inserted-gap k v es i (omega arith) (λ j d m. low (suc j) d (omega arith)) (λ d m. high d (omega arith))))

at-none : (k : Key) (es : List Element) (i : ℕ) (d : Element) → i < length es → found_at k (slice_get es i) ≡ None → same_key (get_or es i d).key k ≡ false
at-none k [] i d l h = absurd (omega arith)
at-none k (e ∷ es) zero d l h = elim (cases_Bool (same_key e.key k)) [
  | inl same ↦ grind (arith, common_steps, same, h)
  | inr other ↦ other
]
at-none k (e ∷ es) (suc i) d l h = at-none k es i d (omega arith) h

-- the same, from where a search by halving ended
pub inserted-parted : (k : Key) (es : List Element) (i : ℕ) → IsTrue (rising es) → i ≤ length es → IsPartitionPoint (λ (e : Element). key_below e.key k ≡ true) (λ (e : Element). key_below e.key k ≡ false) es i → found k es ≡ None → (v : Scalar) → inserted k v es ≡ insert es i (element k v)
inserted-parted k es i r l point none v =
    let here : found_at k (slice_get es i) ≡ None = sym (found-parted k es i r l point) ∙ none in
    inserted-gap k v es i l (λ j d m. point.0 j d (omega arith) m)
    (λ d m. key_below-other (get_or es i d).key k (at-none k es i d m here) (point.1 i d (omega arith) m))

-- where the key itself stands, its scalar is found
pub found-there : (k : Key) (es : List Element) (i : ℕ) (d : Element) → i < length es → (get_or es i d).key ≡ k → found_at k (slice_get es i) ≡ Some (get_or es i d).value
found-there k [] i d l h = absurd (omega arith)
found-there k (e ∷ es) zero d l h = let same : same_key e.key k ≡ true = rw h (same_key-refl k) in rw same refl
found-there k (e ∷ es) (suc i) d l h = found-there k es i d (omega arith) h
