-- Elements in any order by rising key.
use Rattle.std.proofs.Common.{◌≡◌, ◌∙◌, sym, ap, subst, inl, inr, ℕ, zero, suc, ◌<◌, ◌≤◌, ◌+◌, ◌-◌, List, [], ◌∷◌, length, map, get_or, None, Some, true, false, arith, rules, refl}
use Rattle.std.specs.Prelude.{Bool, Option, IsTrue, All, max, if◌then◌else◌}
use Rattle.std.specs.Cmp.{IsStrictWeakOrder}
use Rattle.std.specs.List.{IsDistinct, AllByRecursion}
use Rattle.std.specs.List.Sorted.{IsPermutation, IsSortedBy}
use Rattle.std.proofs.lemmas.Bool.{cases_Bool}
use Rattle.std.proofs.lemmas.Grind.{common_steps}
use Rattle.std.proofs.lemmas.Map.Keys.{IsDistinct-head, IsDistinct-tail, IsDistinct-IsPermutation}
use Rattle.std.proofs.lemmas.List.Sorted.{IsPermutation-map, All-permutation, length_permutation}
use Rattle.values.specs.declared.key.Key.{Key}
use Rattle.values.specs.declared.map.Element.{Element}
use Rattle.values.specs.declared.value.Scalar.{Scalar}
use Rattle.values.specs.Keys.{key_below, same_key}
use Rattle.values.specs.Maps.{rising, found, inserted, element}
use Rattle.values.proofs.Keys.{key_below-trans, key_below-asymmetric, same_key-refl, same_key-eq, same_key-other, key_below-other, below_differs, above_differs}
use Rattle.values.proofs.Maps.{found-none, rising-tail, rising-first, rising-inserted, found-inserted, found-inserted_other}
use Rattle.data_store.specs.Arrays.{Table, arranged, IsKept, with_places, with_entry}

-- what a key finds in rising order is what it finds first in any order
pub found_arranged : (k : Key) (es : List Element) → found k (arranged es) ≡ found k es
found_arranged k [] = refl
found_arranged k (e ∷ es) = elim (cases_Bool (same_key e.key k)) [
  | inl same ↦ rw same (subst (λ j. found j (inserted e.key e.value (arranged es)) ≡ Some e.value) (same_key-eq e.key k same) (found-inserted e.key e.value (arranged es)))
  | inr other ↦ rw other (found-inserted_other e.key k e.value (arranged es) other ∙ found_arranged k es)
]

pub rising_arranged : (es : List Element) → IsTrue (rising (arranged es))
rising_arranged [] = search rules
rising_arranged (e ∷ es) = rising-inserted e.key e.value (arranged es) (rising_arranged es)

pub length_inserted : (k : Key) (v : Scalar) (es : List Element) → found k es ≡ None → length (inserted k v es) ≡ length es + 1
length_inserted k v [] h = omega arith
length_inserted k v (e ∷ es) h = elim (cases_Bool (same_key e.key k)) [
  | inl same ↦ grind (arith, common_steps, same, h)
  | inr other ↦ elim (cases_Bool (key_below k e.key)) [
    | inl below ↦ rw (other, below) (omega arith)
    | inr more ↦ let rest : found k es ≡ None = rw other at h in rw (other, more) (omega (arith, length_inserted k v es rest))
  ]
]

found_here : (x : Element) (xs : List Element) → found x.key (x ∷ xs) ≡ Some x.value
found_here x xs = rw same_key-refl refl

found_behind : (k : Key) (x : Element) (xs : List Element) → same_key x.key k ≡ false → found k (x ∷ xs) ≡ found k xs
found_behind k x xs h = rw h refl

-- a key below the first is nowhere
absent_below : (k : Key) (x : Element) (xs : List Element) → IsTrue (rising (x ∷ xs)) → key_below k x.key ≡ true → found k (x ∷ xs) ≡ None
absent_below k x xs r below =
    found_behind k x xs (above_differs x.key k below)
    ∙ found-none k xs (λ j d l. above_differs (get_or xs j d).key k (key_below-trans k x.key (get_or xs j d).key below (rising-first x xs r j d l)))

-- the first key stands nowhere behind
absent_behind : (x : Element) (xs : List Element) → IsTrue (rising (x ∷ xs)) → found x.key xs ≡ None
absent_behind x xs r = found-none x.key xs (λ j d l. above_differs (get_or xs j d).key x.key (rising-first x xs r j d l))

not_both : {X : Type 0} (o : Option Scalar) (v : Scalar) → o ≡ None → o ≡ Some v → X
not_both o v p q = absurd (none_some v (sym p ∙ q)) where
  none_some : (v : Scalar) → ◌≡◌ {A = Option Scalar} None (Some v) → ⊥
  none_some v e = cc

same_value : (v w : Scalar) → Some v ≡ Some w → v ≡ w
same_value v w e = cc

same_element : (x y : Element) → x.key ≡ y.key → x.value ≡ y.value → x ≡ y
same_element x y p q = subst (λ k. x ≡ element k y.value) p (subst (λ v. x ≡ element x.key v) q refl)

behind_both : (x y : Element) (xs ys : List Element) → IsTrue (rising (x ∷ xs)) → IsTrue (rising (y ∷ ys)) → x.key ≡ y.key → (k : Key) → found k (x ∷ xs) ≡ found k (y ∷ ys) → found k xs ≡ found k ys
behind_both x y xs ys r s e k h = elim (cases_Bool (same_key x.key k)) [
  | inl same ↦
      let q : x.key ≡ k = same_key-eq x.key k same in
      subst (λ j. found j xs ≡ None) q (absent_behind x xs r) ∙ sym (subst (λ j. found j ys ≡ None) (sym e ∙ q) (absent_behind y ys s))
  | inr other ↦ sym (found_behind k x xs other) ∙ h ∙ found_behind k y ys (subst (λ j. same_key j k ≡ false) e other)
]

-- rising lists in which each key finds the same are the same
pub same_found : (xs ys : List Element) → IsTrue (rising xs) → IsTrue (rising ys) → ((k : Key) → found k xs ≡ found k ys) → xs ≡ ys
same_found [] [] r s h = refl
same_found [] (y ∷ ys) r s h = not_both (found y.key (y ∷ ys)) y.value (sym (h y.key)) (found_here y ys)
same_found (x ∷ xs) [] r s h = not_both (found x.key (x ∷ xs)) x.value (h x.key) (found_here x xs)
same_found (x ∷ xs) (y ∷ ys) r s h = elim (cases_Bool (same_key x.key y.key)) [
  | inl same ↦
      let e : x.key ≡ y.key = same_key-eq x.key y.key same in
      let v : x.value ≡ y.value = same_value x.value y.value (sym (found_here x xs) ∙ h x.key ∙ subst (λ k. found k (y ∷ ys) ≡ Some y.value) (sym e) (found_here y ys)) in
      let rest : xs ≡ ys = same_found xs ys (rising-tail x xs r) (rising-tail y ys s) (λ k. behind_both x y xs ys r s e k (h k)) in
      ap (λ z. z ∷ xs) (same_element x y e v) ∙ ap (λ zs. y ∷ zs) rest
  | inr other ↦ elim (cases_Bool (key_below x.key y.key)) [
    | inl below ↦ not_both (found x.key (y ∷ ys)) x.value (absent_below x.key y ys s below) (sym (h x.key) ∙ found_here x xs)
    | inr above ↦
        not_both (found y.key (x ∷ xs)) y.value (absent_below y.key x xs r (key_below-other x.key y.key other above)) (h y.key ∙ found_here y ys)
  ]
]

-- each of the first finds itself in the second
abbrev FoundIn : List Element → List Element → Type 0
FoundIn ys xs = AllByRecursion (λ x. found x.key ys ≡ Some x.value) xs

-- where all have keys behind y's, y can be left out
found_rest : (y : Element) (ys xs : List Element) → ((j : ℕ) (d : Element) → j < length xs → same_key y.key (get_or xs j d).key ≡ false) → FoundIn (y ∷ ys) xs → FoundIn ys xs
found_rest y ys [] apart f = tt
found_rest y ys (x ∷ xs) apart f =
    (sym (found_behind x.key y ys (apart 0 x (omega arith))) ∙ f.0, found_rest y ys xs (λ j d l. apart (suc j) d (omega arith)) f.1)

-- rising lists of one length are the same where each of the first finds itself in the second
pub same_found_in : (xs ys : List Element) → IsTrue (rising xs) → IsTrue (rising ys) → length xs ≡ length ys → FoundIn ys xs → xs ≡ ys
same_found_in [] [] r s l f = refl
same_found_in [] (y ∷ ys) r s l f = absurd (omega (arith, l))
same_found_in (x ∷ xs) [] r s l f = absurd (omega (arith, l))
same_found_in (x ∷ xs) (y ∷ ys) r s l f =
    let short : length xs ≡ length ys = omega (arith, l) in
    elim (cases_Bool (same_key x.key y.key)) [
      | inl same ↦
          let e : x.key ≡ y.key = same_key-eq x.key y.key same in
          let v : x.value ≡ y.value = same_value x.value y.value (sym f.0 ∙ subst (λ k. found k (y ∷ ys) ≡ Some y.value) (sym e) (found_here y ys)) in
          let rest = found_rest y ys xs (λ j d m. subst (λ k. same_key k (get_or xs j d).key ≡ false) e (below_differs x.key (get_or xs j d).key (rising-first x xs r j d m))) f.1 in
          ap (λ z. z ∷ xs) (same_element x y e v) ∙ ap (λ zs. y ∷ zs) (same_found_in xs ys (rising-tail x xs r) (rising-tail y ys s) short rest)
      | inr other ↦ elim (cases_Bool (key_below x.key y.key)) [
        | inl below ↦ not_both (found x.key (y ∷ ys)) x.value (absent_below x.key y ys s below) f.0
        | inr more ↦
            let above : key_below y.key x.key ≡ true = key_below-other x.key y.key other more in
            let rest = found_rest y ys xs (λ j d m. below_differs y.key (get_or xs j d).key (key_below-trans y.key x.key (get_or xs j d).key above (rising-first x xs r j d m))) f.1 in
            let q : xs ≡ ys = same_found_in xs ys (rising-tail x xs r) (rising-tail y ys s) short rest in
            not_both (found x.key ys) x.value (subst (λ zs. found x.key zs ≡ None) q (absent_behind x xs r)) (sym (found_behind x.key y ys (below_differs y.key x.key above)) ∙ f.0)
      ]
    ]

-- keys that differ and do not fall rise
pub rising_sorted : (xs : List Element) → IsDistinct same_key (map (λ e. e.key) xs) → ((i j : ℕ) (d : Element) → j ≡ suc i → j < length xs → key_below (get_or xs j d).key (get_or xs i d).key ≡ false) → IsTrue (rising xs)
rising_sorted [] u h = search rules
rising_sorted (e ∷ []) u h = search rules
rising_sorted (e ∷ f ∷ es) u h =
    let apart : same_key e.key f.key ≡ false = (IsDistinct-head same_key e.key (map (λ x. x.key) (f ∷ es)) u).0 in
    let up : key_below e.key f.key ≡ true = key_below-other f.key e.key (same_key-other e.key f.key apart) (h 0 1 e refl (omega arith)) in
    rw up (rising_sorted (f ∷ es) (IsDistinct-tail same_key e.key (map (λ x. x.key) (f ∷ es)) u) (λ i j d q l. h (suc i) (suc j) d (ap suc q) (omega arith)))

pub comes_before_orders : IsStrictWeakOrder (λ (a : Element) (b : Element). key_below a.key b.key)
comes_before_orders = record { one_way = λ a b h. key_below-asymmetric a.key b.key h; chain = λ a b c p q. chain_of a.key b.key c.key p q } where
  both_ways : (b : Bool) → b ≡ true → b ≡ false → ⊥
  both_ways b p q = true_false (sym p ∙ q) where
    true_false : true ≡ false → ⊥
    true_false e = cc

  not_between : (a b c : Key) → key_below a b ≡ false → key_below b c ≡ false → key_below a c ≡ true → ⊥
  not_between a b c p q low = elim (cases_Bool (same_key a b)) [
    | inl same ↦ both_ways (key_below b c) (subst (λ k. key_below k c ≡ true) (same_key-eq a b same) low) q
    | inr other ↦ both_ways (key_below b c) (key_below-trans b a c (key_below-other a b other p) low) q
  ]

  chain_of : (a b c : Key) → key_below a b ≡ false → key_below b c ≡ false → key_below a c ≡ false
  chain_of a b c p q = elim (cases_Bool (key_below a c)) [ inl low ↦ absurd (not_between a b c p q low) | inr high ↦ high ]

all_by_recursion : {X : Type 0} (P : X → Type 0) (xs : List X) → All P xs → AllByRecursion P xs
all_by_recursion P [] a = tt
all_by_recursion P (x ∷ xs) a = (a 0 x (omega arith), all_by_recursion P xs (λ j d l. a (suc j) d (omega arith)))

same_key_flips : (x y : Key) → same_key x y ≡ same_key y x
same_key_flips x y = elim (cases_Bool (same_key x y)) [
  | inl same ↦ same ∙ sym (subst (λ z. same_key z x ≡ true) (same_key-eq x y same) (same_key-refl x))
  | inr other ↦ other ∙ sym (same_key-other x y other)
]

-- an element that makes the list longer had no element under its key
absent_if_longer : (k : Key) (v : Scalar) (es : List Element) → IsTrue (rising es) → length (inserted k v es) ≡ length es + 1 → found k es ≡ None
absent_if_longer k v [] r l = refl
absent_if_longer k v (e ∷ es) r l = elim (cases_Bool (same_key e.key k)) [
  | inl same ↦ let l' = rw same at l in absurd (omega (arith, l'))
  | inr other ↦ elim (cases_Bool (key_below k e.key)) [
    | inl below ↦ absent_below k e es r below
    | inr more ↦
        let l' = rw (other, more) at l in
        found_behind k e es other ∙ absent_if_longer k v es (rising-tail e es r) (omega (arith, l'))
  ]
]

length_inserted_most : (k : Key) (v : Scalar) (es : List Element) → length (inserted k v es) ≤ length es + 1
length_inserted_most k v [] = omega arith
length_inserted_most k v (e ∷ es) = elim (cases_Bool (same_key e.key k)) [
  | inl same ↦ rw same (omega arith)
  | inr other ↦ elim (cases_Bool (key_below k e.key)) [
    | inl below ↦ rw (other, below) (omega arith)
    | inr more ↦ rw (other, more) (omega (arith, length_inserted_most k v es))
  ]
]

length_arranged_most : (es : List Element) → length (arranged es) ≤ length es
length_arranged_most [] = omega arith
length_arranged_most (e ∷ es) = omega (arith, length_arranged_most es, length_inserted_most e.key e.value (arranged es))

none_some_pair : {X : Type 0} (v : Scalar) → ◌≡◌ {A = Option Scalar} (Some v) None → X
none_some_pair v e = absurd (cc)

-- a key that finds nothing is none of the keys
apart_all : (k : Key) (es : List Element) → found k es ≡ None → AllByRecursion (λ m. same_key k m ≡ false) (map (λ e. e.key) es)
apart_all k [] h = tt
apart_all k (e ∷ es) h = elim (cases_Bool (same_key e.key k)) [
  | inl same ↦ let h' = rw same at h in none_some_pair e.value h'
  | inr other ↦ let h' = rw other at h in (same_key-other e.key k other, apart_all k es h')
]

apart_at : (k : Key) (es : List Element) → AllByRecursion (λ m. same_key k m ≡ false) (map (λ e. e.key) es) → (j : ℕ) (d : Element) → j < length es → same_key k (get_or es j d).key ≡ false
apart_at k [] a j d l = absurd (omega (arith, l))
apart_at k (e ∷ es) a zero d l = a.0
apart_at k (e ∷ es) a (suc j) d l = apart_at k es a.1 j d (omega (arith, l))

-- where no element is lost, the keys differ
distinct_arranged : (es : List Element) → length (arranged es) ≡ length es → IsDistinct same_key (map (λ e. e.key) es)
unfolding IsDistinct
distinct_arranged [] l = tt
distinct_arranged (e ∷ es) l =
    let most = length_inserted_most e.key e.value (arranged es) in
    let short : length (arranged es) ≡ length es = omega (arith, l, most, length_arranged_most es) in
    let longer : length (inserted e.key e.value (arranged es)) ≡ length (arranged es) + 1 = omega (arith, l, short) in
    (apart_all e.key es (sym (found_arranged e.key es) ∙ absent_if_longer e.key e.value (arranged es) (rising_arranged es) longer), distinct_arranged es short)

-- and each element is found by its key
each_found : (es : List Element) → IsDistinct same_key (map (λ e. e.key) es) → All (λ e. found e.key es ≡ Some e.value) es
each_found [] u j d l = absurd (omega (arith, l))
each_found (e ∷ es) u zero d l = found_here e es
each_found (e ∷ es) u (suc j) d l =
    found_behind (get_or es j d).key e es (apart_at e.key es (IsDistinct-head same_key e.key (map (λ x. x.key) es) u) j d (omega (arith, l)))
    ∙ each_found es (IsDistinct-tail same_key e.key (map (λ x. x.key) es) u) j d (omega (arith, l))

-- what a sort by keys makes of elements whose keys differ
pub sorted_is_arranged : (es ys : List Element) → IsPermutation es ys → IsSortedBy (λ (a : Element) (b : Element). key_below a.key b.key) ys → length (arranged es) ≡ length es → ys ≡ arranged es
sorted_is_arranged es ys p up l =
    let u : IsDistinct same_key (map (λ x. x.key) es) = distinct_arranged es l in
    let apart : IsDistinct same_key (map (λ x. x.key) ys) =
    IsDistinct-IsPermutation same_key same_key_flips (map (λ x. x.key) es) (map (λ x. x.key) ys) (IsPermutation-map (λ x. x.key) es ys p) u in
    let finds : All (λ (x : Element). found x.key (arranged es) ≡ Some x.value) ys =
    All-permutation (λ (x : Element). found x.key (arranged es) ≡ Some x.value) es ys p (λ k d m. found_arranged (get_or es k d).key es ∙ each_found es u k d m) in
    same_found_in ys (arranged es)
    (rising_sorted ys apart (λ i j d q m. subst (λ n. key_below (get_or ys n d).key (get_or ys i d).key ≡ false) (add_one i ∙ sym q) (up i d (omega arith) (omega (arith, m, q)))))
    (rising_arranged es) (length_permutation es ys p ∙ sym l) (all_by_recursion (λ x. found x.key (arranged es) ≡ Some x.value) ys finds) where
      add_one : (i : ℕ) → i + 1 ≡ suc i
      add_one i = omega arith

-- one more is found under its key, and nothing else has changed
abbrev pub FindsMore : Key → Scalar → List Element → List Element → Type 0
FindsMore k v es fs = (j : Key) → found j fs ≡ (if same_key k j then Some v else found j es)

-- one more element
pub arranged_more : (k : Key) (v : Scalar) (es fs : List Element) → FindsMore k v es fs → arranged fs ≡ inserted k v (arranged es)
arranged_more k v es fs h = same_found (arranged fs) (inserted k v (arranged es)) (rising_arranged fs) (rising-inserted k v (arranged es) (rising_arranged es)) finds where
  finds : (j : Key) → found j (arranged fs) ≡ found j (inserted k v (arranged es))
  finds j = elim (cases_Bool (same_key k j)) [
    | inl same ↦
        found_arranged j fs ∙ h j ∙ rw same (subst (λ i. Some v ≡ found i (inserted k v (arranged es))) (same_key-eq k j same) (sym (found-inserted k v (arranged es))))
    | inr other ↦ found_arranged j fs ∙ h j ∙ rw other (sym (found-inserted_other k j v (arranged es) other ∙ found_arranged j es))
  ]

-- the same elements in another order
pub arranged_same : (es fs : List Element) → ((j : Key) → found j fs ≡ found j es) → arranged fs ≡ arranged es
arranged_same es fs h = same_found (arranged fs) (arranged es) (rising_arranged fs) (rising_arranged es) (λ j. found_arranged j fs ∙ h j ∙ sym (found_arranged j es))

-- with one more element they are kept too, with one place less of the room
pub kept_more : {spare less room : ℕ} {sorted : Option (List Element)} (k : Key) (v : Scalar) (es fs : List Element) → IsKept es spare sorted room → found k (arranged es) ≡ None → FindsMore k v es fs → length fs ≡ length es + 1 → spare ≤ less + 1 → IsKept fs less None (room - 1)
kept_more k v es fs kept absent finds long s =
    record {
      counted = omega (arith, ap length (arranged_more k v es fs finds), length_inserted k v (arranged es) absent, kept.counted, long);
      in_order = tt;
      has_room = omega (arith, kept.has_room, s);
    }

-- and so they are in another order
pub kept_same : {spare more room : ℕ} {sorted : Option (List Element)} (es fs : List Element) → IsKept es spare sorted room → ((j : Key) → found j fs ≡ found j es) → length fs ≡ length es → (n : ℕ) → n ≤ more → IsKept fs more None n
kept_same es fs kept h long n s =
    record { counted = omega (arith, ap length (arranged_same es fs h), kept.counted, long); in_order = tt; has_room = s }

pub room_grown : (new old : List Element) (n room : ℕ) → new ≡ old → room < n → ◌≡◌ {A = Table} (record { entries = new; places = n }) (with_places n (record { entries = old; places = room }))
room_grown new old n room e l =
    let m : n ≡ max room n = omega (arith, l) in
    subst (λ r. ◌≡◌ {A = Table} (record { entries = new; places = n }) (record { entries = old; places = r })) m (ap (λ es. record { entries = es; places = n }) e)

pub element_added : (k : Key) (v : Scalar) (new old : List Element) (less room : ℕ) → new ≡ inserted k v old → less ≡ room - 1 → ◌≡◌ {A = Table} (record { entries = new; places = less }) (with_entry k v (record { entries = old; places = room }))
element_added k v new old less room e l = subst (λ r. ◌≡◌ {A = Table} (record { entries = new; places = less }) (record { entries = inserted k v old; places = r })) l (ap (λ es. record { entries = es; places = less }) e)
