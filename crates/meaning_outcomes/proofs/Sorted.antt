-- Sorted lists, each element once.
use Rattle.std.proofs.Common.{◌≡◌, ◌⊎◌, inl, inr, ℕ, zero, suc, ◌+◌, ◌-◌, ◌<◌, Bool, true, false, List, [], ◌∷◌, ◌++◌, length, Option, None, Some, refl, sym, ap, ◌∙◌, subst, arith, Contains}
use Rattle.std.specs.Prelude.{if◌then◌else◌, slice_get, slice_index_or}
use Rattle.std.specs.Cmp.{IsStrictWeakOrder}
use Rattle.std.specs.List.Sorted.{IsPermutation, IsSortedBy}
use Rattle.std.proofs.lemmas.List.Sorted.{Contains-permutation, IsPermutation-sym}
use Rattle.std.proofs.lemmas.Option.{none-some, same_Some}
use Rattle.language.specs.Members.{◌∈◌, first, later}
use Rattle.language.proofs.Members.{either, split_in, to_left, to_right}
use Rattle.meaning_outcomes.specs.Lists.{each_once, is_last, IsInOrder, Lists}
use Rattle.paths.proofs.Orders.{IsOrder}

-- MEMBERS OF A PERMUTATION

in_contains : {X : Type 0} (xs : List X) (x : X) → x ∈ xs → Contains xs x
in_contains [] x h = elim h [ ]
in_contains (y ∷ xs) x h = elim (split_in h) [ inl e ↦ (0, omega arith, sym e) | inr m ↦ (let c = in_contains xs x m in let l = c.1 in (suc c.0, omega arith, c.2)) ]

contains_in : {X : Type 0} (xs : List X) (x : X) → Contains xs x → x ∈ xs
contains_in [] x c = let l = c.1 in absurd (omega arith)
contains_in {X} (y ∷ xs) x (zero, l, e) = subst (λ (z : X). z ∈ (y ∷ xs)) e first
contains_in (y ∷ xs) x (suc k, l, e) = later (contains_in xs x (k, omega arith, e))

pub in_moved : {X : Type 0} (xs ys : List X) (x : X) → IsPermutation xs ys → x ∈ xs → x ∈ ys
in_moved xs ys x p h = contains_in ys x (Contains-permutation xs ys x p (in_contains xs x h))

pub in_back : {X : Type 0} (xs ys : List X) (x : X) → IsPermutation xs ys → x ∈ ys → x ∈ xs
in_back xs ys x p h = in_moved ys xs x (IsPermutation-sym xs ys p) h

-- ELEMENTS BY WHAT THEY ARE TOLD BY

module _ {X K : Type 0} (key : X → K) (below_key same_key : K → K → Bool) (order : IsOrder below_key same_key) where
  abbrev below : X → X → Bool
  below x y = below_key (key x) (key y)

  abbrev same : X → X → Bool
  same x y = same_key (key x) (key y)

  false_if : (b : Bool) → (b ≡ true → ⊥) → b ≡ false
  false_if true f = absurd (f refl)
  false_if false f = refl

  clash : {b : Bool} → b ≡ true → b ≡ false → ⊥
  clash p q = let e : true ≡ false = sym p ∙ q in absurd (cc (e))

  chained : (x y z : X) → below x y ≡ false → below y z ≡ false → below x z ≡ true → ⊥
  chained x y z h g k = by (same x y) refl
    where
      by : (b : Bool) → same x y ≡ b → ⊥
      by true e = clash (subst (λ (w : K). below_key w (key z) ≡ true) (order.is (key x) (key y) e) k) g
      by false e = clash (order.chain (key y) (key x) (key z) (order.other (key x) (key y) h e) k) g

  pub weak_order : IsStrictWeakOrder below
  weak_order = record {
    one_way = λ x y h. false_if (below y x) (λ g. order.not_own (key x) (order.chain (key x) (key y) (key x) h g));
    chain = λ x y z h g. false_if (below x z) (λ k. chained x y z h g k);
  }

  got : (xs : List X) (k : ℕ) (x : X) → slice_get xs k ≡ Some x → x ∈ xs
  got [] k x h = absurd (none-some x h)
  got (y ∷ ys) zero x h = subst (λ (z : X). z ∈ (y ∷ ys)) (same_Some y x h) first
  got (y ∷ ys) (suc k) x h = later (got ys k x h)

  -- each element of a list in order is before the last, or is it
  record IsEnd (x : X) (xs : List X) : Type 0 where
    there : x ∈ xs
    after : (y : X) → y ∈ xs → (y ≡ x) ⊎ (below y x ≡ true)

  last_of : (xs : List X) → IsInOrder below xs → (x : X) → slice_get xs (length xs - 1) ≡ Some x → IsEnd x xs
  last_of [] r x h = absurd (none-some x h)
  last_of (y ∷ []) r x h =
      let e : y ≡ x = same_Some y x h in
      record { there = subst (λ (z : X). z ∈ (y ∷ [])) e first; after = λ z i. elim (split_in i) [ inl p ↦ inl (p ∙ e) | inr j ↦ elim j [ ] ] }
  last_of (y ∷ z ∷ zs) r x h =
      let l = last_of (z ∷ zs) r.1 x (moved h) in
      record {
        there = later l.there;
        after = λ w i. elim (split_in i) [ inl p ↦ inr (subst (λ (v : X). below v x ≡ true) (sym p) (r.0 x l.there)) | inr j ↦ l.after w j ];
      }
    where
      moved : slice_get (y ∷ z ∷ zs) (length (y ∷ z ∷ zs) - 1) ≡ Some x → slice_get (z ∷ zs) (length (z ∷ zs) - 1) ≡ Some x
      moved g =
          let e : length (y ∷ z ∷ zs) - 1 ≡ suc (length (z ∷ zs) - 1) = omega arith in
          subst (λ (k : ℕ). slice_get (y ∷ z ∷ zs) k ≡ Some x) e g

  -- lists in which none is before an earlier one
  abbrev NoneBefore : List X → Type 0
  NoneBefore [] = Unit {0}
  NoneBefore (x ∷ xs) = ((y : X) → y ∈ xs → below y x ≡ false) × NoneBefore xs

  abbrev AreBehind : List X → List X → Type 0
  AreBehind found xs = (y x : X) → y ∈ found → x ∈ xs → below x y ≡ false

  put_ordered : (found : List X) (x : X) → IsInOrder below found → ((y : X) → y ∈ found → below y x ≡ true) → IsInOrder below (found ++ x ∷ [])
  put_ordered [] x r f = ((λ y i. elim i [ ]), tt)
  put_ordered (y ∷ ys) x r f = (
    (λ z i. elim (either ys (x ∷ []) i) [ inl j ↦ r.0 z j | inr j ↦ elim (split_in j) [ inl p ↦ subst (λ (w : X). below y w ≡ true) (sym p) (f y first) | inr k ↦ elim k [ ] ] ]),
    put_ordered ys x r.1 (λ z j. f z (later j)),
  )

  none_in : (xs : List X) → slice_get xs (length xs - 1) ≡ None → (x : X) → x ∈ xs → ⊥
  none_in [] e x j = elim j [ ]
  none_in (y ∷ []) e x j = none-some y (sym e)
  none_in (y ∷ z ∷ zs) e x j =
      let k : length (y ∷ z ∷ zs) - 1 ≡ suc (length (z ∷ zs) - 1) = omega arith in
      none_in (z ∷ zs) (subst (λ (n : ℕ). slice_get (y ∷ z ∷ zs) n ≡ None) k e) z first

  last_before : (found : List X) (x : X) → IsInOrder below found → ((y : X) → y ∈ found → below x y ≡ false) → is_last same found x ≡ false → (y : X) → y ∈ found → below y x ≡ true
  last_before found x r f h y i = by (slice_get found (length found - 1)) refl h
    where
      by : (o : Option X) → slice_get found (length found - 1) ≡ o → elim o [ None ↦ false | Some z ↦ same x z ] ≡ false → below y x ≡ true
      by None e g = absurd (none_in found e y i)
      by (Some z) e g =
          let l = last_of found r z e in
          let w = order.other (key x) (key z) (f z l.there) g in
          elim (l.after y i) [ inl p ↦ subst (λ (v : X). below v x ≡ true) (sym p) w | inr b ↦ order.chain (key y) (key z) (key x) b w ]

  -- so each stands once, in order
  once_ordered : (found xs : List X) → IsInOrder below found → NoneBefore xs → AreBehind found xs → IsInOrder below (each_once same found xs)
  once_ordered found [] r n b = r
  once_ordered found (x ∷ xs) r n b = by (is_last same found x) refl (λ q c. once_ordered found xs q n.1 c) (λ q c. once_ordered (found ++ x ∷ []) xs q n.1 c)
    where
      by : (t : Bool) → is_last same found x ≡ t → (IsInOrder below found → AreBehind found xs → IsInOrder below (each_once same found xs))
          → (IsInOrder below (found ++ x ∷ []) → AreBehind (found ++ x ∷ []) xs → IsInOrder below (each_once same (found ++ x ∷ []) xs))
          → IsInOrder below (each_once same (if t then found else found ++ x ∷ []) xs)
      by true e here more = here r (λ y z i j. b y z i (later j))
      by false e here more =
          more (put_ordered found x r (last_before found x r (λ y i. b y x i first) e))
          (λ y z i j. elim (either found (x ∷ []) i) [
            | inl k ↦ b y z k (later j)
            | inr k ↦ elim (split_in k) [ inl p ↦ subst (λ (w : X). below z w ≡ false) (sym p) (n.0 z j) | inr m ↦ elim m [ ] ]
          ])

  -- what stands there was there
  once_from : (found xs : List X) (y : X) → y ∈ each_once same found xs → (y ∈ found) ⊎ (y ∈ xs)
  once_from found [] y i = inl i
  once_from found (x ∷ xs) y i = by (is_last same found x) (once_from (if is_last same found x then found else found ++ x ∷ []) xs y i)
    where
      by : (t : Bool) → (y ∈ (if t then found else found ++ x ∷ [])) ⊎ (y ∈ xs) → (y ∈ found) ⊎ (y ∈ (x ∷ xs))
      by t (inr j) = inr (later j)
      by true (inl j) = inl j
      by false (inl j) = elim (either found (x ∷ []) j) [ inl k ↦ inl k | inr k ↦ elim (split_in k) [ inl e ↦ inr (subst (λ (z : X). z ∈ (x ∷ xs)) (sym e) first) | inr m ↦ elim m [ ] ] ]

  -- and all that were there stand there
  once_keeps : (found xs : List X) (y : X) → y ∈ found → y ∈ each_once same found xs
  once_keeps found [] y i = i
  once_keeps found (x ∷ xs) y i = once_keeps (if is_last same found x then found else found ++ x ∷ []) xs y (by (is_last same found x))
    where
      by : (t : Bool) → y ∈ (if t then found else found ++ x ∷ [])
      by true = i
      by false = to_left found (x ∷ []) i

  abbrev HasSame : X → List X → Type 0
  HasSame x ys = (y : X) × (y ∈ ys) × (same x y ≡ true)

  once_all : (found xs : List X) (x : X) → x ∈ xs → HasSame x (each_once same found xs)
  once_all found [] x i = elim i [ ]
  once_all found (z ∷ zs) x i = elim (split_in i) [
    | inl e ↦ (let h = here (is_last same found z) refl in (h.0, once_keeps (if is_last same found z then found else found ++ z ∷ []) zs h.0 h.1, subst (λ (w : X). same w h.0 ≡ true) (sym e) h.2))
    | inr j ↦ once_all (if is_last same found z then found else found ++ z ∷ []) zs x j
  ]
    where
      last_is : (o : Option X) → slice_get found (length found - 1) ≡ o → elim o [ None ↦ false | Some y ↦ same z y ] ≡ true → HasSame z found
      last_is None h g = absurd (cc (g))
      last_is (Some y) h g = (y, got found (length found - 1) y h, g)

      here : (t : Bool) → is_last same found z ≡ t → HasSame z (if t then found else found ++ z ∷ [])
      here true h = last_is (slice_get found (length found - 1)) refl h
      here false h = (z, to_right found (z ∷ []) first, order.own (key z))

  -- a sorted list
  behind : (x : X) (xs : List X) → IsSortedBy below (x ∷ xs) → IsSortedBy below xs
  behind x xs f = λ k d l h.
      let e : suc k + 1 ≡ suc (k + 1) = omega arith in
      subst (λ (n : ℕ). below (slice_index_or (x ∷ xs) n d) (slice_index_or xs k d) ≡ false) e (f (suc k) d (omega arith) (omega arith))

  none_earlier : (x : X) (xs : List X) → IsSortedBy below (x ∷ xs) → (y : X) → y ∈ xs → below y x ≡ false
  none_earlier x [] f y i = elim i [ ]
  none_earlier x (z ∷ zs) f y i = elim (split_in i) [
    | inl e ↦ subst (λ (w : X). below w x ≡ false) (sym e) (f 0 x (omega arith) (omega arith))
    | inr j ↦ weak_order.chain y z x (none_earlier z zs (behind x (z ∷ zs) f) y j) (f 0 x (omega arith) (omega arith))
  ]

  sorted_none : (xs : List X) → IsSortedBy below xs → NoneBefore xs
  sorted_none [] f = tt
  sorted_none (x ∷ xs) f = (none_earlier x xs f, sorted_none xs (behind x xs f))

  -- all elements of a list, sorted and each once
  pub lists_all : (xs sorted found : List X) → IsPermutation xs sorted → IsSortedBy below sorted → found ≡ each_once same [] sorted → Lists below same xs found
  lists_all xs sorted found moved rises is = subst (λ (ys : List X). Lists below same xs ys) (sym is) (record {
    in_order = once_ordered [] sorted tt (sorted_none sorted rises) (λ y x i j. elim i [ ]);
    each = λ y i. elim (once_from [] sorted y i) [ inl j ↦ elim j [ ] | inr j ↦ in_back xs sorted y moved j ];
    all = λ x i. once_all [] sorted x (in_moved xs sorted x moved i);
  })
