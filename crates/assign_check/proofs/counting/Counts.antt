-- Counts of variables in lists, and lists of faults that are empty.
use Rattle.std.specs.Prelude.{◌≡◌, ◌⊎◌, ◌+◌, ◌≤◌, Bool, true, false, ◌||◌, cond, List, [], ◌∷◌, ◌++◌, refl}
use Rattle.std.specs.List.{list_any, flat_map}
use Rattle.std.proofs.Common.{inl, inr, sym, ap, ◌∙◌, subst, arith}
use Rattle.std.proofs.lemmas.Bool.{eqb-true, eq-eqb}
use Rattle.language.specs.Core.{Owned, local, input, output}
use Rattle.language.specs.Members.{◌∈◌, first, later}
use Rattle.language.proofs.Members.{split_in}
use Rattle.assign_check.specs.Outline.{Kind, named, written, read}
use Rattle.assign_check.specs.Faults.{same, one_if, times, is_among, is_kind}

-- VARIABLES

pub same_self : (x : Owned) → same x x ≡ true
same_self (local n) = eq-eqb n n refl
same_self (input n) = eq-eqb n n refl
same_self (output n) = eq-eqb n n refl

pub same_is : (x y : Owned) → same x y ≡ true → x ≡ y
same_is (local m) (local n) h = ap local (eqb-true m n h)
same_is (input m) (input n) h = ap input (eqb-true m n h)
same_is (output m) (output n) h = ap output (eqb-true m n h)
same_is (local m) (input n) h = absurd (cc (h))
same_is (local m) (output n) h = absurd (cc (h))
same_is (input m) (local n) h = absurd (cc (h))
same_is (input m) (output n) h = absurd (cc (h))
same_is (output m) (local n) h = absurd (cc (h))
same_is (output m) (input n) h = absurd (cc (h))

pub same_from : {x y : Owned} → x ≡ y → same x y ≡ true
same_from {x} {y} e = subst (λ (z : Owned). same x z ≡ true) e (same_self x)

pub same_or : (x y : Owned) → (x ≡ y) ⊎ (same x y ≡ false)
same_or x y = by (same x y) refl
  where
    by : (b : Bool) → same x y ≡ b → (x ≡ y) ⊎ (same x y ≡ false)
    by true e = inl (same_is x y e)
    by false e = inr e

pub same_not : (x y : Owned) → (x ≡ y → ⊥) → same x y ≡ false
same_not x y h = elim (same_or x y) [ inl e ↦ absurd (h e) | inr e ↦ e ]

-- KINDS

pub kind_is : (k j : Kind) → is_kind k j ≡ true → k ≡ j
kind_is named named h = refl
kind_is written written h = refl
kind_is read read h = refl
kind_is named written h = absurd (cc (h))
kind_is named read h = absurd (cc (h))
kind_is written named h = absurd (cc (h))
kind_is written read h = absurd (cc (h))
kind_is read named h = absurd (cc (h))
kind_is read written h = absurd (cc (h))

pub kind_self : (k : Kind) → is_kind k k ≡ true
kind_self named = refl
kind_self written = refl
kind_self read = refl

pub kind_from : {k j : Kind} → k ≡ j → is_kind k j ≡ true
kind_from {k} {j} e = subst (λ (z : Kind). is_kind k z ≡ true) e (kind_self k)

-- COUNTS

pub times_append : (x : Owned) (xs ys : List Owned) → times x (xs ++ ys) ≡ times x xs + times x ys
times_append x [] ys = omega arith
times_append x (z ∷ xs) ys = let rest = times_append x xs ys in omega arith

pub times_self : (x : Owned) → times x (x ∷ []) ≡ 1
times_self x = ap (λ (b : Bool). one_if b + 0) (same_self x)

pub times_other : {x y : Owned} → (y ≡ x → ⊥) → times x (y ∷ []) ≡ 0
times_other {x} {y} h = ap (λ (b : Bool). one_if b + 0) (same_not y x h)

pub among_counts : (x : Owned) (ys : List Owned) → is_among x ys ≡ true → 1 ≤ times x ys
among_counts x [] h = absurd (cc (h))
among_counts x (y ∷ ys) h = by (same y x) refl h (λ k. among_counts x ys k)
  where
    by : (b : Bool) → same y x ≡ b → (b || is_among x ys) ≡ true → (is_among x ys ≡ true → 1 ≤ times x ys) → 1 ≤ times x (y ∷ ys)
    by true e k rec = let one : one_if (same y x) ≡ 1 = ap one_if e in omega arith
    by false e k rec = let rest = rec k in omega arith

pub counts_in : (x : Owned) (ys : List Owned) → 1 ≤ times x ys → x ∈ ys
counts_in x [] h = absurd (omega arith)
counts_in x (y ∷ ys) h = elim (same_or y x) [
  | inl e ↦ subst (λ (z : Owned). z ∈ (y ∷ ys)) e first
  | inr e ↦ (let none : one_if (same y x) ≡ 0 = ap one_if e in later (counts_in x ys (omega arith)))
]

pub among_in : (x : Owned) (ys : List Owned) → is_among x ys ≡ true → x ∈ ys
among_in x ys h = counts_in x ys (among_counts x ys h)

pub in_among : (x : Owned) (ys : List Owned) → x ∈ ys → is_among x ys ≡ true
in_among x [] i = elim i [ ]
in_among x (y ∷ ys) i = elim (split_in i) [
  | inl e ↦ ap (λ (b : Bool). b || is_among x ys) (same_from (sym e))
  | inr j ↦ by (same y x) (in_among x ys j)
]
  where
    by : (b : Bool) → is_among x ys ≡ true → (b || is_among x ys) ≡ true
    by true h = refl
    by false h = h

pub times_zero : (x : Owned) (ys : List Owned) → (x ∈ ys → ⊥) → times x ys ≡ 0
times_zero x [] h = refl
times_zero x (y ∷ ys) h =
    let rest = times_zero x ys (λ i. h (later i)) in
    let none : one_if (same y x) ≡ 0 = ap one_if (same_not y x (λ e. h (subst (λ (z : Owned). z ∈ (y ∷ ys)) e first))) in
    omega arith

-- LISTS OF FAULTS

module _ {A : Type 0} where
  pub none_left : (xs ys : List A) → xs ++ ys ≡ [] → xs ≡ []
  none_left [] ys h = refl
  none_left (x ∷ xs) ys h = absurd (cc (h))

  pub none_right : (xs ys : List A) → xs ++ ys ≡ [] → ys ≡ []
  none_right [] ys h = h
  none_right (x ∷ xs) ys h = absurd (cc (h))

  pub none_both : {xs ys : List A} → xs ≡ [] → ys ≡ [] → xs ++ ys ≡ []
  none_both {xs} {ys} e f = ap (λ (zs : List A). zs ++ ys) e ∙ f

  pub only_if_none : (b : Bool) (x : A) → cond b (x ∷ []) [] ≡ [] → b ≡ false
  only_if_none true x h = absurd (cc (h))
  only_if_none false x h = refl

  pub only_unless_none : (b : Bool) (x : A) → cond b [] (x ∷ []) ≡ [] → b ≡ true
  only_unless_none true x h = refl
  only_unless_none false x h = absurd (cc (h))

  pub any_false : (f : A → Bool) (xs : List A) → ((x : A) → x ∈ xs → f x ≡ false) → list_any f xs ≡ false
  any_false f [] h = refl
  any_false f (x ∷ xs) h = ap (λ (b : Bool). b || list_any f xs) (h x first) ∙ any_false f xs (λ y i. h y (later i))

  pub false_any : (f : A → Bool) (xs : List A) → list_any f xs ≡ false → (x : A) → x ∈ xs → f x ≡ false
  false_any f [] h x i = elim i [ ]
  false_any f (y ∷ ys) h x i = by (f y) refl h (λ k j. false_any f ys k x j)
    where
      by : (b : Bool) → f y ≡ b → (b || list_any f ys) ≡ false → (list_any f ys ≡ false → x ∈ ys → f x ≡ false) → f x ≡ false
      by true e k rec = absurd (cc (k))
      by false e k rec = elim (split_in i) [ inl q ↦ ap f q ∙ e | inr j ↦ rec k j ]

pub none_each : {A B : Type 0} (f : A → List B) (xs : List A) → flat_map f xs ≡ [] → (x : A) → x ∈ xs → f x ≡ []
none_each f [] h x i = elim i [ ]
none_each f (y ∷ ys) h x i = elim (split_in i) [
  | inl q ↦ ap f q ∙ none_left (f y) (flat_map f ys) h
  | inr j ↦ none_each f ys (none_right (f y) (flat_map f ys) h) x j
]

pub each_none : {A B : Type 0} (f : A → List B) (xs : List A) → ((x : A) → x ∈ xs → f x ≡ []) → flat_map f xs ≡ []
each_none f [] h = refl
each_none f (x ∷ xs) h = none_both (h x first) (each_none f xs (λ y i. h y (later i)))
