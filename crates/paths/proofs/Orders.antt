-- Orders by one thing and then by another, and of lists.
use Rattle.std.proofs.Common.{◌≡◌, ◌⊎◌, inl, inr, ℕ, ◌<◌, Bool, true, false, ◌&&◌, ◌||◌, List, [], ◌∷◌, drop, length, zero, suc, refl, sym, ◌∙◌, subst, arith}
use Rattle.std.specs.Prelude.{nat_eq, nat_lt}
use Rattle.std.proofs.lemmas.Bool.{and_from, or_cases, or_parts, or_left, or_right, and_parts}
use Rattle.values.specs.Keys.{key_below, same_key}
use Rattle.values.proofs.Keys.{key_below-irreflexive, key_below-other, key_below-trans, same_key-eq, same_key-refl}
use Rattle.paths.specs.declared.steps.Step.{Step}
use Rattle.paths.specs.Order.{path_below, same_path, same_step, step_below}

-- of two things one is below the other, or they are the same
pub record IsOrder {X : Type 0} (below same : X → X → Bool) : Type 0 where
  pub chain : (x y z : X) → below x y ≡ true → below y z ≡ true → below x z ≡ true
  pub not_own : (x : X) → below x x ≡ true → ⊥
  pub other : (x y : X) → below x y ≡ false → same x y ≡ false → below y x ≡ true
  pub is : (x y : X) → same x y ≡ true → x ≡ y
  pub own : (x : X) → same x x ≡ true

-- TESTS

and_none : (a b : Bool) → a ≡ true → (a && b) ≡ false → b ≡ false
and_none true b h g = g
and_none false b h g = absurd (cc (h))

-- NUMBERS AND KEYS

pub number_order : IsOrder nat_lt nat_eq
number_order = record {
  chain = λ x y z h g. grind arith;
  not_own = λ x h. grind arith;
  other = λ x y h g. grind arith;
  is = λ x y h. grind arith;
  own = λ x. grind arith;
}

key_order : IsOrder key_below same_key
key_order = record {
  chain = key_below-trans;
  not_own = λ x h. let e : true ≡ false = sym h ∙ key_below-irreflexive x in absurd (cc (e));
  other = λ x y h g. key_below-other x y g h;
  is = same_key-eq;
  own = same_key-refl;
}

-- BY ONE THING, AND THEN BY ANOTHER

module _ {X A B : Type 0} (f : X → A) (g : X → B) (both_is : (x y : X) → f x ≡ f y → g x ≡ g y → x ≡ y) (below1 same1 : A → A → Bool) (below2 same2 : B → B → Bool)
    (one : IsOrder below1 same1) (two : IsOrder below2 same2) where
  abbrev pub below_by : X → X → Bool
  below_by x y = below1 (f x) (f y) || (same1 (f x) (f y) && below2 (g x) (g y))

  abbrev pub same_by : X → X → Bool
  same_by x y = same1 (f x) (f y) && same2 (g x) (g y)

  -- the first is below, or the same with the second below
  abbrev Either : X → X → Type 0
  Either x y = (below1 (f x) (f y) ≡ true) ⊎ ((f x ≡ f y) × (below2 (g x) (g y) ≡ true))

  told : (x y : X) → below_by x y ≡ true → Either x y
  told x y h = elim (or_cases (below1 (f x) (f y)) _ h) [
    | inl a ↦ inl a
    | inr a ↦ (let p = and_parts (same1 (f x) (f y)) _ a in inr (one.is (f x) (f y) p.0, p.1))
  ]

  by_first : (x y : X) → below1 (f x) (f y) ≡ true → below_by x y ≡ true
  by_first x y h = or_left (below1 (f x) (f y)) _ h

  by_second : (x y : X) → f x ≡ f y → below2 (g x) (g y) ≡ true → below_by x y ≡ true
  by_second x y e h = or_right (below1 (f x) (f y)) _ (and_from (same1 (f x) (f y)) _ (subst (λ z. same1 (f x) z ≡ true) e (one.own (f x))) h)

  chained : (x y z : X) → Either x y → Either y z → below_by x z ≡ true
  chained x y z (inl a) (inl b) = by_first x z (one.chain (f x) (f y) (f z) a b)
  chained x y z (inl a) (inr b) = by_first x z (subst (λ w. below1 (f x) w ≡ true) b.0 a)
  chained x y z (inr a) (inl b) = by_first x z (subst (λ w. below1 w (f z) ≡ true) (sym a.0) b)
  chained x y z (inr a) (inr b) = by_second x z (a.0 ∙ b.0) (two.chain (g x) (g y) (g z) a.1 b.1)

  not_own_by : (x : X) → Either x x → ⊥
  not_own_by x (inl a) = one.not_own (f x) a
  not_own_by x (inr a) = two.not_own (g x) a.1

  other_by : (x y : X) → below_by x y ≡ false → same_by x y ≡ false → below_by y x ≡ true
  other_by x y h k = let p = or_parts (below1 (f x) (f y)) _ h in by (same1 (f x) (f y)) refl p.0 p.1
    where
      by : (b : Bool) → same1 (f x) (f y) ≡ b → below1 (f x) (f y) ≡ false → (same1 (f x) (f y) && below2 (g x) (g y)) ≡ false → below_by y x ≡ true
      by true e l m = by_second y x (sym (one.is (f x) (f y) e)) (two.other (g x) (g y) (and_none (same1 (f x) (f y)) _ e m) (and_none (same1 (f x) (f y)) _ e k))
      by false e l m = by_first y x (one.other (f x) (f y) l e)

  pub order_by : IsOrder below_by same_by
  order_by = record {
    chain = λ x y z h k. chained x y z (told x y h) (told y z k);
    not_own = λ x h. not_own_by x (told x x h);
    other = other_by;
    is = λ x y h. (let p = and_parts (same1 (f x) (f y)) _ h in both_is x y (one.is (f x) (f y) p.0) (two.is (g x) (g y) p.1));
    own = λ x. and_from (same1 (f x) (f x)) _ (one.own (f x)) (two.own (g x));
  }

-- STEPS AND PATHS

pub step_order : IsOrder step_below same_step
step_order = order_by (λ (s : Step). s.offset) (λ (s : Step). s.key) (λ s t p q. λ i. record { offset = p i; key = q i }) nat_lt nat_eq key_below same_key number_order key_order

path_chain : (p q r : List Step) → path_below p q ≡ true → path_below q r ≡ true → path_below p r ≡ true
path_chain [] q (u ∷ r) h g = refl
path_chain [] [] [] h g = h
path_chain [] (t ∷ q) [] h g = g
path_chain (s ∷ p) [] r h g = absurd (cc (h))
path_chain (s ∷ p) (t ∷ q) [] h g = g
path_chain (s ∷ p) (t ∷ q) (u ∷ r) h g = by (path_chain p q r) (or_cases (step_below s t) _ h) (or_cases (step_below t u) _ g)
  where
    by : (path_below p q ≡ true → path_below q r ≡ true → path_below p r ≡ true) → (step_below s t ≡ true) ⊎ ((same_step s t && path_below p q) ≡ true) → (step_below t u ≡ true) ⊎ ((same_step t u && path_below q r) ≡ true) → path_below (s ∷ p) (u ∷ r) ≡ true
    by f (inl a) (inl b) = or_left (step_below s u) _ (step_order.chain s t u a b)
    by f (inl a) (inr b) = (let x = and_parts (same_step t u) _ b in or_left (step_below s u) _ (subst (λ z. step_below s z ≡ true) (step_order.is t u x.0) a))
    by f (inr a) (inl b) = (let x = and_parts (same_step s t) _ a in or_left (step_below s u) _ (subst (λ z. step_below z u ≡ true) (sym (step_order.is s t x.0)) b))
    by f (inr a) (inr b) =
        let x = and_parts (same_step s t) _ a in
        let y = and_parts (same_step t u) _ b in
        or_right (step_below s u) _ (and_from (same_step s u) _ (subst (λ z. same_step s z ≡ true) (step_order.is t u y.0) x.0) (f x.1 y.1))

path_not_own : (p : List Step) → path_below p p ≡ true → ⊥
path_not_own [] h = absurd (cc (h))
path_not_own (s ∷ p) h = elim (or_cases (step_below s s) _ h) [ inl a ↦ step_order.not_own s a | inr a ↦ path_not_own p (and_parts (same_step s s) _ a).1 ]

path_other : (p q : List Step) → path_below p q ≡ false → same_path p q ≡ false → path_below q p ≡ true
path_other [] [] h g = absurd (cc (g))
path_other [] (t ∷ q) h g = absurd (cc (h))
path_other (s ∷ p) [] h g = refl
path_other (s ∷ p) (t ∷ q) h g = (let x = or_parts (step_below s t) _ h in by (path_other p q) (same_step s t) refl x.0 x.1)
  where
    by : (path_below p q ≡ false → same_path p q ≡ false → path_below q p ≡ true) → (b : Bool) → same_step s t ≡ b → step_below s t ≡ false → (same_step s t && path_below p q) ≡ false → path_below (t ∷ q) (s ∷ p) ≡ true
    by f true e l k = or_right (step_below t s) _ (and_from (same_step t s) _ (subst (λ z. same_step z s ≡ true) (step_order.is s t e) (step_order.own s)) (f (and_none (same_step s t) _ e k) (and_none (same_step s t) _ e g)))
    by f false e l k = or_left (step_below t s) _ (step_order.other s t l e)

path_is : (p q : List Step) → same_path p q ≡ true → p ≡ q
path_is [] [] h = refl
path_is [] (t ∷ q) h = absurd (cc (h))
path_is (s ∷ p) [] h = absurd (cc (h))
path_is (s ∷ p) (t ∷ q) h = (let x = and_parts (same_step s t) _ h in let a = step_order.is s t x.0 in let b = path_is p q x.1 in λ i. a i ∷ b i)

path_own : (p : List Step) → same_path p p ≡ true
path_own [] = refl
path_own (s ∷ p) = and_from (same_step s s) _ (step_order.own s) (path_own p)

pub path_order : IsOrder path_below same_path
path_order = record { chain = path_chain; not_own = path_not_own; other = path_other; is = path_is; own = path_own }

-- paths that are at their end
pub below_none : (p q : List Step) → length q < 1 → false ≡ path_below p q
below_none [] [] h = refl
below_none (s ∷ p) [] h = refl
below_none p (t ∷ q) h = absurd (omega (arith, h))

pub same_none : (p q : List Step) (i : ℕ) → i < length p → length q < 1 → false ≡ same_path (drop i p) q
same_none [] q i h k = absurd (omega (arith, h))
same_none (s ∷ p) [] zero h k = refl
same_none (s ∷ p) (t ∷ q) zero h k = absurd (omega (arith, k))
same_none (s ∷ p) q (suc i) h k = same_none p q i (omega (arith, h)) k
