-- The branches of an `if`: what their numbers of assignments have in common.
use Rattle.std.specs.Prelude.{◌≡◌, ◌⊎◌, ℕ, Bool, true, false, ◌&&◌, ◌||◌, cond, List, [], ◌∷◌, ◌++◌, Option, refl}
use Rattle.std.specs.List.{list_any}
use Rattle.std.proofs.Common.{inl, inr, sym, ap, ◌∙◌, subst}
use Rattle.lexer.specs.declared.token.Span.{Span}
use Rattle.language.specs.Core.{Owned}
use Rattle.language.specs.Members.{◌∈◌, first, later}
use Rattle.language.proofs.Members.{split_in, to_left, to_right}
use Rattle.assign_check.specs.declared.fault.AssignFault.TheVariants.{PartlyAssigned}
use Rattle.assign_check.specs.Outline.{Outline}
use Rattle.assign_check.specs.Faults.{is_before, is_outer, way, counts, has_more, is_uneven, branch_faults}
use Rattle.assign_check.specs.Through.{OnWay}
use Rattle.assign_check.specs.Breaks.{OnOne}
use Rattle.assign_check.proofs.counting.Counts.{only_if_none, any_false, false_any}
use Rattle.assign_check.proofs.through.Ways.{owned_is, some_way, nat_zero, way_holds}
use Rattle.assign_check.proofs.through.WayNumbers.{More, more_from, from_more, no_more, on_way, way_on}
use Rattle.std.proofs.lemmas.Bool.{or_parts, false_from_ne_true}

-- MEMBERS

pub owned_in : (x : Owned) (ys : List Owned) → (x ∈ ys) ⊎ (x ∈ ys → ⊥)
owned_in x [] = inr (λ i. elim i [ ])
owned_in x (y ∷ ys) = elim (owned_is y x) [
  | inl e ↦ inl (subst (λ (z : Owned). z ∈ (y ∷ ys)) e first)
  | inr h ↦ elim (owned_in x ys) [
    | inl i ↦ inl (later i)
    | inr k ↦ inr (λ i. elim (split_in i) [ inl e ↦ h (sym e) | inr j ↦ k j ])
  ]
]

-- ONE NUMBER ON ONE BRANCH ALONE

pub one_more : (l : Option ℕ) (x : Owned) (p q : Outline) → is_outer l x ≡ false → has_more (counts l x p) (counts l x q) ≡ true → OnOne x p q
one_more l x p q out h = by (more_from (counts l x p) (counts l x q) h)
  where
    by : More (counts l x p) (counts l x q) → OnOne x p q
    by w = record { so_often = w.number; there = on_way l x p w.number out w.there; nowhere = λ v. w.not_there (way_on l out v) }

pub more_one : (l : Option ℕ) (x : Owned) (p q : Outline) → is_outer l x ≡ false → OnOne x p q → has_more (counts l x p) (counts l x q) ≡ true
more_one l x p q out w = from_more (record { number = w.so_often; there = way_on l out w.there; not_there = λ i. w.nowhere (on_way l x q w.so_often out i) })

-- a variable with such a number stands on a way
pub one_listed : (l : Option ℕ) (x : Owned) (p q : Outline) → is_outer l x ≡ false → OnOne x p q → (x ∈ way l p) ⊎ (x ∈ way l q)
one_listed l x p q out w = elim (nat_zero w.so_often) [
  | inr some ↦ inl (way_holds l out w.there some)
  | inl none ↦ (let v = some_way x q in elim (nat_zero v.0) [
    | inr some ↦ inr (way_holds l out v.1 some)
    | inl zero_too ↦ absurd (w.nowhere (subst (OnWay x q) (zero_too ∙ sym none) v.1))
  ])
]

-- WHERE AN `IF` HAS NO FAULT

same_numbers : (l : Option ℕ) (n : ℕ) (at : Span) (p q : Outline) (x : Owned) → branch_faults l n at p q ≡ [] → is_before n x ≡ true → is_outer l x ≡ false
    → (has_more (counts l x p) (counts l x q) ≡ false) × (has_more (counts l x q) (counts l x p) ≡ false)
same_numbers l n at p q x none h out = elim (owned_in x (way l p ++ way l q)) [
  | inl i ↦ (
      let even = false_any (is_uneven l n p q) (way l p ++ way l q) (only_if_none (list_any (is_uneven l n p q) (way l p ++ way l q)) (PartlyAssigned at) none) x i in
      or_parts (has_more (counts l x p) (counts l x q)) (has_more (counts l x q) (counts l x p))
      (sym (ap (λ (b : Bool). b && (has_more (counts l x p) (counts l x q) || has_more (counts l x q) (counts l x p))) h) ∙ even)
      )
  | inr k ↦ (
    false_from_ne_true (has_more (counts l x p) (counts l x q)) (λ m. elim (one_listed l x p q out (one_more l x p q out m)) [
      | inl i ↦ k (to_left (way l p) (way l q) i)
      | inr i ↦ k (to_right (way l p) (way l q) i)
    ]),
    false_from_ne_true (has_more (counts l x q) (counts l x p)) (λ m. elim (one_listed l x q p out (one_more l x q p out m)) [
      | inl i ↦ k (to_right (way l p) (way l q) i)
      | inr i ↦ k (to_left (way l p) (way l q) i)
    ]),
  )
]

-- a number of the first branch is one of the other
pub even : {i : ℕ} (l : Option ℕ) (n : ℕ) (at : Span) (p q : Outline) (x : Owned) → branch_faults l n at p q ≡ [] → is_before n x ≡ true → is_outer l x ≡ false → OnWay x p i → OnWay x q i
even {i = i} l n at p q x none h out w = on_way l x q i out (no_more (counts l x p) (counts l x q) (same_numbers l n at p q x none h out).0 i (way_on l out w))

-- and where all ways count alike it has none
pub no_branch_fault : (l : Option ℕ) (n : ℕ) (at : Span) (p q : Outline)
    → ((x : Owned) → x ∈ (way l p ++ way l q) → is_before n x ≡ true → (is_outer l x ≡ false) × ((i j : ℕ) → OnWay x p i → OnWay x q j → i ≡ j)) → branch_faults l n at p q ≡ []
no_branch_fault l n at p q h = ap (λ (b : Bool). cond b (PartlyAssigned at ∷ []) []) (any_false (is_uneven l n p q) (way l p ++ way l q) each)
  where
    one_side : (x : Owned) (r s : Outline) → is_outer l x ≡ false → ((i j : ℕ) → OnWay x r i → OnWay x s j → i ≡ j) → has_more (counts l x r) (counts l x s) ≡ false
    one_side x r s out alike = false_from_ne_true (has_more (counts l x r) (counts l x s)) (λ m. by (one_more l x r s out m))
      where
        by : OnOne x r s → ⊥
        by w = let v = some_way x s in w.nowhere (subst (OnWay x s) (sym (alike w.so_often v.0 w.there v.1)) v.1)

    each : (x : Owned) → x ∈ (way l p ++ way l q) → is_uneven l n p q x ≡ false
    each x i = by (is_before n x) refl
      where
        by : (b : Bool) → is_before n x ≡ b → is_uneven l n p q x ≡ false
        by false e = ap (λ (b : Bool). b && (has_more (counts l x p) (counts l x q) || has_more (counts l x q) (counts l x p))) e
        by true e =
            let r = h x i e in
            let one = one_side x p q r.0 r.1 in
            let other = one_side x q p r.0 (λ i j v w. sym (r.1 j i w v)) in
            ap (λ (b : Bool). b && (has_more (counts l x p) (counts l x q) || has_more (counts l x q) (counts l x p))) e
            ∙ ap (λ (b : Bool). b || has_more (counts l x q) (counts l x p)) one
            ∙ other
