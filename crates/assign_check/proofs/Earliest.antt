-- The fault that is answered is a fault, and none precedes it.
use Rattle.std.proofs.Common.{◌≡◌, ◌⊎◌, inl, inr, ℕ, ◌<◌, ◌≤◌, Bool, true, false, List, [], ◌∷◌, refl, sym, ◌∙◌, subst, arith}
use Rattle.std.specs.Prelude.{nat_lt, nat_eq, cond, Option, Some, None}
use Rattle.std.proofs.lemmas.Bool.{ltb-true, eqb-true}
use Rattle.language.specs.Members.{◌∈◌, first, later}
use Rattle.assign_check.specs.declared.fault.AssignFault.{AssignFault}
use Rattle.assign_check.specs.Faults.{place, code, precedes, earlier, first_among, first_fault}

-- THE ORDER

-- not earlier: behind, or at the same place with no smaller code
abbrev NotBefore : AssignFault → AssignFault → Type 0
NotBefore f g = (place g < place f) ⊎ ((place f ≡ place g) × (code g ≤ code f))

not_less : (m n : ℕ) → nat_lt m n ≡ false → n ≤ m
not_less m n is = grind arith

further : (m n : ℕ) → nat_lt m n ≡ false → nat_eq m n ≡ false → n < m
further m n less same = grind arith

not_before : (f g : AssignFault) → precedes f g ≡ false → NotBefore f g
not_before f g is = by (nat_lt (place f) (place g)) refl (nat_eq (place f) (place g)) refl (nat_lt (code f) (code g)) refl
  where
    by : (a : Bool) → nat_lt (place f) (place g) ≡ a → (b : Bool) → nat_eq (place f) (place g) ≡ b → (d : Bool) → nat_lt (code f) (code g) ≡ d → NotBefore f g
    by true less b same d low = absurd (cc)
    by false less true same true low = absurd (cc)
    by false less true same false low = inr (eqb-true (place f) (place g) same, not_less (code f) (code g) low)
    by false less false same d low = inl (further (place f) (place g) less same)

precedes_not : (f g : AssignFault) → NotBefore f g → precedes f g ≡ false
precedes_not f g not = by (nat_lt (place f) (place g)) refl (nat_eq (place f) (place g)) refl (nat_lt (code f) (code g)) refl not
  where
    by : (a : Bool) → nat_lt (place f) (place g) ≡ a → (b : Bool) → nat_eq (place f) (place g) ≡ b → (d : Bool) → nat_lt (code f) (code g) ≡ d → NotBefore f g → precedes f g ≡ false
    by true less b same d low (inl h) = let l = ltb-true (place f) (place g) less in absurd (omega arith)
    by true less b same d low (inr h) = let l = ltb-true (place f) (place g) less in let e = h.0 in absurd (omega arith)
    by false less true same true low (inl h) = let e = eqb-true (place f) (place g) same in absurd (omega arith)
    by false less true same true low (inr h) = let l = ltb-true (code f) (code g) low in let k = h.1 in absurd (omega arith)
    by false less true same false low not = cc
    by false less false same d low not = cc

not_itself : (f : AssignFault) → precedes f f ≡ false
not_itself f = precedes_not f f (inr (refl, omega arith))

not_on : (f g h : AssignFault) → precedes g f ≡ false → precedes h g ≡ false → precedes h f ≡ false
not_on f g h one two = precedes_not h f (by (not_before g f one) (not_before h g two))
  where
    by : NotBefore g f → NotBefore h g → NotBefore h f
    by (inl a) (inl b) = inl (omega arith)
    by (inl a) (inr b) = let e = b.0 in inl (omega arith)
    by (inr a) (inl b) = let e = a.0 in inl (omega arith)
    by (inr a) (inr b) = let k = a.1 in let l = b.1 in inr (b.0 ∙ a.0, omega arith)

-- what precedes another is not preceded by it
not_back : (f g : AssignFault) → precedes f g ≡ true → precedes g f ≡ false
not_back f g is = by (nat_lt (place f) (place g)) refl (nat_eq (place f) (place g)) refl (nat_lt (code f) (code g)) refl
  where
    by : (a : Bool) → nat_lt (place f) (place g) ≡ a → (b : Bool) → nat_eq (place f) (place g) ≡ b → (d : Bool) → nat_lt (code f) (code g) ≡ d → precedes g f ≡ false
    by true less b same d low = let l = ltb-true (place f) (place g) less in precedes_not g f (inl (omega arith))
    by false less true same true low = let l = ltb-true (code f) (code g) low in precedes_not g f (inr (sym (eqb-true (place f) (place g) same), omega arith))
    by false less true same false low = absurd (cc)
    by false less false same d low = absurd (cc)

-- THE FIRST ONE

-- the answer is the best so far or one of the list, and nothing of both precedes it
record Answered (best : Option AssignFault) (fs : List AssignFault) (f : AssignFault) : Type 0 where
  there : (best ≡ Some f) ⊎ (f ∈ fs)
  first_of_all : (g : AssignFault) → g ∈ fs → precedes g f ≡ false
  and_of_best : (b : AssignFault) → best ≡ Some b → precedes b f ≡ false

same_fault : (f g : AssignFault) → Some f ≡ Some g → f ≡ g
same_fault f g is = cc

answered : (fs : List AssignFault) (best : Option AssignFault) (f : AssignFault) → first_among best fs ≡ Some f → Answered best fs f
answered [] best f is = record {
  there = inl is;
  first_of_all = λ g there. elim there [ ];
  and_of_best = λ b same. subst (λ x. precedes x f ≡ false) (same_fault f b (sym is ∙ same)) (not_itself f);
}
answered (g ∷ gs) None f is =
    let rest = answered gs (Some g) f is in
    record {
      there = inr (by rest.there);
      first_of_all = all rest;
      and_of_best = λ b same. absurd (cc);
    }
  where
    by : (Some g ≡ Some f) ⊎ (f ∈ gs) → f ∈ (g ∷ gs)
    by (inl same) = subst (λ x. x ∈ (g ∷ gs)) (same_fault g f same) first
    by (inr there) = later there

    all : Answered (Some g) gs f → (h : AssignFault) → h ∈ (g ∷ gs) → precedes h f ≡ false
    all rest h first = rest.and_of_best h refl
    all rest h (later there) = rest.first_of_all h there
answered (g ∷ gs) (Some b) f is = by (precedes g b) refl (answered gs (earlier (Some b) g) f is)
  where
    by : (v : Bool) → precedes g b ≡ v → Answered (cond v (Some g) (Some b)) gs f → Answered (Some b) (g ∷ gs) f
    by true less rest = record { there = inr (which rest.there); first_of_all = all; and_of_best = λ h same. subst (λ x. precedes x f ≡ false) (same_fault b h same) of_best }
      where
        which : (Some g ≡ Some f) ⊎ (f ∈ gs) → f ∈ (g ∷ gs)
        which (inl same) = subst (λ x. x ∈ (g ∷ gs)) (same_fault g f same) first
        which (inr there) = later there

        of_best : precedes b f ≡ false
        of_best = not_on f g b (rest.and_of_best g refl) (not_back g b less)

        all : (h : AssignFault) → h ∈ (g ∷ gs) → precedes h f ≡ false
        all h first = rest.and_of_best h refl
        all h (later there) = rest.first_of_all h there
    by false less rest = record { there = which rest.there; first_of_all = all; and_of_best = rest.and_of_best }
      where
        which : (Some b ≡ Some f) ⊎ (f ∈ gs) → (Some b ≡ Some f) ⊎ (f ∈ (g ∷ gs))
        which (inl same) = inl same
        which (inr there) = inr (later there)

        all : (h : AssignFault) → h ∈ (g ∷ gs) → precedes h f ≡ false
        all h first = not_on f b g (rest.and_of_best b refl) less
        all h (later there) = rest.first_of_all h there

pub first_there : (fs : List AssignFault) (f : AssignFault) → first_fault fs ≡ Some f → f ∈ fs
first_there fs f is = by (answered fs None f is).there
  where
    by : (None ≡ Some f) ⊎ (f ∈ fs) → f ∈ fs
    by (inl none) = absurd (cc)
    by (inr there) = there

pub first_before_all : (fs : List AssignFault) (f g : AssignFault) → first_fault fs ≡ Some f → g ∈ fs → precedes g f ≡ false
first_before_all fs f g is there = (answered fs None f is).first_of_all g there
