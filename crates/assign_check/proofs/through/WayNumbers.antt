-- The numbers of assignments are those of the ways through a block.
use Rattle.std.specs.Prelude.{◌≡◌, ◌⊎◌, ℕ, ◌+◌, Bool, true, false, not, ◌||◌, nat_eq, List, [], ◌∷◌, map, Option, refl}
use Rattle.std.specs.List.{list_any}
use Rattle.std.proofs.Common.{inl, inr, sym, ap, ◌∙◌, subst}
use Rattle.std.proofs.lemmas.Bool.{eqb-true, eq-eqb}
use Rattle.language.specs.Core.{Owned}
use Rattle.language.specs.Members.{◌∈◌, first, later}
use Rattle.language.proofs.Members.{split_in, to_left, to_right, either}
use Rattle.assign_check.specs.Outline.{Outline, nothing, followed, Step, declares, uses, splits, repeats, encloses}
use Rattle.assign_check.specs.Faults.{times, is_outer, named_by, sums, counts, step_counts, is_in, has_more}
use Rattle.assign_check.specs.Through.{OnWay, at_end, and_then, OnStep, a_declaration, a_target, of_another, no_name, first_branch, other_branch, a_loop, a_wait}
use Rattle.assign_check.proofs.through.Ways.{use_counts, use_counted}

-- LISTS OF NUMBERS

pub is_in_from : (n : ℕ) (ns : List ℕ) → n ∈ ns → is_in n ns ≡ true
is_in_from n [] i = elim i [ ]
is_in_from n (m ∷ ns) i = elim (split_in i) [
  | inl e ↦ ap (λ (b : Bool). b || is_in n ns) (eq-eqb n m e)
  | inr j ↦ by (nat_eq n m) (is_in_from n ns j)
]
  where
    by : (b : Bool) → is_in n ns ≡ true → (b || is_in n ns) ≡ true
    by true h = refl
    by false h = h

pub in_from : (n : ℕ) (ns : List ℕ) → is_in n ns ≡ true → n ∈ ns
in_from n [] h = absurd (cc (h))
in_from n (m ∷ ns) h = by (nat_eq n m) refl h (λ k. in_from n ns k)
  where
    by : (b : Bool) → nat_eq n m ≡ b → (b || is_in n ns) ≡ true → (is_in n ns ≡ true → n ∈ ns) → n ∈ (m ∷ ns)
    by true e k rec = subst (λ (z : ℕ). n ∈ (z ∷ ns)) (eqb-true n m e) first
    by false e k rec = later (rec k)

pub in_or : (n : ℕ) (ns : List ℕ) → (n ∈ ns) ⊎ ((n ∈ ns → ⊥) × (is_in n ns ≡ false))
in_or n ns = by (is_in n ns) refl
  where
    by : (b : Bool) → is_in n ns ≡ b → (n ∈ ns) ⊎ ((n ∈ ns → ⊥) × (is_in n ns ≡ false))
    by true e = inl (in_from n ns e)
    by false e = inr (λ i. let no : true ≡ false = sym (is_in_from n ns i) ∙ e in absurd (cc (no)), e)

-- a number of the one list that is not in the other
pub record More (ms ns : List ℕ) : Type 0 where
  pub number : ℕ
  pub there : number ∈ ms
  pub not_there : number ∈ ns → ⊥

pub more_from : (ms ns : List ℕ) → has_more ms ns ≡ true → More ms ns
more_from ms ns h = found ms h
  where
    found : (ks : List ℕ) → list_any (λ m. not (is_in m ns)) ks ≡ true → More ks ns
    found [] h = absurd (cc (h))
    found (k ∷ ks) h = elim (in_or k ns) [
      | inl i ↦ (
          let skip : not (is_in k ns) ≡ false = ap not (is_in_from k ns i) in
          let rest = found ks (sym (ap (λ (b : Bool). b || list_any (λ m. not (is_in m ns)) ks) skip) ∙ h) in
          record { number = rest.number; there = later rest.there; not_there = rest.not_there }
          )
      | inr r ↦ record { number = k; there = first; not_there = r.0 }
    ]

pub from_more : {ms ns : List ℕ} → More ms ns → has_more ms ns ≡ true
from_more {ms} {ns} w = found ms w.there
  where
    lacks : not (is_in w.number ns) ≡ true
    lacks = elim (in_or w.number ns) [ inl i ↦ absurd (w.not_there i) | inr r ↦ ap not r.1 ]

    found : (ks : List ℕ) → w.number ∈ ks → list_any (λ m. not (is_in m ns)) ks ≡ true
    found [] i = elim i [ ]
    found (k ∷ ks) i = elim (split_in i) [
      | inl e ↦ ap (λ (z : ℕ). not (is_in z ns) || list_any (λ m. not (is_in m ns)) ks) (sym e) ∙ ap (λ (b : Bool). b || list_any (λ m. not (is_in m ns)) ks) lacks
      | inr j ↦ by (not (is_in k ns)) (found ks j)
    ]
      where
        by : (b : Bool) → list_any (λ m. not (is_in m ns)) ks ≡ true → (b || list_any (λ m. not (is_in m ns)) ks) ≡ true
        by true h = refl
        by false h = h

pub no_more : (ms ns : List ℕ) → has_more ms ns ≡ false → (n : ℕ) → n ∈ ms → n ∈ ns
no_more ms ns h n i = elim (in_or n ns) [
  | inl j ↦ j
  | inr r ↦ (let no : true ≡ false = sym (from_more (record { number = n; there = i; not_there = r.0 })) ∙ h in absurd (cc (no)))
]

-- SUMS

-- a number of each list, which make this sum
pub record Sum (k : ℕ) (ms ns : List ℕ) : Type 0 where
  pub one : ℕ
  pub other : ℕ
  pub of_one : one ∈ ms
  pub of_other : other ∈ ns
  pub is : k ≡ one + other

in_added : (m k : ℕ) (ns : List ℕ) → k ∈ map (λ n. m + n) ns → (n : ℕ) × (n ∈ ns) × (k ≡ m + n)
in_added m k [] i = elim i [ ]
in_added m k (n ∷ ns) i = elim (split_in i) [
  | inl e ↦ (n, first, e)
  | inr j ↦ (let r = in_added m k ns j in (r.0, later r.1, r.2))
]

added_in : (m n : ℕ) (ns : List ℕ) → n ∈ ns → (m + n) ∈ map (λ n. m + n) ns
added_in m n [] i = elim i [ ]
added_in m n (k ∷ ns) i = elim (split_in i) [
  | inl e ↦ subst (λ (z : ℕ). (m + n) ∈ ((m + z) ∷ map (λ n. m + n) ns)) e first
  | inr j ↦ later (added_in m n ns j)
]

pub in_sums : (k : ℕ) (ms ns : List ℕ) → k ∈ sums ms ns → Sum k ms ns
in_sums k [] ns i = elim i [ ]
in_sums k (m ∷ ms) ns i = elim (either (map (λ n. m + n) ns) (sums ms ns) i) [
  | inl j ↦ (let r = in_added m k ns j in record { one = m; other = r.0; of_one = first; of_other = r.1; is = r.2 })
  | inr j ↦ (let r = in_sums k ms ns j in record { one = r.one; other = r.other; of_one = later r.of_one; of_other = r.of_other; is = r.is })
]

pub sums_in : (m n : ℕ) (ms ns : List ℕ) → m ∈ ms → n ∈ ns → (m + n) ∈ sums ms ns
sums_in m n [] ns i j = elim i [ ]
sums_in m n (k ∷ ms) ns i j = elim (split_in i) [
  | inl e ↦ to_left (map (λ n. k + n) ns) (sums ms ns) (subst (λ (z : ℕ). (m + n) ∈ map (λ n. z + n) ns) e (added_in m n ns j))
  | inr l ↦ to_right (map (λ n. k + n) ns) (sums ms ns) (sums_in m n ms ns l j)
]

-- WAYS

only : (n m : ℕ) → n ∈ (m ∷ []) → n ≡ m
only n m i = elim (split_in i) [ inl e ↦ e | inr j ↦ elim j [ ] ]

the_only : {n m : ℕ} → n ≡ m → n ∈ (m ∷ [])
the_only {n} e = subst (λ (z : ℕ). n ∈ (z ∷ [])) e first

mutual
  -- each number is that of a way
  pub on_way : (l : Option ℕ) (x : Owned) (o : Outline) (n : ℕ) → is_outer l x ≡ false → n ∈ counts l x o → OnWay x o n
  on_way l x nothing n out i = subst (OnWay x nothing) (sym (only n 0 i)) at_end
  on_way l x (followed s o) n out i =
      let h = in_sums n (step_counts l x s) (counts l x o) i in
      and_then (on_step l x s h.one out h.of_one) (on_way l x o h.other out h.of_other) h.is

  pub on_step : (l : Option ℕ) (x : Owned) (s : Step) (n : ℕ) → is_outer l x ≡ false → n ∈ step_counts l x s → OnStep x s n
  on_step l x (declares d) n out i = subst (OnStep x (declares d)) (sym (only n 0 i)) a_declaration
  on_step l x (uses u) n out i = subst (OnStep x (uses u)) (sym (only n (times x (named_by l u.kind u.of)) i)) (use_counts l u x out)
  on_step l x (splits k at p q) n out i = elim (either (counts l x p) (counts l x q) i) [
    | inl j ↦ first_branch (on_way l x p n out j)
    | inr j ↦ other_branch (on_way l x q n out j)
  ]
  on_step l x (repeats k p) n out i = subst (OnStep x (repeats k p)) (sym (only n 0 i)) a_loop
  on_step l x (encloses p) n out i = a_wait (on_way l x p n out i)

mutual
  -- and each way has its number
  pub way_on : {x : Owned} {o : Outline} {n : ℕ} (l : Option ℕ) → is_outer l x ≡ false → OnWay x o n → n ∈ counts l x o
  way_on l out at_end = first
  way_on {x = x} l out (and_then {s = s} {o = o} {m = m} {n = n} hs ho e) =
      subst (λ (k : ℕ). k ∈ sums (step_counts l x s) (counts l x o)) (sym e) (sums_in m n (step_counts l x s) (counts l x o) (step_on l out hs) (way_on l out ho))

  pub step_on : {x : Owned} {s : Step} {n : ℕ} (l : Option ℕ) → is_outer l x ≡ false → OnStep x s n → n ∈ step_counts l x s
  step_on l out a_declaration = first
  step_on {x = x} l out (a_target {u = u} k e) = the_only (use_counted l u x out (a_target k e))
  step_on {x = x} l out (of_another {u = u} k) = the_only (use_counted l u x out (of_another k))
  step_on {x = x} l out (no_name {u = u} k) = the_only (use_counted l u x out (no_name k))
  step_on {x = x} l out (first_branch {o = o} {p = p} w) = to_left (counts l x o) (counts l x p) (way_on l out w)
  step_on {x = x} l out (other_branch {o = o} {p = p} w) = to_right (counts l x o) (counts l x p) (way_on l out w)
  step_on l out a_loop = first
  step_on l out (a_wait w) = way_on l out w
