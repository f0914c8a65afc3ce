-- Each rule that is broken on a way has its fault.
use Rattle.std.specs.Prelude.{◌≡◌, ◌⊎◌, ℕ, suc, ◌≤◌, Bool, true, false, ◌&&◌, ◌||◌, cond, List, [], ◌∷◌, ◌++◌, Option, Some, None, refl}
use Rattle.std.specs.List.{list_any}
use Rattle.std.proofs.Common.{inl, inr, sym, ap, ◌∙◌, subst, arith}
use Rattle.lexer.specs.declared.token.Span.{Span}
use Rattle.language.specs.Core.{Owned}
use Rattle.language.specs.Members.{◌∈◌, first}
use Rattle.language.proofs.Members.{split_in, to_left, to_right, either}
use Rattle.assign_check.specs.declared.fault.AssignFault.{AssignFault}
use Rattle.assign_check.specs.declared.fault.AssignFault.TheVariants.{AssignedTwice, PartlyAssigned, OuterInLoop}
use Rattle.assign_check.specs.Outline.{Kind, named, Use, Outline, Step, repeats}
use Rattle.assign_check.specs.Faults.{is_before, is_outer, is_among, given_by, way, step_way, target_faults, counts, has_more, is_uneven, branch_faults, way_faults, step_faults, split_faults, split_step, uses_in, uses_at}
use Rattle.assign_check.specs.Through.{HasStep, first_step, later_step, BlockIn, the_block, in_a_step, BlockOf, in_first, in_other, in_loop, in_wait, Counts, in_this_step, in_a_later_step, CountsIn, the_step, in_the_first, in_the_other, in_the_body, in_the_block, Reaches, at_a_step, behind_a_step, behind_its_own, ReachesIn, the_use, in_its_first, in_its_other, in_its_body, in_its_block}
use Rattle.assign_check.specs.Breaks.{OnOne, IsPartly}
use Rattle.assign_check.proofs.outlines.Scoped.{Seen, ScopedBody, behind_parameters, a_parameter}
use Rattle.assign_check.proofs.counting.Counts.{in_among}
use Rattle.assign_check.proofs.uses.Visible.{before_up, Placed, placed, rises, step_rises, placed_end, placed_on, StepPlaced, placed_declaration, placed_use, placed_split, placed_loop, placed_wait, nothing_in, NoLocals, no_locals, no_locals_more}
use Rattle.assign_check.proofs.through.Ways.{nat_zero, step_holds, given_self}
use Rattle.assign_check.proofs.counting.Even.{more_one, one_listed}
use Rattle.std.proofs.lemmas.Bool.{or_right}

-- TWICE

again : (l : Option ℕ) (before : List Owned) (x : Owned) (at : Span) → is_outer l x ≡ false → x ∈ before → AssignedTwice at ∈ target_faults l before named x at
again l before x at out i =
    subst (λ (b : Bool). AssignedTwice at ∈ cond b (OuterInLoop at ∷ []) (cond (is_among x before) (AssignedTwice at ∷ []) [])) (sym out)
    (subst (λ (b : Bool). AssignedTwice at ∈ cond b (AssignedTwice at ∷ []) []) (sym (in_among x before i)) first)

mutual
  pub twice_found : {x : Owned} {u : Use} {o : Outline} {n : ℕ} (l : Option ℕ) (before : List Owned) → u.of ≡ x → is_outer l x ≡ false → u.kind ≡ named → Reaches x u o n → (1 ≤ n) ⊎ (x ∈ before)
      → AssignedTwice u.span ∈ way_faults l before o
  twice_found l before is out k (at_a_step {s = s} {o = o} r) c = to_left (step_faults l before s) (way_faults l (before ++ step_way l s) o) (twice_at l before is out k r c)
  twice_found l before is out k (behind_a_step {s = s} {o = o} {m = m} {n = n} hs r e) c =
      to_right (step_faults l before s) (way_faults l (before ++ step_way l s) o) (twice_found l (before ++ step_way l s) is out k r (elim c [
        | inr i ↦ inr (to_left before (step_way l s) i)
        | inl some ↦ elim (nat_zero m) [
          | inl none ↦ inl (omega arith)
          | inr one ↦ inr (to_right before (step_way l s) (step_holds l out hs one))
        ]
      ]))
  twice_found l before is out k (behind_its_own {d = d} {o = o} g e r q) c =
      twice_found l (before ++ given_by d.role d.what) is out k r
      (inr (to_right before (given_by d.role d.what) (subst (λ (z : Owned). z ∈ given_by d.role d.what) e (given_self d.role d.what g))))

  twice_at : {x : Owned} {u : Use} {s : Step} {n : ℕ} (l : Option ℕ) (before : List Owned) → u.of ≡ x → is_outer l x ≡ false → u.kind ≡ named → ReachesIn x u s n → (1 ≤ n) ⊎ (x ∈ before)
      → AssignedTwice u.span ∈ step_faults l before s
  twice_at {x = x} {u = u} l before is out k the_use c = elim c [
    | inl none ↦ absurd (omega arith)
    | inr i ↦ subst (λ (z : Kind). AssignedTwice u.span ∈ target_faults l before z u.of u.span) (sym k)
        (subst (λ (z : Owned). AssignedTwice u.span ∈ target_faults l before named z u.span) (sym is) (again l before x u.span out i))
  ]
  twice_at l before is out k (in_its_first {o = o} {p = p} r) c = to_left (way_faults l before o) (way_faults l before p) (twice_found l before is out k r c)
  twice_at l before is out k (in_its_other {o = o} {p = p} r) c = to_right (way_faults l before o) (way_faults l before p) (twice_found l before is out k r c)
  twice_at l before is out k (in_its_body {n = n} h r) c = twice_found (Some n) before is h k r c
  twice_at l before is out k (in_its_block r) c = twice_found l before is out k r c

-- IN A LOOP

outer_target : (l : Option ℕ) (before : List Owned) (x : Owned) (at : Span) → is_outer l x ≡ true → OuterInLoop at ∈ target_faults l before named x at
outer_target l before x at out = subst (λ (b : Bool). OuterInLoop at ∈ cond b (OuterInLoop at ∷ []) (cond (is_among x before) (AssignedTwice at ∷ []) [])) (sym out) first

mutual
  -- in a block inside a loop
  outer_found : {vs : List Seen} {from to : ℕ} {o : Outline} {u : Use} (l : Option ℕ) (before : List Owned) → Placed vs from o to → is_outer l u.of ≡ true → is_before from u.of ≡ true → u.kind ≡ named
      → u ∈ uses_in o → OuterInLoop u.span ∈ way_faults l before o
  outer_found l before (placed_end le) out old k i = elim i [ ]
  outer_found {u = u} l before (placed_on {from = from} {k = m} {s = s} {o = o} ps po) out old k i = elim (either (uses_at s) (uses_in o) i) [
    | inl j ↦ to_left (step_faults l before s) (way_faults l (before ++ step_way l s) o) (outer_at l before ps out old k j)
    | inr j ↦ to_right (step_faults l before s) (way_faults l (before ++ step_way l s) o) (outer_found l (before ++ step_way l s) po out (before_up u.of from m old (step_rises ps)) k j)
  ]

  outer_at : {vs ws : List Seen} {from m : ℕ} {s : Step} {u : Use} (l : Option ℕ) (before : List Owned) → StepPlaced vs from s ws m → is_outer l u.of ≡ true → is_before from u.of ≡ true → u.kind ≡ named
      → u ∈ uses_at s → OuterInLoop u.span ∈ step_faults l before s
  outer_at l before (placed_declaration h g le n) out old k i = elim i [ ]
  outer_at {u = u} l before (placed_use {u = y} h g) out old k i = elim (split_in i) [
    | inl e ↦ subst (λ (z : Use). OuterInLoop u.span ∈ target_faults l before z.kind z.of z.span) e
        (subst (λ (z : Kind). OuterInLoop u.span ∈ target_faults l before z u.of u.span) (sym k) (outer_target l before u.of u.span out))
    | inr j ↦ elim j [ ]
  ]
  outer_at {u = u} l before (placed_split {from = from} {n = n} {m = m} {p = p} {q = q} le all pp pq) out old k i =
      let a = rises pp in
      elim (either (uses_in p) (uses_in q) i) [
        | inl j ↦ to_left (way_faults l before p) (way_faults l before q) (outer_found l before pp out (before_up u.of from (suc n) old (omega arith)) k j)
        | inr j ↦ to_right (way_faults l before p) (way_faults l before q) (outer_found l before pq out (before_up u.of from m old (omega arith)) k j)
      ]
  outer_at {u = u} l before (placed_loop {from = from} {n = n} le all p) out old k i =
      outer_found (Some n) before p (before_up u.of from n old le) (before_up u.of from (suc n) old (omega arith)) k i
  outer_at l before (placed_wait all p) out old k i = outer_found l before p out old k i

mutual
  -- in a loop inside a block
  pub loop_found : {vs : List Seen} {from to n : ℕ} {o b p : Outline} {u : Use} (l : Option ℕ) (before : List Owned) → Placed vs from o to → BlockIn b o → HasStep (repeats n p) b → u ∈ uses_in p → u.kind ≡ named
      → is_before n u.of ≡ true → OuterInLoop u.span ∈ way_faults l before o
  loop_found l before (placed_end le) j h i k old = absurd (nothing_in j h)
  loop_found {n = n} {u = u} l before (placed_on {s = s} {o = o} (placed_loop {p = p} le all pp) po) the_block first_step i k old =
      to_left (way_faults (Some n) before p) (way_faults l (before ++ []) o) (outer_found (Some n) before pp old (before_up u.of n (suc n) old (omega arith)) k i)
  loop_found l before (placed_on {s = s} {o = o} ps po) the_block (later_step h) i k old =
      to_right (step_faults l before s) (way_faults l (before ++ step_way l s) o) (loop_found l (before ++ step_way l s) po the_block h i k old)
  loop_found l before (placed_on {s = s} {o = o} ps po) (in_a_step first_step j) h i k old =
      to_left (step_faults l before s) (way_faults l (before ++ step_way l s) o) (loop_at l before ps j h i k old)
  loop_found l before (placed_on {s = s} {o = o} ps po) (in_a_step (later_step g) j) h i k old =
      to_right (step_faults l before s) (way_faults l (before ++ step_way l s) o) (loop_found l (before ++ step_way l s) po (in_a_step g j) h i k old)

  loop_at : {vs ws : List Seen} {from m n : ℕ} {s : Step} {b p : Outline} {u : Use} (l : Option ℕ) (before : List Owned) → StepPlaced vs from s ws m → BlockOf b s → HasStep (repeats n p) b → u ∈ uses_in p
      → u.kind ≡ named → is_before n u.of ≡ true → OuterInLoop u.span ∈ step_faults l before s
  loop_at l before (placed_declaration f g le a) j h i k old = elim j [ ]
  loop_at l before (placed_use f g) j h i k old = elim j [ ]
  loop_at l before (placed_split {p = p} {q = q} le all pp pq) (in_first j) h i k old = to_left (way_faults l before p) (way_faults l before q) (loop_found l before pp j h i k old)
  loop_at l before (placed_split {p = p} {q = q} le all pp pq) (in_other j) h i k old = to_right (way_faults l before p) (way_faults l before q) (loop_found l before pq j h i k old)
  loop_at l before (placed_loop {n = m} le all p) (in_loop j) h i k old = loop_found (Some m) before p j h i k old
  loop_at l before (placed_wait all p) (in_wait j) h i k old = loop_found l before p j h i k old

pub body_loop_found : {vs : List Seen} {n : ℕ} {o b p : Outline} {u : Use} (before : List Owned) → ScopedBody vs o → NoLocals vs → BlockIn b o → HasStep (repeats n p) b → u ∈ uses_in p → u.kind ≡ named
    → is_before n u.of ≡ true → OuterInLoop u.span ∈ way_faults None before o
body_loop_found before (behind_parameters {from = from} s) none j h i k old = loop_found None before (placed (no_locals from none) s) j h i k old
body_loop_found before (a_parameter {d = d} l r f s) none the_block (later_step h) i k old =
    body_loop_found (before ++ given_by d.role d.what) s (no_locals_more d l none) the_block h i k old
body_loop_found before (a_parameter l r f s) none (in_a_step first_step j) h i k old = elim j [ ]
body_loop_found before (a_parameter {d = d} l r f s) none (in_a_step (later_step g) j) h i k old =
    body_loop_found (before ++ given_by d.role d.what) s (no_locals_more d l none) (in_a_step g j) h i k old

-- BRANCHES

any_true : {A : Type 0} (g : A → Bool) (xs : List A) (x : A) → x ∈ xs → g x ≡ true → list_any g xs ≡ true
any_true g [] x i h = elim i [ ]
any_true {A = A} g (y ∷ ys) x i h = elim (split_in i) [
  | inl e ↦ ap (λ (z : A). g z || list_any g ys) (sym e) ∙ ap (λ (b : Bool). b || list_any g ys) h
  | inr j ↦ by (g y) (any_true g ys x j h)
]
  where
    by : (b : Bool) → list_any g ys ≡ true → (b || list_any g ys) ≡ true
    by true k = refl
    by false k = k

branch_found : (l : Option ℕ) (n : ℕ) (at : Span) (p q : Outline) (x : Owned) → is_outer l x ≡ false → is_before n x ≡ true → OnOne x p q ⊎ OnOne x q p → PartlyAssigned at ∈ branch_faults l n at p q
branch_found l n at p q x out old w =
    subst (λ (b : Bool). PartlyAssigned at ∈ cond b (PartlyAssigned at ∷ []) [])
    (sym (any_true (is_uneven l n p q) (way l p ++ way l q) x (listed w) (ap (λ (b : Bool). b && (has_more (counts l x p) (counts l x q) || has_more (counts l x q) (counts l x p))) old ∙ uneven w)))
    first
  where
    listed : OnOne x p q ⊎ OnOne x q p → x ∈ (way l p ++ way l q)
    listed (inl h) = elim (one_listed l x p q out h) [ inl i ↦ to_left (way l p) (way l q) i | inr i ↦ to_right (way l p) (way l q) i ]
    listed (inr h) = elim (one_listed l x q p out h) [ inl i ↦ to_right (way l p) (way l q) i | inr i ↦ to_left (way l p) (way l q) i ]

    uneven : OnOne x p q ⊎ OnOne x q p → (has_more (counts l x p) (counts l x q) || has_more (counts l x q) (counts l x p)) ≡ true
    uneven (inl h) = ap (λ (b : Bool). b || has_more (counts l x q) (counts l x p)) (more_one l x p q out h)
    uneven (inr h) = or_right (has_more (counts l x p) (counts l x q)) (has_more (counts l x q) (counts l x p)) (more_one l x q p out h)

mutual
  -- a fault that a step has in every loop that the variable is not outer to
  step_found : {x : Owned} {s : Step} {o : Outline} (l : Option ℕ) (f : AssignFault) → is_outer l x ≡ false → ((m : Option ℕ) → is_outer m x ≡ false → f ∈ split_step m s) → Counts x s o
      → f ∈ split_faults l o
  step_found l f out h (in_this_step {s' = s} {o = o} c) = to_left (split_step l s) (split_faults l o) (step_found_in l f out h c)
  step_found l f out h (in_a_later_step {s' = s} {o = o} c) = to_right (split_step l s) (split_faults l o) (step_found l f out h c)

  step_found_in : {x : Owned} {s t : Step} (l : Option ℕ) (f : AssignFault) → is_outer l x ≡ false → ((m : Option ℕ) → is_outer m x ≡ false → f ∈ split_step m s) → CountsIn x s t → f ∈ split_step l t
  step_found_in l f out h the_step = h l out
  step_found_in l f out h (in_the_first {n = m} {at = at} {o = r} {p = s} c) =
      to_left (split_faults l r ++ split_faults l s) (branch_faults l m at r s) (to_left (split_faults l r) (split_faults l s) (step_found l f out h c))
  step_found_in l f out h (in_the_other {n = m} {at = at} {o = r} {p = s} c) =
      to_left (split_faults l r ++ split_faults l s) (branch_faults l m at r s) (to_right (split_faults l r) (split_faults l s) (step_found l f out h c))
  step_found_in l f out h (in_the_body {n = m} k c) = step_found (Some m) f k h c
  step_found_in l f out h (in_the_block c) = step_found l f out h c

pub partly_found : {o : Outline} {at : Span} → IsPartly o at → PartlyAssigned at ∈ split_faults None o
partly_found {o} {at} w =
    step_found None (PartlyAssigned at) refl (λ l out. to_right (split_faults l w.branch ++ split_faults l w.other) (branch_faults l w.number at w.branch w.other)
    (branch_found l w.number at w.branch w.other w.variable out w.outside w.differ)) w.there
