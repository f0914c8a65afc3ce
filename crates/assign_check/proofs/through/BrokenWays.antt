-- A fault on a way names a rule that is broken at its place.
use Rattle.std.proofs.Common.{◌≡◌, ◌⊎◌, inl, inr, ℕ, suc, ◌≤◌, Bool, true, false, List, [], ◌∷◌, ◌++◌, refl, sym, subst, arith}
use Rattle.std.specs.Prelude.{◌||◌, cond, Option, Some, None}
use Rattle.std.specs.List.{list_any}
use Rattle.lexer.specs.declared.token.Span.{Span}
use Rattle.language.specs.Core.{Owned}
use Rattle.language.specs.Members.{◌∈◌, first, later}
use Rattle.language.proofs.Members.{to_left, to_right, either}
use Rattle.assign_check.specs.declared.fault.AssignFault.{AssignFault}
use Rattle.assign_check.specs.declared.fault.AssignFault.TheVariants.{AssignedTwice, PartlyAssigned, OuterInLoop}
use Rattle.assign_check.specs.Outline.{Kind, named, written, read, Use, given, Declared, Outline, followed, Step, declares, uses, splits, repeats, encloses}
use Rattle.assign_check.specs.Faults.{is_before, is_outer, is_among, given_by, way, step_way, target_faults, counts, has_more, is_uneven, branch_faults, way_faults, step_faults, split_faults, split_step, uses_in, uses_at}
use Rattle.assign_check.specs.Through.{first_step, BlockIn, the_block, in_a_step, BlockOf, in_first, in_other, in_loop, in_wait, Within, Counts, in_this_step, in_a_later_step, the_step, in_the_first, in_the_other, in_the_body, in_the_block, a_declaration, Reaches, at_a_step, behind_a_step, behind_its_own, ReachesIn, the_use, in_its_first, in_its_other, in_its_body, in_its_block}
use Rattle.assign_check.specs.Breaks.{OnOne, IsOuter, BreaksIn}
use Rattle.assign_check.proofs.outlines.Scoped.{Seen, ScopedBody, behind_parameters, a_parameter}
use Rattle.assign_check.proofs.counting.Counts.{among_in}
use Rattle.assign_check.proofs.uses.Visible.{Among, Placed, placed, rises, step_rises, placed_end, placed_on, StepPlaced, placed_declaration, placed_use, placed_split, placed_loop, placed_wait, stand_among, stand_before, use_stands, NoLocals, no_locals, no_locals_more}
use Rattle.assign_check.proofs.through.Ways.{some_step, StepAssigned, step_held, step_stands, branch_sees, branch_inner, given_in, Looped, looped_up, looped_in, looped_out}
use Rattle.assign_check.proofs.counting.Even.{one_more}
use Rattle.assign_check.proofs.through.Faultless.{within_later}
use Rattle.assign_check.proofs.faults.Broken.{only_if}
use Rattle.std.proofs.lemmas.Bool.{and_parts, or_cases}

-- WHAT A FAULT SAYS

-- where these are assigned on some way before the block
data Broken (l : Option ℕ) (before : List Owned) (o : Outline) : AssignFault → Type 0 where
  twice : {u : Use} {n : ℕ} → u.kind ≡ named → is_outer l u.of ≡ false → Reaches u.of u o n → (1 ≤ n) ⊎ (u.of ∈ before) → Broken l before o (AssignedTwice u.span)
  -- outside of the innermost loop that stands around the block
  outer_here : {u : Use} → u ∈ uses_in o → u.kind ≡ named → is_outer l u.of ≡ true → Broken l before o (OuterInLoop u.span)
  outer_within : {at : Span} → IsOuter o at → Broken l before o (OuterInLoop at)

-- BLOCKS INSIDE A STEP

within_step : {s t : Step} {o p : Outline} → ((b : Outline) → BlockIn b p → BlockOf b s) → Within t p → Within t (followed s o)
within_step {s} {t} {o} {p} inside w = record { block = w.block; there = in_a_step first_step (inside w.block w.there); has = w.has }

record Inner (s : Step) (p : Outline) : Type 0 where
  block : (b : Outline) → BlockIn b p → BlockOf b s
  reach : (x : Owned) (u : Use) (n : ℕ) → Reaches x u p n → ReachesIn x u s n
  uses_there : (u : Use) → u ∈ uses_in p → u ∈ uses_at s

first_inner : (n : ℕ) (at : Span) (p q : Outline) → Inner (splits n at p q) p
first_inner n at p q = record { block = λ b h. in_first h; reach = λ x u m h. in_its_first h; uses_there = λ u i. to_left (uses_in p) (uses_in q) i }

other_inner : (n : ℕ) (at : Span) (p q : Outline) → Inner (splits n at p q) q
other_inner n at p q = record { block = λ b h. in_other h; reach = λ x u m h. in_its_other h; uses_there = λ u i. to_right (uses_in p) (uses_in q) i }

wait_inner : (p : Outline) → Inner (encloses p) p
wait_inner p = record { block = λ b h. in_wait h; reach = λ x u m h. in_its_block h; uses_there = λ u i. i }

outer_in : {s : Step} {o p : Outline} {at : Span} → ((b : Outline) → BlockIn b p → BlockOf b s) → IsOuter p at → IsOuter (followed s o) at
outer_in {s} {o} {p} {at} inside h = record {
  number = h.number;
  loop = h.loop;
  there = within_step inside h.there;
  target = h.target;
  inside = h.inside;
  is_named = h.is_named;
  place = h.place;
  outside = h.outside;
}

-- a block that stands in no loop of its own there
inside_step : {l : Option ℕ} {before : List Owned} {s : Step} {o p : Outline} {f : AssignFault} → Inner s p → Broken l before p f → Broken l before (followed s o) f
inside_step inner (twice {u = u} {n = n} k out r c) = twice k out (at_a_step (inner.reach u.of u n r)) c
inside_step {s = s} {o = o} inner (outer_here {u = u} i k h) = outer_here (to_left (uses_at s) (uses_in o) (inner.uses_there u i)) k h
inside_step inner (outer_within h) = outer_within (outer_in inner.block h)

inside_loop : {l : Option ℕ} {before : List Owned} {n : ℕ} {o p : Outline} {f : AssignFault} → ((x : Owned) → is_before n x ≡ false → is_outer l x ≡ false) → Broken (Some n) before p f
    → Broken l before (followed (repeats n p) o) f
inside_loop lo (twice {u = u} k out r c) = twice k (lo u.of out) (at_a_step (in_its_body out r)) c
inside_loop {n = n} {o = o} {p = p} lo (outer_here {u = u} i k h) = outer_within (record {
  number = n;
  loop = p;
  there = record { block = followed (repeats n p) o; there = the_block; has = first_step };
  target = u;
  inside = i;
  is_named = k;
  place = refl;
  outside = h;
})
inside_loop lo (outer_within h) = outer_within (outer_in (λ b h. in_loop h) h)

-- BEHIND A STEP

outer_later : {s : Step} {o : Outline} {at : Span} → IsOuter o at → IsOuter (followed s o) at
outer_later {s} {o} {at} h = record {
  number = h.number;
  loop = h.loop;
  there = within_later h.there;
  target = h.target;
  inside = h.inside;
  is_named = h.is_named;
  place = h.place;
  outside = h.outside;
}

mutual
  reached_use : {x : Owned} {u : Use} {o : Outline} {n : ℕ} → Reaches x u o n → u ∈ uses_in o
  reached_use (at_a_step {s = s} {o = o} r) = to_left (uses_at s) (uses_in o) (reached_there r)
  reached_use (behind_a_step {s = s} {o = o} h r e) = to_right (uses_at s) (uses_in o) (reached_use r)
  reached_use (behind_its_own g e r k) = reached_use r

  reached_there : {x : Owned} {u : Use} {s : Step} {n : ℕ} → ReachesIn x u s n → u ∈ uses_at s
  reached_there the_use = first
  reached_there (in_its_first {o = o} {p = p} r) = to_left (uses_in o) (uses_in p) (reached_use r)
  reached_there (in_its_other {o = o} {p = p} r) = to_right (uses_in o) (uses_in p) (reached_use r)
  reached_there (in_its_body h r) = reached_use r
  reached_there (in_its_block r) = reached_use r

-- what a step assigns, and a way behind it names, was visible before the step or is declared by it
seen_before : {vs ws : List Seen} {from k : ℕ} {s : Step} (l : Option ℕ) (x : Owned) → StepPlaced vs from s ws k → Among x ws → x ∈ step_way l s
    → StepAssigned x s ⊎ ((d : Declared) × (s ≡ declares d) × (d.role ≡ given) × (d.what ≡ x))
seen_before l x (placed_declaration {d = d} h g le n) a i = let r = given_in d.role d.what x i in inr (d, refl, r.1, sym r.0)
seen_before l x (placed_use h g) a i = inl (step_held l x (placed_use h g) a i)
seen_before l x (placed_split {at = at} le all p q) a i = inl (step_held l x (placed_split {at = at} le all p q) a i)
seen_before l x (placed_loop le all p) a i = inl (step_held l x (placed_loop le all p) a i)
seen_before l x (placed_wait all p) a i = inl (step_held l x (placed_wait all p) a i)

behind_step : {vs ws : List Seen} {from k to : ℕ} {s : Step} {o : Outline} {f : AssignFault} (l : Option ℕ) (before : List Owned) → StepPlaced vs from s ws k → Placed ws k o to
    → Broken l (before ++ step_way l s) o f → Broken l before (followed s o) f
behind_step {from = from} {k = k} {to = to} {s = s} {o = o} l before ps po (twice {u = u} {n = n} h out r c) = elim c [
  | inl some ↦ later_on (inl some)
  | inr i ↦ elim (either before (step_way l s) i) [
    | inl j ↦ later_on (inr j)
    | inr j ↦ (
        let a = stand_among u.of k to (use_stands po (reached_use r)) (stand_before u.of from k (step_stands l u.of ps j) (step_rises ps)) in
        elim (seen_before l u.of ps a j) [
          | inl q ↦ (let one = q.2 in twice h out (behind_a_step q.1 r refl) (inl (omega arith)))
          | inr q ↦ subst (λ (z : Step). Broken l before (followed z o) (AssignedTwice u.span)) (sym q.1) (twice h out (behind_its_own q.2 q.3 r refl) (inl (omega arith)))
        ]
        )
  ]
]
  where
    later_on : (1 ≤ n) ⊎ (u.of ∈ before) → Broken l before (followed s o) (AssignedTwice u.span)
    later_on (inl some) = let q = some_step u.of s in twice h out (behind_a_step q.1 r refl) (inl (omega arith))
    later_on (inr i) = let q = some_step u.of s in twice h out (behind_a_step q.1 r refl) (inr i)
behind_step {s = s} {o = o} l before ps po (outer_here i k h) = outer_here (to_right (uses_at s) (uses_in o) i) k h
behind_step l before ps po (outer_within h) = outer_within (outer_later h)

-- TARGETS

target_broken : (l : Option ℕ) (before : List Owned) (u : Use) (o : Outline) (k : Kind) (f : AssignFault) → u.kind ≡ k → f ∈ target_faults l before k u.of u.span → Broken l before (followed (uses u) o) f
target_broken l before u o named f k i = by (is_outer l u.of) refl i
  where
    second : is_outer l u.of ≡ false → f ∈ cond (is_among u.of before) (AssignedTwice u.span ∷ []) [] → Broken l before (followed (uses u) o) f
    second out i =
        let r = only_if (is_among u.of before) (AssignedTwice u.span) f i in
        subst (Broken l before (followed (uses u) o)) (sym r.1) (twice k out (at_a_step the_use) (inr (among_in u.of before r.0)))

    by : (b : Bool) → is_outer l u.of ≡ b → f ∈ cond b (OuterInLoop u.span ∷ []) (cond (is_among u.of before) (AssignedTwice u.span ∷ []) []) → Broken l before (followed (uses u) o) f
    by true h i = subst (Broken l before (followed (uses u) o)) (sym (only_if true (OuterInLoop u.span) f i).1) (outer_here first k h)
    by false h i = second h i
target_broken l before u o written f k i = elim i [ ]
target_broken l before u o read f k i = elim i [ ]

-- WAYS

mutual
  way_broken : {vs : List Seen} {from to : ℕ} {o : Outline} (l : Option ℕ) (before : List Owned) (f : AssignFault) → Placed vs from o to → Looped from l → f ∈ way_faults l before o → Broken l before o f
  way_broken l before f (placed_end le) lo i = elim i [ ]
  way_broken l before f (placed_on {from = from} {k = k} {s = s} {o = o} ps po) lo i = elim (either (step_faults l before s) (way_faults l (before ++ step_way l s) o) i) [
    | inl j ↦ step_broken l before o f ps lo j
    | inr j ↦ behind_step l before ps po (way_broken l (before ++ step_way l s) f po (looped_up l from k lo (step_rises ps)) j)
  ]

  step_broken : {vs ws : List Seen} {from k : ℕ} {s : Step} (l : Option ℕ) (before : List Owned) (o : Outline) (f : AssignFault) → StepPlaced vs from s ws k → Looped from l → f ∈ step_faults l before s
      → Broken l before (followed s o) f
  step_broken l before o f (placed_declaration h g le n) lo i = elim i [ ]
  step_broken l before o f (placed_use {u = u} h g) lo i = target_broken l before u o u.kind f refl i
  step_broken l before o f (placed_split {from = from} {n = n} {m = m} {at = at} {p = p} {q = q} le all pp pq) lo i =
      let a = rises pp in
      elim (either (way_faults l before p) (way_faults l before q) i) [
        | inl h ↦ inside_step (first_inner n at p q) (way_broken l before f pp (looped_up l from (suc n) lo (omega arith)) h)
        | inr h ↦ inside_step (other_inner n at p q) (way_broken l before f pq (looped_up l from m lo (omega arith)) h)
      ]
  step_broken l before o f (placed_loop {from = from} {n = n} {p = p} le all pp) lo i = inside_loop (looped_out l from n lo le) (way_broken (Some n) before f pp (looped_in n) i)
  step_broken l before o f (placed_wait {p = p} all pp) lo i = inside_step (wait_inner p) (way_broken l before f pp lo i)

-- BRANCHES

record Found {A : Type 0} (g : A → Bool) (xs : List A) : Type 0 where
  one : A
  there : one ∈ xs
  holds : g one ≡ true

any_found : {A : Type 0} (g : A → Bool) (xs : List A) → list_any g xs ≡ true → Found g xs
any_found g [] h = absurd (cc (h))
any_found g (x ∷ xs) h = by (g x) refl h (λ k. any_found g xs k)
  where
    by : (b : Bool) → g x ≡ b → (b || list_any g xs) ≡ true → (list_any g xs ≡ true → Found g xs) → Found g (x ∷ xs)
    by true e k rec = record { one = x; there = first; holds = e }
    by false e k rec = let r = rec k in record { one = r.one; there = later r.there; holds = r.holds }

-- an uneven `if` in a block, for a variable that is not outer to the loop round it
record Uneven (l : Option ℕ) (o : Outline) (f : AssignFault) : Type 0 where
  number : ℕ
  at : Span
  branch : Outline
  other : Outline
  variable : Owned
  inner : is_outer l variable ≡ false
  there : Counts variable (splits number at branch other) o
  outside : is_before number variable ≡ true
  differ : OnOne variable branch other ⊎ OnOne variable other branch
  fault : f ≡ PartlyAssigned at

uneven_in : {l m : Option ℕ} {o p : Outline} {f : AssignFault} (u : Uneven m p f) → is_outer l u.variable ≡ false → Counts u.variable (splits u.number u.at u.branch u.other) o → Uneven l o f
uneven_in u out c = record {
  number = u.number;
  at = u.at;
  branch = u.branch;
  other = u.other;
  variable = u.variable;
  inner = out;
  there = c;
  outside = u.outside;
  differ = u.differ;
  fault = u.fault;
}

branch_broken : {vs : List Seen} {m k : ℕ} (l : Option ℕ) (n : ℕ) (at : Span) (p q o : Outline) (f : AssignFault) → Placed vs (suc n) p m → Placed vs m q k → f ∈ branch_faults l n at p q
    → Uneven l (followed (splits n at p q) o) f
branch_broken l n at p q o f pp pq i =
    let r = only_if (list_any (is_uneven l n p q) (way l p ++ way l q)) (PartlyAssigned at) f i in
    let x = any_found (is_uneven l n p q) (way l p ++ way l q) r.0 in
    let both = and_parts (is_before n x.one) (has_more (counts l x.one p) (counts l x.one q) || has_more (counts l x.one q) (counts l x.one p)) x.holds in
    let out = branch_inner l x.one pp pq (branch_sees l x.one pp pq both.0 x.there) x.there in
    record {
      number = n;
      at = at;
      branch = p;
      other = q;
      variable = x.one;
      inner = out;
      there = in_this_step the_step;
      outside = both.0;
      differ = elim (or_cases (has_more (counts l x.one p) (counts l x.one q)) (has_more (counts l x.one q) (counts l x.one p)) both.1) [
        | inl h ↦ inl (one_more l x.one p q out h)
        | inr h ↦ inr (one_more l x.one q p out h)
      ];
      fault = r.1;
    }

mutual
  split_broken : {vs : List Seen} {from to : ℕ} {o : Outline} (l : Option ℕ) (f : AssignFault) → Placed vs from o to → Looped from l → f ∈ split_faults l o → Uneven l o f
  split_broken l f (placed_end le) lo i = elim i [ ]
  split_broken l f (placed_on {from = from} {k = k} {s = s} {o = o} ps po) lo i = elim (either (split_step l s) (split_faults l o) i) [
    | inl j ↦ split_here l o f ps lo j
    | inr j ↦ (let u = split_broken l f po (looped_up l from k lo (step_rises ps)) j in uneven_in u u.inner (in_a_later_step u.there))
  ]

  split_here : {vs ws : List Seen} {from k : ℕ} {s : Step} (l : Option ℕ) (o : Outline) (f : AssignFault) → StepPlaced vs from s ws k → Looped from l → f ∈ split_step l s → Uneven l (followed s o) f
  split_here l o f (placed_declaration h g le n) lo i = elim i [ ]
  split_here l o f (placed_use h g) lo i = elim i [ ]
  split_here l o f (placed_split {from = from} {n = n} {m = m} {at = at} {p = p} {q = q} le all pp pq) lo i =
      let a = rises pp in
      elim (either (split_faults l p ++ split_faults l q) (branch_faults l n at p q) i) [
        | inl j ↦ elim (either (split_faults l p) (split_faults l q) j) [
          | inl h ↦ (let u = split_broken l f pp (looped_up l from (suc n) lo (omega arith)) h in uneven_in u u.inner (in_this_step (in_the_first u.there)))
          | inr h ↦ (let u = split_broken l f pq (looped_up l from m lo (omega arith)) h in uneven_in u u.inner (in_this_step (in_the_other u.there)))
        ]
        | inr j ↦ branch_broken l n at p q o f pp pq j
      ]
  split_here l o f (placed_loop {from = from} {n = n} le all pp) lo i =
      let u = split_broken (Some n) f pp (looped_in n) i in
      uneven_in u (looped_out l from n lo le u.variable u.inner) (in_this_step (in_the_body u.inner u.there))
  split_here l o f (placed_wait all pp) lo i = let u = split_broken l f pp lo i in uneven_in u u.inner (in_this_step (in_the_block u.there))

-- BODIES

given_behind : {d : Declared} {o : Outline} {f : AssignFault} (before : List Owned) → Broken None (before ++ given_by d.role d.what) o f → Broken None before (followed (declares d) o) f
given_behind {d = d} {o = o} before (twice {u = u} {n = n} h out r c) = elim c [
  | inl some ↦ twice h out (behind_a_step a_declaration r refl) (inl (omega arith))
  | inr i ↦ elim (either before (given_by d.role d.what) i) [
    | inl j ↦ twice h out (behind_a_step a_declaration r refl) (inr j)
    | inr j ↦ (let g = given_in d.role d.what u.of j in twice h out (behind_its_own g.1 (sym g.0) r refl) (inl (omega arith)))
  ]
]
given_behind before (outer_here i k h) = outer_here i k h
given_behind before (outer_within h) = outer_within (outer_later h)

body_broken : {vs : List Seen} {o : Outline} (before : List Owned) (f : AssignFault) → ScopedBody vs o → NoLocals vs → f ∈ way_faults None before o → Broken None before o f
body_broken before f (behind_parameters {from = from} s) n i = way_broken None before f (placed (no_locals from n) s) (λ x e. refl) i
body_broken before f (a_parameter {d = d} {o = o} l r h s) n i = given_behind before (body_broken (before ++ given_by d.role d.what) f s (no_locals_more d l n) i)

body_uneven : {vs : List Seen} {o : Outline} (f : AssignFault) → ScopedBody vs o → NoLocals vs → f ∈ split_faults None o → Uneven None o f
body_uneven f (behind_parameters {from = from} s) n i = split_broken None f (placed (no_locals from n) s) (λ x e. refl) i
body_uneven f (a_parameter {d = d} {o = o} l r h s) n i = let u = body_uneven f s (no_locals_more d l n) i in uneven_in u u.inner (in_a_later_step u.there)

-- in no loop, and with nothing assigned before
at_top : (o : Outline) (f : AssignFault) → Broken None [] o f → BreaksIn o f
at_top o f (twice {u = u} {n = n} k out r c) = record { target = u; is_named = k; place = refl; before = n; reached = r; assigned = some c }
  where
    some : (1 ≤ n) ⊎ (u.of ∈ []) → 1 ≤ n
    some (inl a) = a
    some (inr i) = elim i [ ]
at_top o f (outer_here i k h) = absurd (cc (h))
at_top o f (outer_within h) = h

pub on_way_broken : (o : Outline) (f : AssignFault) → ScopedBody [] o → f ∈ way_faults None [] o → BreaksIn o f
on_way_broken o f s i = at_top o f (body_broken [] f s (λ v j. elim j [ ]) i)

pub split_is_broken : (o : Outline) (f : AssignFault) → ScopedBody [] o → f ∈ split_faults None o → BreaksIn o f
split_is_broken o f s i =
    let u = body_uneven f s (λ v j. elim j [ ]) i in
    subst (BreaksIn o) (sym u.fault) (record {
      number = u.number;
      branch = u.branch;
      other = u.other;
      variable = u.variable;
      there = u.there;
      outside = u.outside;
      differ = u.differ;
    })
