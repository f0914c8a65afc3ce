-- Where no way has a fault, each variable is well assigned in the block that declares it.
use Rattle.std.specs.Prelude.{◌≡◌, ◌⊎◌, ℕ, suc, ◌≤◌, Bool, true, false, cond, List, [], ◌∷◌, ◌++◌, Option, Some, None, refl}
use Rattle.std.proofs.Common.{inl, inr, sym, ap, ◌∙◌, subst, arith}
use Rattle.lexer.specs.declared.token.Span.{Span}
use Rattle.language.specs.Core.{Owned}
use Rattle.language.specs.Members.{◌∈◌, first}
use Rattle.language.proofs.Members.{split_in, to_left, to_right, either}
use Rattle.assign_check.specs.declared.fault.AssignFault.TheVariants.{AssignedTwice, OuterInLoop}
use Rattle.assign_check.specs.Outline.{Kind, named, Use, given, Declared, Outline, followed, Step, declares, splits, repeats}
use Rattle.assign_check.specs.Faults.{is_among, is_outer, given_by, step_way, target_faults, branch_faults, way_faults, step_faults, split_faults, split_step, uses_in, uses_at}
use Rattle.assign_check.specs.Through.{HasStep, first_step, later_step, BlockIn, the_block, in_a_step, BlockOf, in_first, in_other, in_loop, in_wait, Within, OnWay, at_end, and_then, OnStep, a_declaration, a_target, of_another, no_name, first_branch, other_branch, a_loop, a_wait}
use Rattle.assign_check.proofs.clauses.SingleOutline.{HasUse}
use Rattle.assign_check.proofs.outlines.Scoped.{Seen, ScopedBody, behind_parameters, a_parameter}
use Rattle.assign_check.proofs.counting.Counts.{in_among, none_left, none_right, only_if_none}
use Rattle.assign_check.proofs.uses.Visible.{Among, among_before, among_more, among_first, among_on, Placed, placed, placed_end, placed_on, StepPlaced, placed_declaration, placed_use, placed_split, placed_loop, placed_wait, rises, step_rises, step_apart, declared_range, nothing_in, NoLocals, no_locals, no_locals_more}
use Rattle.assign_check.proofs.faults.Bodies.{uses_out, step_uses}
use Rattle.assign_check.proofs.through.Ways.{WellAssigned, use_counted, nat_zero, step_holds, given_self, Looped, looped_up, looped_in}
use Rattle.assign_check.proofs.counting.Even.{even}

-- THE FAULTS OF PARTS

clean_step : (l : Option ℕ) (before : List Owned) (s : Step) (o : Outline) → way_faults l before (followed s o) ≡ [] → step_faults l before s ≡ []
clean_step l before s o h = none_left (step_faults l before s) (way_faults l (before ++ step_way l s) o) h

clean_rest : (l : Option ℕ) (before : List Owned) (s : Step) (o : Outline) → way_faults l before (followed s o) ≡ [] → way_faults l (before ++ step_way l s) o ≡ []
clean_rest l before s o h = none_right (step_faults l before s) (way_faults l (before ++ step_way l s) o) h

module _ (l : Option ℕ) (before : List Owned) (n : ℕ) (at : Span) (p q : Outline) where
  clean_first : step_faults l before (splits n at p q) ≡ [] → way_faults l before p ≡ []
  clean_first h = none_left (way_faults l before p) (way_faults l before q) h

  clean_other : step_faults l before (splits n at p q) ≡ [] → way_faults l before q ≡ []
  clean_other h = none_right (way_faults l before p) (way_faults l before q) h

even_step : (l : Option ℕ) (s : Step) (o : Outline) → split_faults l (followed s o) ≡ [] → split_step l s ≡ []
even_step l s o h = none_left (split_step l s) (split_faults l o) h

even_rest : (l : Option ℕ) (s : Step) (o : Outline) → split_faults l (followed s o) ≡ [] → split_faults l o ≡ []
even_rest l s o h = none_right (split_step l s) (split_faults l o) h

module _ (l : Option ℕ) (n : ℕ) (at : Span) (p q : Outline) where
  even_branches : split_step l (splits n at p q) ≡ [] → split_faults l p ++ split_faults l q ≡ []
  even_branches h = none_left (split_faults l p ++ split_faults l q) (branch_faults l n at p q) h

  even_first : split_step l (splits n at p q) ≡ [] → split_faults l p ≡ []
  even_first h = none_left (split_faults l p) (split_faults l q) (even_branches h)

  even_other : split_step l (splits n at p q) ≡ [] → split_faults l q ≡ []
  even_other h = none_right (split_faults l p) (split_faults l q) (even_branches h)

  even_here : split_step l (splits n at p q) ≡ [] → branch_faults l n at p q ≡ []
  even_here h = none_right (split_faults l p ++ split_faults l q) (branch_faults l n at p q) h

unassigned : (l : Option ℕ) (before : List Owned) (x : Owned) (at : Span) → is_outer l x ≡ false → target_faults l before named x at ≡ [] → x ∈ before → ⊥
unassigned l before x at out h i =
    let inner : cond (is_among x before) (AssignedTwice at ∷ []) [] ≡ [] = sym (ap (λ (b : Bool). cond b (OuterInLoop at ∷ []) (cond (is_among x before) (AssignedTwice at ∷ []) [])) out) ∙ h in
    let no : true ≡ false = sym (in_among x before i) ∙ only_if_none (is_among x before) (AssignedTwice at) inner in
    absurd (cc (no))

not_outer : (l : Option ℕ) (before : List Owned) (x : Owned) (at : Span) → target_faults l before named x at ≡ [] → is_outer l x ≡ true → ⊥
not_outer l before x at h out =
    let fault : OuterInLoop at ∷ [] ≡ [] = sym (ap (λ (b : Bool). cond b (OuterInLoop at ∷ []) (cond (is_among x before) (AssignedTwice at ∷ []) [])) out) ∙ h in
    absurd (cc (fault))

-- ALL WAYS COUNT ALIKE

mutual
  one_number : {vs : List Seen} {from to : ℕ} {o : Outline} {i j : ℕ} (l : Option ℕ) (x : Owned) → Placed vs from o to → Among x vs → is_outer l x ≡ false → split_faults l o ≡ []
      → OnWay x o i → OnWay x o j → i ≡ j
  one_number l x (placed_end le) a out c at_end at_end = refl
  one_number l x (placed_on {s = s} {o = o} ps po) a out c (and_then hs ho e) (and_then gs go f) =
      let here = one_step l x ps a out (even_step l s o c) hs gs in
      let rest = one_number l x po (among_on ps a) out (even_rest l s o c) ho go in
      omega arith

  one_step : {vs ws : List Seen} {from k : ℕ} {s : Step} {i j : ℕ} (l : Option ℕ) (x : Owned) → StepPlaced vs from s ws k → Among x vs → is_outer l x ≡ false → split_step l s ≡ []
      → OnStep x s i → OnStep x s j → i ≡ j
  one_step l x (placed_declaration h g le n) a out c a_declaration a_declaration = refl
  one_step l x (placed_use {u = u} h g) a out c v w = use_counted l u x out v ∙ sym (use_counted l u x out w)
  one_step l x (placed_split {n = n} {p = p} {q = q} le all pp pq) a out c (first_branch {at = at} v) (first_branch w) = one_number l x pp a out (even_first l n at p q c) v w
  one_step l x (placed_split {n = n} {p = p} {q = q} le all pp pq) a out c (first_branch {at = at} v) (other_branch w) =
      one_number l x pq a out (even_other l n at p q c) (even l n at p q x (even_here l n at p q c) (among_before n all a) out v) w
  one_step l x (placed_split {n = n} {p = p} {q = q} le all pp pq) a out c (other_branch {at = at} v) (first_branch w) =
      one_number l x pq a out (even_other l n at p q c) v (even l n at p q x (even_here l n at p q c) (among_before n all a) out w)
  one_step l x (placed_split {n = n} {p = p} {q = q} le all pp pq) a out c (other_branch {at = at} v) (other_branch w) = one_number l x pq a out (even_other l n at p q c) v w
  one_step l x (placed_loop le all p) a out c a_loop a_loop = refl
  one_step l x (placed_wait all p) a out c (a_wait v) (a_wait w) = one_number l x p a out c v w

-- NO WAY ASSIGNS TWICE

-- so often is at most once, and never where the variable is assigned before
pub record Room (x : Owned) (before : List Owned) (n : ℕ) : Type 0 where
  pub once : n ≤ 1
  pub never : x ∈ before → n ≡ 0

nothing_more : {x : Owned} {before : List Owned} → Room x before 0
nothing_more = record { once = omega arith; never = λ i. refl }

mutual
  room : {x : Owned} {o : Outline} {n : ℕ} (l : Option ℕ) (before : List Owned) → is_outer l x ≡ false → way_faults l before o ≡ [] → OnWay x o n → Room x before n
  room l before out c at_end = nothing_more
  room {x = x} l before out c (and_then {s = s} {o = o} {m = m} {n = n} {k = k} hs ho e) =
      both (step_room l before out (clean_step l before s o c) hs) (room l (before ++ step_way l s) out (clean_rest l before s o c) ho) (nat_zero m)
    where
      both : Room x before m → Room x (before ++ step_way l s) n → (m ≡ 0) ⊎ (1 ≤ m) → Room x before k
      both here rest (inl z) = record {
        once = (let most = rest.once in omega arith);
        never = λ i. (let none = rest.never (to_left before (step_way l s) i) in omega arith);
      }
      both here rest (inr p) =
          let none = rest.never (to_right before (step_way l s) (step_holds l out hs p)) in
          let most = here.once in
          record { once = omega arith; never = λ i. (let no = here.never i in omega arith) }

  step_room : {x : Owned} {s : Step} {n : ℕ} (l : Option ℕ) (before : List Owned) → is_outer l x ≡ false → step_faults l before s ≡ [] → OnStep x s n → Room x before n
  step_room l before out c a_declaration = nothing_more
  step_room {x = x} l before out c (a_target {u = u} k e) = record {
    once = omega arith;
    never = λ i.
        let here : target_faults l before named x u.span ≡ [] = subst (λ (z : Owned). target_faults l before named z u.span ≡ []) e (subst (λ (j : Kind). target_faults l before j u.of u.span ≡ []) k c) in
        absurd (unassigned l before x u.span out here i);
  }
  step_room l before out c (of_another k) = nothing_more
  step_room l before out c (no_name k) = nothing_more
  step_room l before out c (first_branch {n = n} {at = at} {o = p} {p = q} w) = room l before out (clean_first l before n at p q c) w
  step_room l before out c (other_branch {n = n} {at = at} {o = p} {p = q} w) = room l before out (clean_other l before n at p q c) w
  step_room l before out c a_loop = nothing_more
  step_room l before out c (a_wait w) = room l before out c w

-- NO OUTER VARIABLE IS ASSIGNED IN A LOOP

mutual
  outer_unnamed : {vs : List Seen} {from to : ℕ} {o : Outline} {u : Use} (l : Option ℕ) (before : List Owned) (x : Owned) → Placed vs from o to → Among x vs → is_outer l x ≡ true
      → way_faults l before o ≡ [] → u ∈ uses_in o → u.kind ≡ named → u.of ≡ x → ⊥
  outer_unnamed l before x (placed_end le) a out c i k e = elim i [ ]
  outer_unnamed l before x (placed_on {s = s} {o = o} ps po) a out c i k e = elim (either (uses_at s) (uses_in o) i) [
    | inl j ↦ step_unnamed l before x ps a out (clean_step l before s o c) j k e
    | inr j ↦ outer_unnamed l (before ++ step_way l s) x po (among_on ps a) out (clean_rest l before s o c) j k e
  ]

  step_unnamed : {vs ws : List Seen} {from k : ℕ} {s : Step} {u : Use} (l : Option ℕ) (before : List Owned) (x : Owned) → StepPlaced vs from s ws k → Among x vs → is_outer l x ≡ true
      → step_faults l before s ≡ [] → u ∈ uses_at s → u.kind ≡ named → u.of ≡ x → ⊥
  step_unnamed l before x (placed_declaration h g le n) a out c i k e = elim i [ ]
  step_unnamed l before x (placed_use {u = y} h g) a out c i k e = elim (split_in i) [
    | inl q ↦ (
        let kind : y.kind ≡ named = ap (λ (z : Use). z.kind) (sym q) ∙ k in
        let of : y.of ≡ x = ap (λ (z : Use). z.of) (sym q) ∙ e in
        not_outer l before x y.span (subst (λ (z : Owned). target_faults l before named z y.span ≡ []) of (subst (λ (j : Kind). target_faults l before j y.of y.span ≡ []) kind c)) out
        )
    | inr j ↦ elim j [ ]
  ]
  step_unnamed l before x (placed_split {n = n} {at = at} {p = p} {q = q} le all pp pq) a out c i k e = elim (either (uses_in p) (uses_in q) i) [
    | inl j ↦ outer_unnamed l before x pp a out (clean_first l before n at p q c) j k e
    | inr j ↦ outer_unnamed l before x pq a out (clean_other l before n at p q c) j k e
  ]
  step_unnamed l before x (placed_loop {n = n} le all p) a out c i k e = outer_unnamed (Some n) before x p a (among_before n all a) c i k e
  step_unnamed l before x (placed_wait all p) a out c i k e = outer_unnamed l before x p a out c i k e

-- WHAT IS NOT NAMED COUNTS NOWHERE

abbrev pub Unnamed : Owned → List Use → Type 0
Unnamed x us = (u : Use) → u ∈ us → u.kind ≡ named → u.of ≡ x → ⊥

mutual
  pub unnamed_zero : {x : Owned} {o : Outline} {n : ℕ} → Unnamed x (uses_in o) → OnWay x o n → n ≡ 0
  unnamed_zero h at_end = refl
  unnamed_zero h (and_then {s = s} {o = o} hs ho e) =
      let here = unnamed_step (λ u i. h u (to_left (uses_at s) (uses_in o) i)) hs in
      let rest = unnamed_zero (λ u i. h u (to_right (uses_at s) (uses_in o) i)) ho in
      omega arith

  unnamed_step : {x : Owned} {s : Step} {n : ℕ} → Unnamed x (uses_at s) → OnStep x s n → n ≡ 0
  unnamed_step h a_declaration = refl
  unnamed_step h (a_target {u = u} k e) = absurd (h u first k e)
  unnamed_step h (of_another k) = refl
  unnamed_step h (no_name k) = refl
  unnamed_step h (first_branch {o = o} {p = p} w) = unnamed_zero (λ u i. h u (to_left (uses_in o) (uses_in p) i)) w
  unnamed_step h (other_branch {o = o} {p = p} w) = unnamed_zero (λ u i. h u (to_right (uses_in o) (uses_in p) i)) w
  unnamed_step h a_loop = refl
  unnamed_step h (a_wait w) = unnamed_zero h w

-- STEPS INSIDE A BLOCK

within_by : {t s : Step} {o b : Outline} → BlockIn b (followed s o) → HasStep t b → Within t o ⊎ ((u : Use) → u ∈ uses_at t → u ∈ uses_at s)
within_by the_block first_step = inr (λ u i. i)
within_by {o = o} the_block (later_step h) = inl (record { block = o; there = the_block; has = h })
within_by (in_a_step first_step k) h = inr (λ u i. step_uses k (uses_out h i))
within_by {b = b} (in_a_step (later_step g) k) h = inl (record { block = b; there = in_a_step g k; has = h })

-- a step inside a block stands in its first step or behind it
within_rest : {t s : Step} {o : Outline} → Within t (followed s o) → Within t o ⊎ ((u : Use) → u ∈ uses_at t → u ∈ uses_at s)
within_rest w = within_by w.there w.has

-- a step that a visible variable reaches, without a fault
record Here (x : Owned) (s : Step) : Type 0 where
  vs : List Seen
  ws : List Seen
  from : ℕ
  end : ℕ
  l : Option ℕ
  before : List Owned
  place : StepPlaced vs from s ws end
  visible : Among x vs
  clean : step_faults l before s ≡ []
  even : split_step l s ≡ []

mutual
  here_in : {vs : List Seen} {from to : ℕ} {o b : Outline} {t : Step} (l : Option ℕ) (before : List Owned) (x : Owned) → Placed vs from o to → Among x vs → way_faults l before o ≡ []
      → split_faults l o ≡ [] → BlockIn b o → HasStep t b → Here x t
  here_in l before x (placed_end le) a c e j h = absurd (nothing_in j h)
  here_in l before x (placed_on {vs = vs} {ws = ws} {from = from} {k = k} {s = s} {o = o} ps po) a c e the_block first_step =
      record { vs = vs; ws = ws; from = from; end = k; l = l; before = before; place = ps; visible = a; clean = clean_step l before s o c; even = even_step l s o e }
  here_in l before x (placed_on {s = s} {o = o} ps po) a c e the_block (later_step h) =
      here_in l (before ++ step_way l s) x po (among_on ps a) (clean_rest l before s o c) (even_rest l s o e) the_block h
  here_in l before x (placed_on {s = s} {o = o} ps po) a c e (in_a_step first_step j) h = here_of l before x ps a (clean_step l before s o c) (even_step l s o e) j h
  here_in l before x (placed_on {s = s} {o = o} ps po) a c e (in_a_step (later_step g) j) h =
      here_in l (before ++ step_way l s) x po (among_on ps a) (clean_rest l before s o c) (even_rest l s o e) (in_a_step g j) h

  here_of : {vs ws : List Seen} {from k : ℕ} {s t : Step} {b : Outline} (l : Option ℕ) (before : List Owned) (x : Owned) → StepPlaced vs from s ws k → Among x vs → step_faults l before s ≡ []
      → split_step l s ≡ [] → BlockOf b s → HasStep t b → Here x t
  here_of l before x (placed_declaration f g le n) a c e j h = elim j [ ]
  here_of l before x (placed_use f g) a c e j h = elim j [ ]
  here_of l before x (placed_split {n = n} {at = at} {p = p} {q = q} le all pp pq) a c e (in_first j) h = here_in l before x pp a (clean_first l before n at p q c) (even_first l n at p q e) j h
  here_of l before x (placed_split {n = n} {at = at} {p = p} {q = q} le all pp pq) a c e (in_other j) h = here_in l before x pq a (clean_other l before n at p q c) (even_other l n at p q e) j h
  here_of l before x (placed_loop {n = n} le all p) a c e (in_loop j) h = here_in (Some n) before x p a c e j h
  here_of l before x (placed_wait all p) a c e (in_wait j) h = here_in l before x p a c e j h

split_alike : {vs ws : List Seen} {from k n i j : ℕ} {at : Span} {p q : Outline} (l : Option ℕ) (before : List Owned) (x : Owned) → StepPlaced vs from (splits n at p q) ws k → Among x vs
    → step_faults l before (splits n at p q) ≡ [] → split_step l (splits n at p q) ≡ [] → OnWay x p i → OnWay x q j → i ≡ j
split_alike {i = i} {j = j} l before x (placed_split {n = n} {at = at} {p = p} {q = q} le all pp pq) a c e g h = by (is_outer l x) refl
  where
    by : (b : Bool) → is_outer l x ≡ b → i ≡ j
    by true out =
        unnamed_zero (λ u m. outer_unnamed l before x pp a out (clean_first l before n at p q c) m) g
        ∙ sym (unnamed_zero (λ u m. outer_unnamed l before x pq a out (clean_other l before n at p q c) m) h)
    by false out = one_number l x pq a out (even_other l n at p q e) (even l n at p q x (even_here l n at p q e) (among_before n all a) out g) h

loop_unnamed : {vs ws : List Seen} {from k n : ℕ} {p : Outline} (l : Option ℕ) (before : List Owned) (x : Owned) → StepPlaced vs from (repeats n p) ws k → Among x vs
    → step_faults l before (repeats n p) ≡ [] → HasUse named x p → ⊥
loop_unnamed l before x (placed_loop {n = n} le all p) a c u = outer_unnamed (Some n) before x p a (among_before n all a) c u.there u.kind u.is

-- A VISIBLE VARIABLE

-- a visible variable is well assigned from a place on
record WellSeen (before : List Owned) (x : Owned) (o : Outline) : Type 0 where
  counts : (n : ℕ) → OnWay x o n → Room x before n
  alike : (n : ℕ) (at : Span) (p q : Outline) (i j : ℕ) → Within (splits n at p q) o → OnWay x p i → OnWay x q j → i ≡ j
  loops : (n : ℕ) (p : Outline) → Within (repeats n p) o → HasUse named x p → ⊥

well_seen : {vs : List Seen} {from to : ℕ} {o : Outline} (l : Option ℕ) (before : List Owned) (x : Owned) → Placed vs from o to → Among x vs → is_outer l x ≡ false → way_faults l before o ≡ []
    → split_faults l o ≡ [] → WellSeen before x o
well_seen {o = o} l before x place a out c e = record {
  counts = λ n w. room l before out c w;
  alike = λ n at p q i j w g h. let r = here_in l before x place a c e w.there w.has in split_alike r.l r.before x r.place r.visible r.clean r.even g h;
  loops = λ n p w u. let r = here_in l before x place a c e w.there w.has in loop_unnamed r.l r.before x r.place r.visible r.clean u;
}

seen_later : (before : List Owned) {x : Owned} {d : Declared} {o : Outline} → WellSeen (before ++ given_by d.role d.what) x o → WellSeen before x (followed (declares d) o)
seen_later before {x} {d} {o} w = record {
  counts = λ n v. counts v;
  alike = λ n at p q i j v g h. elim (within_rest v) [
    | inl m ↦ w.alike n at p q i j m g h
    | inr f ↦ unnamed_zero (λ u m k e. elim (f u (to_left (uses_in p) (uses_in q) m)) [ ]) g ∙ sym (unnamed_zero (λ u m k e. elim (f u (to_right (uses_in p) (uses_in q) m)) [ ]) h)
  ];
  loops = λ n p v u. elim (within_rest v) [
    | inl m ↦ w.loops n p m u
    | inr f ↦ elim (f u.use_there u.there) [ ]
  ];
}
  where
    counts : {n : ℕ} → OnWay x (followed (declares d) o) n → Room x before n
    counts (and_then {n = n} a_declaration v e) =
        let rest = w.counts n v in
        let most = rest.once in
        record { once = omega arith; never = λ i. (let none = rest.never (to_left before (given_by d.role d.what) i) in omega arith) }

-- A DECLARED VARIABLE

well_first : (before : List Owned) {d : Declared} {o : Outline} → WellSeen (before ++ given_by d.role d.what) d.what o → WellAssigned d (followed (declares d) o)
well_first before {d} {o} w = record {
  once = λ n g v. once v;
  given_once = λ n g v. given_once g v;
  alike = λ n at p q i j r v g h. elim (within_rest v) [
    | inl m ↦ w.alike n at p q i j m g h
    | inr f ↦ unnamed_zero (λ u m k e. elim (f u (to_left (uses_in p) (uses_in q) m)) [ ]) g ∙ sym (unnamed_zero (λ u m k e. elim (f u (to_right (uses_in p) (uses_in q) m)) [ ]) h)
  ];
  outside_loops = λ n p v u. elim (within_rest v) [
    | inl m ↦ w.loops n p m u
    | inr f ↦ elim (f u.use_there u.there) [ ]
  ];
}
  where
    once : {n : ℕ} → OnWay d.what (followed (declares d) o) n → n ≤ 1
    once (and_then {n = n} a_declaration v e) = let most = (w.counts n v).once in omega arith

    given_once : {n : ℕ} → d.role ≡ given → OnWay d.what (followed (declares d) o) n → n ≡ 0
    given_once g (and_then {n = n} a_declaration v e) = let none = (w.counts n v).never (to_right before (given_by d.role d.what) (given_self d.role d.what g)) in omega arith

well_later : {s : Step} {d : Declared} {o : Outline} → WellAssigned d o → ((u : Use) → u ∈ uses_at s → u.of ≡ d.what → ⊥) → WellAssigned d (followed s o)
well_later {s} {d} {o} w h = record {
  once = λ n g v. once g v;
  given_once = λ n g v. given_once g v;
  alike = λ n at p q i j r v g k. elim (within_rest v) [
    | inl m ↦ w.alike n at p q i j r m g k
    | inr f ↦ unnamed_zero (λ u m z e. h u (f u (to_left (uses_in p) (uses_in q) m)) e) g ∙ sym (unnamed_zero (λ u m z e. h u (f u (to_right (uses_in p) (uses_in q) m)) e) k)
  ];
  outside_loops = λ n p v u. elim (within_rest v) [
    | inl m ↦ w.outside_loops n p m u
    | inr f ↦ h u.use_there (f u.use_there u.there) u.is
  ];
}
  where
    once : {n : ℕ} → (d.role ≡ given → ⊥) → OnWay d.what (followed s o) n → n ≤ 1
    once g (and_then {n = n} hs v e) = let none = unnamed_step (λ u i z e. h u i e) hs in let rest = w.once n g v in omega arith

    given_once : {n : ℕ} → d.role ≡ given → OnWay d.what (followed s o) n → n ≡ 0
    given_once g (and_then {n = n} hs v e) = let none = unnamed_step (λ u i z e. h u i e) hs in let rest = w.given_once n g v in omega arith

mutual
  ways_well : {vs : List Seen} {from to : ℕ} {o b : Outline} {d : Declared} (l : Option ℕ) (before : List Owned) → Placed vs from o to → Looped from l → way_faults l before o ≡ [] → split_faults l o ≡ []
      → BlockIn b o → HasStep (declares d) b → WellAssigned d b
  ways_well l before (placed_end le) lo c e j h = absurd (nothing_in j h)
  ways_well l before (placed_on {o = o} (placed_declaration {d = d} f g le n) po) lo c e the_block first_step =
      well_first before (well_seen l (before ++ given_by d.role d.what) d.what po (among_first refl) (lo d.what f) (clean_rest l before (declares d) o c) (even_rest l (declares d) o e))
  ways_well l before (placed_on {from = from} {k = k} {s = s} {o = o} ps po) lo c e the_block (later_step h) =
      well_later (ways_well l (before ++ step_way l s) po (looped_up l from k lo (step_rises ps)) (clean_rest l before s o c) (even_rest l s o e) the_block h)
      (λ u i q. step_apart ps (declared_range po the_block h).0 i q)
  ways_well l before (placed_on {s = s} {o = o} ps po) lo c e (in_a_step first_step j) h = step_well l before ps lo (clean_step l before s o c) (even_step l s o e) j h
  ways_well l before (placed_on {from = from} {k = k} {s = s} {o = o} ps po) lo c e (in_a_step (later_step g) j) h =
      ways_well l (before ++ step_way l s) po (looped_up l from k lo (step_rises ps)) (clean_rest l before s o c) (even_rest l s o e) (in_a_step g j) h

  step_well : {vs ws : List Seen} {from k : ℕ} {s : Step} {b : Outline} {d : Declared} (l : Option ℕ) (before : List Owned) → StepPlaced vs from s ws k → Looped from l → step_faults l before s ≡ []
      → split_step l s ≡ [] → BlockOf b s → HasStep (declares d) b → WellAssigned d b
  step_well l before (placed_declaration f g le n) lo c e j h = elim j [ ]
  step_well l before (placed_use f g) lo c e j h = elim j [ ]
  step_well l before (placed_split {from = from} {n = n} {at = at} {p = p} {q = q} le all pp pq) lo c e (in_first j) h =
      ways_well l before pp (looped_up l from (suc n) lo (omega arith)) (clean_first l before n at p q c) (even_first l n at p q e) j h
  step_well l before (placed_split {from = from} {n = n} {m = m} {at = at} {p = p} {q = q} le all pp pq) lo c e (in_other j) h =
      let a = rises pp in
      ways_well l before pq (looped_up l from m lo (omega arith)) (clean_other l before n at p q c) (even_other l n at p q e) j h
  step_well l before (placed_loop {n = n} le all p) lo c e (in_loop j) h = ways_well (Some n) before p (looped_in n) c e j h
  step_well l before (placed_wait all p) lo c e (in_wait j) h = ways_well l before p lo c e j h

-- BODIES

seen_body : {vs : List Seen} {o : Outline} (before : List Owned) (x : Owned) → ScopedBody vs o → NoLocals vs → Among x vs → way_faults None before o ≡ [] → split_faults None o ≡ [] → WellSeen before x o
seen_body before x (behind_parameters {from = from} s) n a c e = well_seen None before x (placed (no_locals from n) s) a refl c e
seen_body before x (a_parameter {d = d} {o = o} l r f s) n a c e =
    seen_later before (seen_body (before ++ given_by d.role d.what) x s (no_locals_more d l n) (among_more a) (clean_rest None before (declares d) o c) (even_rest None (declares d) o e))

pub body_well : {vs : List Seen} {o b : Outline} {d : Declared} (before : List Owned) → ScopedBody vs o → NoLocals vs → way_faults None before o ≡ [] → split_faults None o ≡ []
    → BlockIn b o → HasStep (declares d) b → WellAssigned d b
body_well before (behind_parameters {from = from} s) n c e j h = ways_well None before (placed (no_locals from n) s) (λ x q. refl) c e j h
body_well before (a_parameter {d = d} {o = o} l r f s) n c e the_block first_step =
    well_first before (seen_body (before ++ given_by d.role d.what) d.what s (no_locals_more d l n) (among_first refl) (clean_rest None before (declares d) o c) (even_rest None (declares d) o e))
body_well before (a_parameter {d = d} {o = o} l r f s) n c e the_block (later_step h) =
    well_later (body_well (before ++ given_by d.role d.what) s (no_locals_more d l n) (clean_rest None before (declares d) o c) (even_rest None (declares d) o e) the_block h) (λ u i q. elim i [ ])
body_well before (a_parameter l r f s) n c e (in_a_step first_step j) h = elim j [ ]
body_well before (a_parameter {d = d} {o = o} l r f s) n c e (in_a_step (later_step g) j) h =
    body_well (before ++ given_by d.role d.what) s (no_locals_more d l n) (clean_rest None before (declares d) o c) (even_rest None (declares d) o e) (in_a_step g j) h
