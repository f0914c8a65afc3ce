-- The ways through a block, and the variables that they assign: which of these are visible, and where.
use Rattle.std.specs.Prelude.{◌≡◌, ◌⊎◌, ℕ, zero, suc, ◌+◌, ◌≤◌, Bool, true, false, cond, List, [], ◌∷◌, ◌++◌, Option, Some, refl}
use Rattle.std.proofs.Common.{inl, inr, sym, ap, ◌∙◌, subst, arith}
use Rattle.lexer.specs.declared.token.Span.{Span}
use Rattle.language.specs.Core.{Owned}
use Rattle.language.specs.Members.{◌∈◌, first}
use Rattle.language.proofs.Members.{split_in, to_left, to_right, either}
use Rattle.assign_check.specs.Outline.{Kind, named, written, read, Use, Role, own, result, given, Declared, Outline, nothing, followed, Step, declares, uses, splits, repeats, encloses}
use Rattle.assign_check.specs.Faults.{times, is_before, is_outer, named_by, given_by, way, step_way}
use Rattle.assign_check.specs.Through.{Within, OnWay, at_end, and_then, OnStep, a_declaration, a_target, of_another, no_name, first_branch, other_branch, a_loop, a_wait}
use Rattle.assign_check.proofs.clauses.SingleOutline.{HasUse}
use Rattle.assign_check.proofs.outlines.Scoped.{Seen}
use Rattle.assign_check.proofs.counting.Counts.{same_or, same_from, times_self, times_other}
use Rattle.assign_check.proofs.uses.Visible.{before_up, not_before, apart_by, Among, Apart, among_on, Placed, placed_end, placed_on, StepPlaced, placed_declaration, placed_use, placed_split, placed_loop, placed_wait, rises, step_rises, Stands, stand_up, stand_before, stand_behind, stand_among}

-- WHAT SINGLE ASSIGNMENT ASKS OF A VARIABLE ON WAYS, IN THE BLOCK THAT DECLARES IT

pub record WellAssigned (d : Declared) (b : Outline) : Type 0 where
  pub once : (n : ℕ) → (d.role ≡ given → ⊥) → OnWay d.what b n → n ≤ 1
  pub given_once : (n : ℕ) → d.role ≡ given → OnWay d.what b n → n ≡ 0
  pub alike : (n : ℕ) (at : Span) (p q : Outline) (i j : ℕ) → (d.role ≡ given → ⊥) → Within (splits n at p q) b → OnWay d.what p i → OnWay d.what q j → i ≡ j
  pub outside_loops : (n : ℕ) (p : Outline) → Within (repeats n p) b → HasUse named d.what p → ⊥

-- A STEP'S PART OF A WAY

pub named_other : (l : Option ℕ) (k : Kind) (y x : Owned) → (y ≡ x → ⊥) → times x (named_by l k y) ≡ 0
named_other l named y x h = by (is_outer l y)
  where
    by : (b : Bool) → times x (cond b [] (y ∷ [])) ≡ 0
    by true = refl
    by false = times_other h
named_other l written y x h = refl
named_other l read y x h = refl

pub no_target : (l : Option ℕ) (k : Kind) (y x : Owned) → (k ≡ named → ⊥) → times x (named_by l k y) ≡ 0
no_target l named y x h = absurd (h refl)
no_target l written y x h = refl
no_target l read y x h = refl

pub target_counts : (l : Option ℕ) (k : Kind) (y x : Owned) → is_outer l x ≡ false → k ≡ named → y ≡ x → times x (named_by l k y) ≡ 1
target_counts l k y x h e q =
    ap (λ (z : Kind). times x (named_by l z y)) e
    ∙ ap (λ (z : Owned). times x (cond (is_outer l z) [] (z ∷ []))) q
    ∙ ap (λ (b : Bool). times x (cond b [] (x ∷ []))) h
    ∙ times_self x

pub kind_named : (k : Kind) → (k ≡ named) ⊎ (k ≡ named → ⊥)
kind_named named = inl refl
kind_named written = inr (λ e. absurd (cc (e)))
kind_named read = inr (λ e. absurd (cc (e)))

-- USES

pub owned_is : (x y : Owned) → (x ≡ y) ⊎ (x ≡ y → ⊥)
owned_is x y = elim (same_or x y) [
  | inl e ↦ inl e
  | inr h ↦ inr (λ e. let no : true ≡ false = sym (same_from e) ∙ h in absurd (cc (no)))
]

pub use_counts : (l : Option ℕ) (u : Use) (x : Owned) → is_outer l x ≡ false → OnStep x (uses u) (times x (named_by l u.kind u.of))
use_counts l u x out = elim (owned_is u.of x) [
  | inl e ↦ elim (kind_named u.kind) [
    | inl k ↦ subst (λ (n : ℕ). OnStep x (uses u) n) (sym (target_counts l u.kind u.of x out k e)) (a_target k e)
    | inr k ↦ subst (λ (n : ℕ). OnStep x (uses u) n) (sym (no_target l u.kind u.of x k)) (no_name k)
  ]
  | inr h ↦ subst (λ (n : ℕ). OnStep x (uses u) n) (sym (named_other l u.kind u.of x h)) (of_another h)
]

pub use_counted : {n : ℕ} (l : Option ℕ) (u : Use) (x : Owned) → is_outer l x ≡ false → OnStep x (uses u) n → n ≡ times x (named_by l u.kind u.of)
use_counted l u x out (a_target k e) = sym (target_counts l u.kind u.of x out k e)
use_counted l u x out (of_another k) = sym (named_other l u.kind u.of x k)
use_counted l u x out (no_name k) = sym (no_target l u.kind u.of x k)

pub apart_other : {x y : Owned} {vs : List Seen} → Apart y vs → Among x vs → y ≡ x → ⊥
apart_other {vs = vs} n a e = n (subst (λ (z : Owned). Among z vs) (sym e) a)

some_use : (x : Owned) (u : Use) → (n : ℕ) × OnStep x (uses u) n
some_use x u = elim (owned_is u.of x) [
  | inl e ↦ elim (kind_named u.kind) [
    | inl k ↦ (1, a_target k e)
    | inr k ↦ (0, no_name k)
  ]
  | inr h ↦ (0, of_another h)
]

mutual
  -- each block has a way
  pub some_way : (x : Owned) (o : Outline) → (n : ℕ) × OnWay x o n
  some_way x nothing = (0, at_end)
  some_way x (followed s o) = let r = some_step x s in let q = some_way x o in (r.0 + q.0, and_then r.1 q.1 refl)

  pub some_step : (x : Owned) (s : Step) → (n : ℕ) × OnStep x s n
  some_step x (declares d) = (0, a_declaration)
  some_step x (uses u) = some_use x u
  some_step x (splits n at p q) = let r = some_way x p in (r.0, first_branch r.1)
  some_step x (repeats n p) = (0, a_loop)
  some_step x (encloses p) = let r = some_way x p in (r.0, a_wait r.1)

-- WHICH VARIABLES SOME WAY ASSIGNS

pub nat_zero : (n : ℕ) → (n ≡ 0) ⊎ (1 ≤ n)
nat_zero zero = inl refl
nat_zero (suc n) = inr (omega arith)

pub given_in : (r : Role) (y x : Owned) → x ∈ given_by r y → (x ≡ y) × (r ≡ given)
given_in given y x i = elim (split_in i) [ inl e ↦ (e, refl) | inr j ↦ elim j [ ] ]
given_in own y x i = elim i [ ]
given_in result y x i = elim i [ ]

pub given_self : (r : Role) (x : Owned) → r ≡ given → x ∈ given_by r x
given_self given x e = first
given_self own x e = absurd (cc (e))
given_self result x e = absurd (cc (e))

pub named_in : (l : Option ℕ) (k : Kind) (y x : Owned) → x ∈ named_by l k y → (x ≡ y) × (k ≡ named) × (is_outer l x ≡ false)
named_in l named y x i = by (is_outer l y) refl i
  where
    by : (b : Bool) → is_outer l y ≡ b → x ∈ cond b [] (y ∷ []) → (x ≡ y) × (named ≡ named) × (is_outer l x ≡ false)
    by true h i = elim i [ ]
    by false h i = elim (split_in i) [ inl e ↦ (e, refl, ap (is_outer l) e ∙ h) | inr j ↦ elim j [ ] ]
named_in l written y x i = elim i [ ]
named_in l read y x i = elim i [ ]

named_self : (l : Option ℕ) (k : Kind) (x : Owned) → is_outer l x ≡ false → k ≡ named → x ∈ named_by l k x
named_self l k x out e =
    subst (λ (z : Kind). x ∈ named_by l z x) (sym e) (subst (λ (b : Bool). x ∈ cond b [] (x ∷ [])) (sym out) first)

mutual
  -- a variable that a way assigns
  pub way_holds : {x : Owned} {o : Outline} {n : ℕ} (l : Option ℕ) → is_outer l x ≡ false → OnWay x o n → 1 ≤ n → x ∈ way l o
  way_holds l out at_end one = absurd (omega arith)
  way_holds l out (and_then {s = s} {o = o} {m = m} {n = n} hs ho e) one = elim (nat_zero m) [
    | inl z ↦ to_right (step_way l s) (way l o) (way_holds l out ho (omega arith))
    | inr p ↦ to_left (step_way l s) (way l o) (step_holds l out hs p)
  ]

  pub step_holds : {x : Owned} {s : Step} {n : ℕ} (l : Option ℕ) → is_outer l x ≡ false → OnStep x s n → 1 ≤ n → x ∈ step_way l s
  step_holds l out a_declaration one = absurd (omega arith)
  step_holds {x = x} l out (a_target {u = u} k e) one = subst (λ (z : Owned). x ∈ named_by l u.kind z) (sym e) (named_self l u.kind x out k)
  step_holds l out (of_another k) one = absurd (omega arith)
  step_holds l out (no_name k) one = absurd (omega arith)
  step_holds l out (first_branch {o = o} {p = p} w) one = to_left (way l o) (way l p) (way_holds l out w one)
  step_holds l out (other_branch {o = o} {p = p} w) one = to_right (way l o) (way l p) (way_holds l out w one)
  step_holds l out a_loop one = absurd (omega arith)
  step_holds l out (a_wait w) one = way_holds l out w one

-- a variable that some way assigns
abbrev pub Assigned : Owned → Outline → Type 0
Assigned x o = (n : ℕ) × OnWay x o n × (1 ≤ n)

abbrev pub StepAssigned : Owned → Step → Type 0
StepAssigned x s = (n : ℕ) × OnStep x s n × (1 ≤ n)

mutual
  -- a visible variable that is listed
  pub way_held : {vs : List Seen} {from to : ℕ} {o : Outline} (l : Option ℕ) (x : Owned) → Placed vs from o to → Among x vs → x ∈ way l o → Assigned x o
  way_held l x (placed_end le) a i = elim i [ ]
  way_held l x (placed_on {s = s} {o = o} ps po) a i = elim (either (step_way l s) (way l o) i) [
    | inl j ↦ (let r = step_held l x ps a j in let q = some_way x o in let p = r.2 in (r.0 + q.0, and_then r.1 q.1 refl, omega arith))
    | inr j ↦ (let r = way_held l x po (among_on ps a) j in let q = some_step x s in let p = r.2 in (q.0 + r.0, and_then q.1 r.1 refl, omega arith))
  ]

  pub step_held : {vs ws : List Seen} {from k : ℕ} {s : Step} (l : Option ℕ) (x : Owned) → StepPlaced vs from s ws k → Among x vs → x ∈ step_way l s → StepAssigned x s
  step_held l x (placed_declaration {d = d} h g le n) a i = absurd (apart_other n a (sym (given_in d.role d.what x i).0))
  step_held l x (placed_use {u = u} h g) a i = let r = named_in l u.kind u.of x i in (1, a_target r.1 (sym r.0), omega arith)
  step_held l x (placed_split {p = p} {q = q} le all pp pq) a i = elim (either (way l p) (way l q) i) [
    | inl j ↦ (let r = way_held l x pp a j in (r.0, first_branch r.1, r.2))
    | inr j ↦ (let r = way_held l x pq a j in (r.0, other_branch r.1, r.2))
  ]
  step_held l x (placed_loop le all p) a i = elim i [ ]
  step_held l x (placed_wait all p) a i = let r = way_held l x p a i in (r.0, a_wait r.1, r.2)

mutual
  -- a visible variable that is listed is not outer to the loop
  pub way_inner : {vs : List Seen} {from to : ℕ} {o : Outline} (l : Option ℕ) (x : Owned) → Placed vs from o to → Among x vs → x ∈ way l o → is_outer l x ≡ false
  way_inner l x (placed_end le) a i = elim i [ ]
  way_inner l x (placed_on {s = s} {o = o} ps po) a i = elim (either (step_way l s) (way l o) i) [
    | inl j ↦ step_inner l x ps a j
    | inr j ↦ way_inner l x po (among_on ps a) j
  ]

  step_inner : {vs ws : List Seen} {from k : ℕ} {s : Step} (l : Option ℕ) (x : Owned) → StepPlaced vs from s ws k → Among x vs → x ∈ step_way l s → is_outer l x ≡ false
  step_inner l x (placed_declaration {d = d} h g le n) a i = absurd (apart_other n a (sym (given_in d.role d.what x i).0))
  step_inner l x (placed_use {u = u} h g) a i = (named_in l u.kind u.of x i).2
  step_inner l x (placed_split {p = p} {q = q} le all pp pq) a i = elim (either (way l p) (way l q) i) [
    | inl j ↦ way_inner l x pp a j
    | inr j ↦ way_inner l x pq a j
  ]
  step_inner l x (placed_loop le all p) a i = elim i [ ]
  step_inner l x (placed_wait all p) a i = way_inner l x p a i

-- WHERE THEY STAND

mutual
  pub way_stands : {vs : List Seen} {from to : ℕ} {o : Outline} (l : Option ℕ) (x : Owned) → Placed vs from o to → x ∈ way l o → Stands vs from to x
  way_stands l x (placed_end le) i = elim i [ ]
  way_stands {to = to} l x (placed_on {from = from} {k = k} {s = s} {o = o} ps po) i = elim (either (step_way l s) (way l o) i) [
    | inl j ↦ (let a = step_rises ps in let b = rises po in stand_up x from from k to (step_stands l x ps j) (omega arith) (omega arith) b)
    | inr j ↦ stand_behind x ps (rises po) (way_stands l x po j)
  ]

  pub step_stands : {vs ws : List Seen} {from k : ℕ} {s : Step} (l : Option ℕ) (x : Owned) → StepPlaced vs from s ws k → x ∈ step_way l s → Stands vs from k x
  step_stands l x (placed_declaration {vs = vs} {from = from} {k = k} {d = d} h g le n) i = subst (λ (z : Owned). Stands vs from k z) (sym (given_in d.role d.what x i).0) (inr (h, g))
  step_stands l x (placed_use {vs = vs} {from = from} {u = u} h g) i =
      subst (λ (z : Owned). Stands vs from from z) (sym (named_in l u.kind u.of x i).0) (inl (record { variable = h.variable; visible = h.visible; is = h.is }, g))
  step_stands l x (placed_split {from = from} {n = n} {m = m} {k = k} {p = p} {q = q} le all pp pq) i =
      let a = rises pp in
      let b = rises pq in
      elim (either (way l p) (way l q) i) [
        | inl j ↦ stand_up x from (suc n) m k (way_stands l x pp j) (omega arith) (omega arith) b
        | inr j ↦ stand_up x from m k k (way_stands l x pq j) (omega arith) b (omega arith)
      ]
  step_stands l x (placed_loop le all p) i = elim i [ ]
  step_stands l x (placed_wait all p) i = way_stands l x p i

-- a variable from outside of an `if` that is listed in a branch is visible
pub branch_sees : {vs : List Seen} {n m k : ℕ} {p q : Outline} (l : Option ℕ) (x : Owned) → Placed vs (suc n) p m → Placed vs m q k → is_before n x ≡ true → x ∈ (way l p ++ way l q) → Among x vs
branch_sees {n = n} {m = m} {k = k} {p = p} {q = q} l x pp pq h i = elim (either (way l p) (way l q) i) [
  | inl j ↦ stand_among x (suc n) m (way_stands l x pp j) (before_up x n (suc n) h (omega arith))
  | inr j ↦ (let a = rises pp in stand_among x m k (way_stands l x pq j) (before_up x n m h (omega arith)))
]

pub branch_inner : {vs : List Seen} {n m k : ℕ} {p q : Outline} (l : Option ℕ) (x : Owned) → Placed vs (suc n) p m → Placed vs m q k → Among x vs → x ∈ (way l p ++ way l q) → is_outer l x ≡ false
branch_inner {p = p} {q = q} l x pp pq a i = elim (either (way l p) (way l q) i) [
  | inl j ↦ way_inner l x pp a j
  | inr j ↦ way_inner l x pq a j
]

-- WHAT STANDS BEFORE A PLACE

-- no variable that is declared from here on stands among these
abbrev pub Under : ℕ → List Owned → Type 0
Under from before = (x : Owned) → is_before from x ≡ false → x ∈ before → ⊥

pub under_up : (before : List Owned) (from n : ℕ) → Under from before → from ≤ n → Under n before
under_up before from n h le x e = h x (not_before x from n e le)

pub under_on : {vs ws : List Seen} {from k : ℕ} {s : Step} (before : List Owned) (l : Option ℕ) → StepPlaced vs from s ws k → Under from before → Under k (before ++ step_way l s)
under_on {from = from} {k = k} {s = s} before l ps h x e i = elim (either before (step_way l s) i) [
  | inl j ↦ under_up before from k h (step_rises ps) x e j
  | inr j ↦ apart_by {x = x} {y = x} k (stand_before x from k (step_stands l x ps j) (step_rises ps)) e refl
]

-- no variable that is declared from here on is outer to the loop
abbrev pub Looped : ℕ → Option ℕ → Type 0
Looped from l = (x : Owned) → is_before from x ≡ false → is_outer l x ≡ false

pub looped_up : (l : Option ℕ) (from n : ℕ) → Looped from l → from ≤ n → Looped n l
looped_up l from n h le x e = h x (not_before x from n e le)

pub looped_in : (n : ℕ) → Looped (suc n) (Some n)
looped_in n x e = not_before x n (suc n) e (omega arith)

-- what is not outer to a loop is not outer to one round it
pub looped_out : (l : Option ℕ) (from n : ℕ) → Looped from l → from ≤ n → (x : Owned) → is_before n x ≡ false → is_outer l x ≡ false
looped_out l from n h le x e = h x (not_before x from n e le)
