-- Where each variable is well assigned, no way has a fault.
use Rattle.std.specs.Prelude.{◌≡◌, ◌⊎◌, ℕ, suc, ◌+◌, Bool, true, false, cond, List, [], ◌∷◌, ◌++◌, Option, Some, None, refl}
use Rattle.std.proofs.Common.{inl, inr, sym, ◌∙◌, subst, arith}
use Rattle.lexer.specs.declared.token.Span.{Span}
use Rattle.language.specs.Core.{Owned}
use Rattle.language.specs.Members.{◌∈◌, first}
use Rattle.language.proofs.Members.{to_left, to_right, either}
use Rattle.assign_check.specs.declared.fault.AssignFault.TheVariants.{AssignedTwice, OuterInLoop}
use Rattle.assign_check.specs.Outline.{Kind, named, written, read, Use, Role, own, result, given, Declared, Outline, followed, Step, declares, uses, splits, repeats}
use Rattle.assign_check.specs.Faults.{is_among, is_outer, given_by, step_way, target_faults, branch_faults, way_faults, step_faults, split_faults, split_step, uses_in, uses_at}
use Rattle.assign_check.specs.Through.{HasStep, first_step, later_step, BlockIn, the_block, in_a_step, BlockOf, in_first, in_other, in_loop, in_wait, Within, OnWay, and_then, OnStep, a_declaration, a_target, first_branch, other_branch, a_wait}
use Rattle.assign_check.proofs.clauses.SingleOutline.{HasUse}
use Rattle.assign_check.proofs.outlines.Scoped.{Seen, seen, ScopedBody, behind_parameters, a_parameter}
use Rattle.assign_check.proofs.counting.Counts.{among_in, none_both}
use Rattle.assign_check.proofs.uses.Visible.{apart_by, Among, Apart, AllBefore, among_before, among_rest, among_more, among_first, Placed, placed, placed_end, placed_on, StepPlaced, placed_declaration, placed_use, placed_split, placed_loop, placed_wait, rises, step_rises, NoLocals, no_locals, no_locals_more, apart_from}
use Rattle.assign_check.proofs.faults.Bodies.{step_uses}
use Rattle.assign_check.proofs.through.Ways.{WellAssigned, apart_other, some_way, some_step, StepAssigned, step_held, branch_sees, branch_inner, given_in, given_self, Under, under_up, under_on, Looped, looped_up, looped_in}
use Rattle.assign_check.proofs.counting.Even.{no_branch_fault}
use Rattle.assign_check.proofs.through.Clean.{Unnamed, Room}

-- WHAT IS KNOWN AT A PLACE

pub later_by : {s t : Step} {o b : Outline} → BlockIn b o → HasStep t b → Within t (followed s o)
later_by {s = s} {o = o} the_block h = record { block = followed s o; there = the_block; has = later_step h }
later_by {b = b} (in_a_step g j) h = record { block = b; there = in_a_step (later_step g) j; has = h }

pub within_later : {s t : Step} {o : Outline} → Within t o → Within t (followed s o)
within_later {s} {t} {o} w = later_by w.there w.has

-- a visible variable, where these are assigned on some way before
pub record Wanted (l : Option ℕ) (before : List Owned) (x : Owned) (o : Outline) : Type 0 where
  pub room : (n : ℕ) → is_outer l x ≡ false → OnWay x o n → Room x before n
  pub alike : is_outer l x ≡ false → (x ∈ before) ⊎ ((n : ℕ) (at : Span) (p q : Outline) (i j : ℕ) → Within (splits n at p q) o → OnWay x p i → OnWay x q j → i ≡ j)
  pub loops : (n : ℕ) (p : Outline) → Within (repeats n p) o → HasUse named x p → ⊥
  pub outer : is_outer l x ≡ true → Unnamed x (uses_in o)

abbrev pub AllWanted : Option ℕ → List Owned → List Seen → Outline → Type 0
AllWanted l before vs o = (x : Owned) → Among x vs → Wanted l before x o

-- what is declared in a block or inside it is well assigned
abbrev pub AllAssigned : Outline → Type 0
AllAssigned o = (d : Declared) (b : Outline) → BlockIn b o → HasStep (declares d) b → WellAssigned d b

shorter : {s : Step} {o : Outline} {d : Declared} → WellAssigned d (followed s o) → WellAssigned d o
shorter {s} {o} {d} w = record {
  once = λ n g v. let m = w.once ((some_step d.what s).0 + n) g (and_then (some_step d.what s).1 v refl) in omega arith;
  given_once = λ n g v. let m = w.given_once ((some_step d.what s).0 + n) g (and_then (some_step d.what s).1 v refl) in omega arith;
  alike = λ n at p q i j g v. w.alike n at p q i j g (within_later v);
  outside_loops = λ n p v. w.outside_loops n p (within_later v);
}

assigned_by : {s : Step} {o b : Outline} {d : Declared} → AllAssigned (followed s o) → BlockIn b o → HasStep (declares d) b → WellAssigned d b
assigned_by {s = s} {o = o} {d = d} all the_block h = shorter (all d (followed s o) the_block (later_step h))
assigned_by {b = b} {d = d} all (in_a_step g j) h = all d b (in_a_step (later_step g) j) h

assigned_rest : {s : Step} {o : Outline} → AllAssigned (followed s o) → AllAssigned o
assigned_rest all d b j h = assigned_by all j h

-- a variable that was visible before a step
wanted_rest : {x : Owned} {s : Step} {o : Outline} (l : Option ℕ) (before : List Owned) → (x ∈ step_way l s → StepAssigned x s) → Wanted l before x (followed s o) → Wanted l (before ++ step_way l s) x o
wanted_rest {x} {s} {o} l before held w = record {
  room = λ n out v. record {
    once = (let most = (w.room ((some_step x s).0 + n) out (and_then (some_step x s).1 v refl)).once in omega arith);
    never = λ i. elim (either before (step_way l s) i) [
      | inl j ↦ (let none = (w.room ((some_step x s).0 + n) out (and_then (some_step x s).1 v refl)).never j in omega arith)
      | inr j ↦ (let h = held j in let one = h.2 in let most = (w.room (h.0 + n) out (and_then h.1 v refl)).once in omega arith)
    ];
  };
  alike = λ out. elim (w.alike out) [
    | inl h ↦ inl (to_left before (step_way l s) h)
    | inr h ↦ inr (λ n at p q i j v. h n at p q i j (within_later v))
  ];
  loops = λ n p v. w.loops n p (within_later v);
  outer = λ out u i. w.outer out u (to_right (uses_at s) (uses_in o) i);
}

role_given : (r : Role) → (r ≡ given) ⊎ (r ≡ given → ⊥)
role_given given = inl refl
role_given own = inr (λ e. absurd (cc (e)))
role_given result = inr (λ e. absurd (cc (e)))

-- a variable behind its declaration
wanted_new : (l : Option ℕ) (before : List Owned) (d : Declared) (o : Outline) → WellAssigned d (followed (declares d) o) → is_outer l d.what ≡ false → (d.what ∈ before → ⊥)
    → Wanted l (before ++ given_by d.role d.what) d.what o
wanted_new l before d o w inner none = record {
  room = λ n out v. elim (role_given d.role) [
    | inl g ↦ (let m = w.given_once (0 + n) g (and_then a_declaration v refl) in record { once = omega arith; never = λ i. omega arith })
    | inr g ↦ (let m = w.once (0 + n) g (and_then a_declaration v refl) in record {
      once = omega arith;
      never = λ i. elim (either before (given_by d.role d.what) i) [
        | inl j ↦ absurd (none j)
        | inr j ↦ absurd (g (given_in d.role d.what d.what j).1)
      ];
    })
  ];
  alike = λ out. elim (role_given d.role) [
    | inl g ↦ inl (to_right before (given_by d.role d.what) (given_self d.role d.what g))
    | inr g ↦ inr (λ n at p q i j v. w.alike n at p q i j g (within_later v))
  ];
  loops = λ n p v. w.outside_loops n p (within_later v);
  outer = λ out u i k e. let both : true ≡ false = sym out ∙ inner in absurd (cc (both));
}

all_behind : {vs : List Seen} (l : Option ℕ) (before : List Owned) (d : Declared) (o : Outline) → Apart d.what vs → is_outer l d.what ≡ false → (d.what ∈ before → ⊥)
    → AllWanted l before vs (followed (declares d) o) → WellAssigned d (followed (declares d) o) → AllWanted l (before ++ given_by d.role d.what) (seen d ∷ vs) o
all_behind l before d o n inner none all w x a = elim (among_rest a) [
  | inl e ↦ subst (λ (z : Owned). Wanted l (before ++ given_by d.role d.what) z o) e (wanted_new l before d o w inner none)
  | inr b ↦ wanted_rest l before (λ i. absurd (apart_other n b (sym (given_in d.role d.what x i).0))) (all x b)
]

all_rest : {vs ws : List Seen} {from k : ℕ} {s : Step} {o : Outline} (l : Option ℕ) (before : List Owned) → StepPlaced vs from s ws k → Looped from l → Under from before
    → AllWanted l before vs (followed s o) → AllAssigned (followed s o) → AllWanted l (before ++ step_way l s) ws o
all_rest {o = o} l before (placed_declaration {d = d} f g le n) lo un all w x a = all_behind l before d o n (lo d.what f) (un d.what f) all (w d (followed (declares d) o) the_block first_step) x a
all_rest l before (placed_use {u = u} f g) lo un all w x a = wanted_rest l before (λ i. step_held l x (placed_use f g) a i) (all x a)
all_rest l before (placed_split {at = at} le b p q) lo un all w x a = wanted_rest l before (λ i. step_held l x (placed_split {at = at} le b p q) a i) (all x a)
all_rest l before (placed_loop le b p) lo un all w x a = wanted_rest l before (λ i. step_held l x (placed_loop le b p) a i) (all x a)
all_rest l before (placed_wait b p) lo un all w x a = wanted_rest l before (λ i. step_held l x (placed_wait b p) a i) (all x a)

-- BLOCKS INSIDE A STEP

assigned_inner : {s : Step} {o p : Outline} → ((b : Outline) → BlockIn b p → BlockOf b s) → AllAssigned (followed s o) → AllAssigned p
assigned_inner g all d b j h = all d b (in_a_step first_step (g b j)) h

within_inner : {s t : Step} {o p : Outline} → ((b : Outline) → BlockIn b p → BlockOf b s) → Within t p → Within t (followed s o)
within_inner g w = record { block = w.block; there = in_a_step first_step (g w.block w.there); has = w.has }

-- a block on the way
wanted_inner : {vs : List Seen} {s : Step} {o p : Outline} (l : Option ℕ) (before : List Owned) → ((b : Outline) → BlockIn b p → BlockOf b s) → ((x : Owned) (m : ℕ) → OnWay x p m → OnStep x s m)
    → AllWanted l before vs (followed s o) → AllWanted l before vs p
wanted_inner {s = s} {o = o} {p = p} l before g f all x a = let w = all x a in record {
  room = λ n out v.
      let rest = some_way x o in
      let r = w.room (n + rest.0) out (and_then (f x n v) rest.1 refl) in
      record { once = (let most = r.once in omega arith); never = λ i. (let none = r.never i in omega arith) };
  alike = λ out. elim (w.alike out) [
    | inl h ↦ inl h
    | inr h ↦ inr (λ n at q r i j v. h n at q r i j (within_inner g v))
  ];
  loops = λ n q v. w.loops n q (within_inner g v);
  outer = λ out u i. w.outer out u (to_left (uses_at s) (uses_in o) (step_uses (g p the_block) i));
}

-- a loop's body: all variables from outside are outer
wanted_loop : {vs : List Seen} {o p : Outline} (l : Option ℕ) (before : List Owned) (n : ℕ) → AllBefore n vs → AllWanted l before vs (followed (repeats n p) o) → AllWanted (Some n) before vs p
wanted_loop {o = o} {p = p} l before n old all x a = let w = all x a in record {
  room = λ m out v. absurd (apart_by {x = x} {y = x} n (among_before n old a) out refl);
  alike = λ out. absurd (apart_by {x = x} {y = x} n (among_before n old a) out refl);
  loops = λ m q v. w.loops m q (within_inner (λ b j. in_loop j) v);
  outer = λ out u i k e. w.loops n p (record { block = followed (repeats n p) o; there = the_block; has = first_step }) (record { use_there = u; there = i; kind = k; is = e });
}

-- NO FAULT

target_clean : (l : Option ℕ) (before : List Owned) (x : Owned) (at : Span) → (is_outer l x ≡ true → ⊥) → (is_outer l x ≡ false → x ∈ before → ⊥) → target_faults l before named x at ≡ []
target_clean l before x at inner once = by (is_outer l x) refl
  where
    again : (b : Bool) → is_outer l x ≡ false → is_among x before ≡ b → cond b (AssignedTwice at ∷ []) [] ≡ []
    again true out e = absurd (once out (among_in x before e))
    again false out e = refl

    by : (b : Bool) → is_outer l x ≡ b → cond b (OuterInLoop at ∷ []) (cond (is_among x before) (AssignedTwice at ∷ []) []) ≡ []
    by true out = absurd (inner out)
    by false out = again (is_among x before) out refl

use_clean : {o : Outline} (l : Option ℕ) (before : List Owned) (u : Use) (k : Kind) → u.kind ≡ k → Wanted l before u.of (followed (uses u) o) → target_faults l before k u.of u.span ≡ []
use_clean l before u written k w = refl
use_clean l before u read k w = refl
use_clean {o = o} l before u named k w =
    target_clean l before u.of u.span (λ out. w.outer out u first k refl)
    (λ out i. let rest = some_way u.of o in let none = (w.room (1 + rest.0) out (and_then (a_target k refl) rest.1 refl)).never i in absurd (omega arith))

alike_by : {n : ℕ} {o : Outline} (l : Option ℕ) (before : List Owned) (x : Owned) (at : Span) (p q : Outline) (i j : ℕ) → is_outer l x ≡ false → Wanted l before x (followed (splits n at p q) o)
    → OnWay x p i → OnWay x q j → i ≡ j
alike_by {n = n} {o = o} l before x at p q i j out w one two = elim (w.alike out) [
  | inl h ↦ (
      let rest = some_way x o in
      let none = (w.room (i + rest.0) out (and_then (first_branch one) rest.1 refl)).never h in
      let nor = (w.room (j + rest.0) out (and_then (other_branch two) rest.1 refl)).never h in
      omega arith
      )
  | inr h ↦ h n at p q i j (record { block = followed (splits n at p q) o; there = the_block; has = first_step }) one two
]

-- no target has a fault, and no `if`
pub record Free (l : Option ℕ) (before : List Owned) (o : Outline) : Type 0 where
  pub targets : way_faults l before o ≡ []
  pub branches : split_faults l o ≡ []

pub record StepFree (l : Option ℕ) (before : List Owned) (s : Step) : Type 0 where
  pub targets : step_faults l before s ≡ []
  pub branches : split_step l s ≡ []

both_free : {l : Option ℕ} {before : List Owned} {s : Step} {o : Outline} → StepFree l before s → Free l (before ++ step_way l s) o → Free l before (followed s o)
both_free {l = l} {before = before} {s = s} {o = o} here rest = record {
  targets = none_both {xs = step_faults l before s} {ys = way_faults l (before ++ step_way l s) o} here.targets rest.targets;
  branches = none_both {xs = split_step l s} {ys = split_faults l o} here.branches rest.branches;
}

split_free : (l : Option ℕ) (before : List Owned) (n : ℕ) (at : Span) (p q : Outline) → Free l before p → Free l before q → branch_faults l n at p q ≡ [] → StepFree l before (splits n at p q)
split_free l before n at p q one two here = record {
  targets = none_both {xs = way_faults l before p} {ys = way_faults l before q} one.targets two.targets;
  branches = none_both {xs = split_faults l p ++ split_faults l q} {ys = branch_faults l n at p q} (none_both {xs = split_faults l p} {ys = split_faults l q} one.branches two.branches) here;
}

mutual
  fault_free : {vs : List Seen} {from to : ℕ} {o : Outline} (l : Option ℕ) (before : List Owned) → Placed vs from o to → Looped from l → Under from before → AllWanted l before vs o
      → AllAssigned o → Free l before o
  fault_free l before (placed_end le) lo un all w = record { targets = refl; branches = refl }
  fault_free l before (placed_on {from = from} {k = k} {s = s} {o = o} ps po) lo un all w =
      both_free (step_free o l before ps lo un all w)
      (fault_free l (before ++ step_way l s) po (looped_up l from k lo (step_rises ps)) (under_on before l ps un) (all_rest l before ps lo un all w) (assigned_rest w))

  step_free : {vs ws : List Seen} {from k : ℕ} {s : Step} (o : Outline) (l : Option ℕ) (before : List Owned) → StepPlaced vs from s ws k → Looped from l → Under from before
      → AllWanted l before vs (followed s o) → AllAssigned (followed s o) → StepFree l before s
  step_free o l before (placed_declaration f g le n) lo un all w = record { targets = refl; branches = refl }
  step_free o l before (placed_use {vs = vs} {u = u} f g) lo un all w =
      let a : Among u.of vs = record { variable = f.variable; visible = f.visible; is = f.is } in
      record { targets = use_clean l before u u.kind refl (all u.of a); branches = refl }
  step_free o l before (placed_split {vs = vs} {from = from} {n = n} {m = m} {k = k} {at = at} {p = p} {q = q} le old pp pq) lo un all w =
      let b = rises pp in
      split_free l before n at p q
      (fault_free l before pp (looped_up l from (suc n) lo (omega arith)) (under_up before from (suc n) un (omega arith)) (wanted_inner l before (λ b j. in_first j) (λ x m v. first_branch v) all)
      (assigned_inner (λ b j. in_first j) w))
      (fault_free l before pq (looped_up l from m lo (omega arith)) (under_up before from m un (omega arith)) (wanted_inner l before (λ b j. in_other j) (λ x m v. other_branch v) all)
      (assigned_inner (λ b j. in_other j) w))
      (no_branch_fault l n at p q (λ x i h.
      let a = branch_sees l x pp pq h i in
      let out = branch_inner l x pp pq a i in
      (out, λ i j v u. alike_by l before x at p q i j out (all x a) v u)))
  step_free o l before (placed_loop {from = from} {n = n} le old p) lo un all w =
      let r = fault_free (Some n) before p (looped_in n) (under_up before from (suc n) un (omega arith)) (wanted_loop l before n old all) (assigned_inner (λ b j. in_loop j) w) in
      record { targets = r.targets; branches = r.branches }
  step_free o l before (placed_wait old p) lo un all w =
      let r = fault_free l before p lo un (wanted_inner l before (λ b j. in_wait j) (λ x m v. a_wait v) all) (assigned_inner (λ b j. in_wait j) w) in
      record { targets = r.targets; branches = r.branches }

-- only variables that are visible stand among these
abbrev pub Visible : List Seen → List Owned → Type 0
Visible vs before = (x : Owned) → Apart x vs → x ∈ before → ⊥

visible_on : {vs : List Seen} (before : List Owned) (d : Declared) → Visible vs before → Visible (seen d ∷ vs) (before ++ given_by d.role d.what)
visible_on before d h x n i = elim (either before (given_by d.role d.what) i) [
  | inl j ↦ h x (λ a. n (among_more a)) j
  | inr j ↦ n (among_first (sym (given_in d.role d.what x j).0))
]

-- BODIES

pub body_free : {vs : List Seen} {o : Outline} (before : List Owned) → ScopedBody vs o → NoLocals vs → Visible vs before → AllWanted None before vs o → AllAssigned o → Free None before o
body_free before (behind_parameters {from = from} s) n v all w =
    fault_free None before (placed (no_locals from n) s) (λ x e. refl) (λ x e. v x (λ a. apart_by {x = x} {y = x} from (among_before from (no_locals from n) a) e refl)) all w
body_free before (a_parameter {d = d} {o = o} l r f s) n v all w =
    both_free (record { targets = refl; branches = refl }) (body_free (before ++ given_by d.role d.what) s (no_locals_more d l n) (visible_on before d v)
    (all_behind None before d o (apart_from f) refl (v d.what (apart_from f)) all (w d (followed (declares d) o) the_block first_step)) (assigned_rest w))
