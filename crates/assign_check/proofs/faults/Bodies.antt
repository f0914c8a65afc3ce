-- The faults of a body's variables, against the clauses of single assignment that speak of uses.
use Rattle.std.specs.Prelude.{◌≡◌, ◌⊎◌, []}
use Rattle.std.specs.List.{flat_map}
use Rattle.std.proofs.Common.{inl, inr, sym, subst}
use Rattle.language.specs.declared.tree.Keys.{Keys}
use Rattle.language.specs.declared.tree.Shape.TheVariants.{Array}
use Rattle.language.specs.Core.{Owned}
use Rattle.language.specs.Members.{◌∈◌, first}
use Rattle.language.proofs.Members.{split_in, to_left, to_right, either}
use Rattle.assign_check.specs.Outline.{Kind, named, written, read, Use, result, given, Declared, Outline, nothing, followed, Step, declares, uses, splits, repeats, encloses}
use Rattle.assign_check.specs.Faults.{uses_in, uses_at, declared_in, declared_at, variable_faults}
use Rattle.assign_check.specs.Through.{HasStep, first_step, later_step, BlockIn, the_block, in_a_step, BlockOf, in_first, in_other, in_loop, in_wait}
use Rattle.assign_check.proofs.clauses.SingleOutline.{HasUse}
use Rattle.assign_check.proofs.outlines.Scoped.{IsScoped}
use Rattle.assign_check.proofs.counting.Counts.{none_each, each_none}
use Rattle.assign_check.proofs.uses.Visible.{body_home, body_unread}
use Rattle.assign_check.specs.Breaks.{Used}
use Rattle.assign_check.proofs.faults.Variables.{fine, no_fault_of}

-- BLOCKS INSIDE A BODY

pub uses_out : {s : Step} {o : Outline} {u : Use} → HasStep s o → u ∈ uses_at s → u ∈ uses_in o
uses_out {s = s} (first_step {o = o}) i = to_left (uses_at s) (uses_in o) i
uses_out (later_step {s' = s} {o = o} h) i = to_right (uses_at s) (uses_in o) (uses_out h i)

mutual
  pub uses_up : {b o : Outline} {u : Use} → BlockIn b o → u ∈ uses_in b → u ∈ uses_in o
  uses_up the_block i = i
  uses_up (in_a_step h k) i = uses_out h (step_uses k i)

  pub step_uses : {b : Outline} {s : Step} {u : Use} → BlockOf b s → u ∈ uses_in b → u ∈ uses_at s
  step_uses (in_first {o = o} {p = p} k) i = to_left (uses_in o) (uses_in p) (uses_up k i)
  step_uses (in_other {o = o} {p = p} k) i = to_right (uses_in o) (uses_in p) (uses_up k i)
  step_uses (in_loop k) i = uses_up k i
  step_uses (in_wait k) i = uses_up k i

declared_out : {s : Step} {o : Outline} {d : Declared} → HasStep s o → d ∈ declared_at s → d ∈ declared_in o
declared_out {s = s} (first_step {o = o}) i = to_left (declared_at s) (declared_in o) i
declared_out (later_step {s' = s} {o = o} h) i = to_right (declared_at s) (declared_in o) (declared_out h i)

mutual
  declared_up : {b o : Outline} {d : Declared} → BlockIn b o → HasStep (declares d) b → d ∈ declared_in o
  declared_up the_block h = declared_out h first
  declared_up (in_a_step h k) i = declared_out h (step_declared k i)

  step_declared : {b : Outline} {s : Step} {d : Declared} → BlockOf b s → HasStep (declares d) b → d ∈ declared_at s
  step_declared (in_first {o = o} {p = p} k) i = to_left (declared_in o) (declared_in p) (declared_up k i)
  step_declared (in_other {o = o} {p = p} k) i = to_right (declared_in o) (declared_in p) (declared_up k i)
  step_declared (in_loop k) i = declared_up k i
  step_declared (in_wait k) i = declared_up k i

-- the block that declares a variable
record Owner (o : Outline) (d : Declared) : Type 0 where
  block : Outline
  inside : BlockIn block o
  has : HasStep (declares d) block

owner_in : {b o : Outline} {d : Declared} {s : Step} → HasStep s o → BlockOf b s → HasStep (declares d) b → Owner o d
owner_in {b = b} h k i = record { block = b; inside = in_a_step h k; has = i }

owner_later : {o : Outline} {d : Declared} {s : Step} → Owner o d → Owner (followed s o) d
owner_later {o} {d} {s} w = by w.inside w.has
  where
    by : {b : Outline} → BlockIn b o → HasStep (declares d) b → Owner (followed s o) d
    by the_block i = record { block = followed s o; inside = the_block; has = later_step i }
    by (in_a_step h k) i = owner_in (later_step h) k i

mutual
  owner : (o : Outline) {d : Declared} → d ∈ declared_in o → Owner o d
  owner nothing i = elim i [ ]
  owner (followed s o) i = elim (either (declared_at s) (declared_in o) i) [
    | inl j ↦ owner_at s o j
    | inr j ↦ owner_later (owner o j)
  ]

  owner_at : (s : Step) (o : Outline) {d : Declared} → d ∈ declared_at s → Owner (followed s o) d
  owner_at (declares y) o {d} i = elim (split_in i) [
    | inl e ↦ record { block = followed (declares y) o; inside = the_block; has = subst (λ (z : Declared). HasStep (declares z) (followed (declares y) o)) (sym e) first_step }
    | inr j ↦ elim j [ ]
  ]
  owner_at (uses u) o i = elim i [ ]
  owner_at (splits n at p q) o i = elim (either (declared_in p) (declared_in q) i) [
    | inl j ↦ (let w = owner p j in owner_in first_step (in_first w.inside) w.has)
    | inr j ↦ (let w = owner q j in owner_in first_step (in_other w.inside) w.has)
  ]
  owner_at (repeats n p) o i = let w = owner p i in owner_in first_step (in_loop w.inside) w.has
  owner_at (encloses p) o i = let w = owner p i in owner_in first_step (in_wait w.inside) w.has

-- USES IN THE OWNER'S BLOCK, AND IN THE BODY

up : {k : Kind} {x : Owned} {b o : Outline} → BlockIn b o → HasUse k x b → Used k x (uses_in o)
up i h = record { use_there = h.use_there; there = uses_up i h.there; kind = h.kind; is = h.is }

home : {k : Kind} {o b : Outline} {d : Declared} → IsScoped o → BlockIn b o → HasStep (declares d) b → Used k d.what (uses_in o) → HasUse k d.what b
home s i h u = record { use_there = u.use_there; there = body_home s (λ v j l. elim j [ ]) i h u.there u.is; kind = u.kind; is = u.is }

not_read : {o b : Outline} {d : Declared} {κ : Keys} → IsScoped o → BlockIn b o → HasStep (declares d) b → HasUse read d.what b → d.shape ≡ Array κ → ⊥
not_read s i h u e = body_unread s (λ v j l. elim j [ ]) i h e u.there u.is u.kind

-- THE CLAUSES

-- what single assignment asks of the uses of a variable in the block that declares it
pub record UsedWell (d : Declared) (b : Outline) : Type 0 where
  pub assigned : (d.role ≡ given → ⊥) → HasUse read d.what b → HasUse named d.what b
  pub one_form : (d.role ≡ given → ⊥) → HasUse named d.what b → HasUse written d.what b → ⊥
  pub given_form : d.role ≡ given → HasUse written d.what b → ⊥
  pub output_assigned : d.role ≡ result → HasUse named d.what b ⊎ HasUse written d.what b

pub used_well : (o : Outline) → IsScoped o → flat_map (variable_faults (uses_in o)) (declared_in o) ≡ [] → (d : Declared) (b : Outline) → BlockIn b o → HasStep (declares d) b → UsedWell d b
used_well o s none d b i h =
    let f = fine d.role d.shape d.what d.span (uses_in o) (none_each (variable_faults (uses_in o)) (declared_in o) none d (declared_up i h)) in
    record {
      assigned = λ g r. home s i h (f.assigned g (λ κ e. not_read s i h r e) (up i r));
      one_form = λ g n w. f.one_form g (up i n) (up i w);
      given_form = λ g w. f.given_form g (up i w);
      output_assigned = λ e. elim (f.output_assigned e) [ inl u ↦ inl (home s i h u) | inr u ↦ inr (home s i h u) ];
    }

pub no_variable_fault : (o : Outline) → IsScoped o → ((d : Declared) (b : Outline) → BlockIn b o → HasStep (declares d) b → UsedWell d b)
    → flat_map (variable_faults (uses_in o)) (declared_in o) ≡ []
no_variable_fault o s well = each_none (variable_faults (uses_in o)) (declared_in o) (λ d i.
    let w = owner o i in
    let g = well d w.block w.inside w.has in
    no_fault_of d.role d.shape d.what d.span (uses_in o) (record {
      assigned = λ r n u. up w.inside (g.assigned r (home s w.inside w.has u));
      one_form = λ r n u. g.one_form r (home s w.inside w.has n) (home s w.inside w.has u);
      given_form = λ e u. g.given_form e (home s w.inside w.has u);
      output_assigned = λ e. elim (g.output_assigned e) [ inl u ↦ inl (up w.inside u) | inr u ↦ inr (up w.inside u) ];
    }))
