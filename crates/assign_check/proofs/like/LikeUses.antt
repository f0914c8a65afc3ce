-- What an outline assigns, writes and loops over is what the block does that it stands for.
use Rattle.std.specs.Prelude.{◌≡◌, ◌⊎◌, ℕ, List, Option, refl}
use Rattle.std.proofs.Common.{inl, inr, sym, ◌∙◌, subst}
use Rattle.language.specs.Core.{Owned, local, Name, Stmt, stmt, Action, declare, call_alone, assign, fill, insert, print, assert, when, choose, range, each, wait, Block}
use Rattle.language.specs.Members.{◌∈◌, first, later}
use Rattle.language.specs.Parts.{block_list, stmts_within, stmt_action, by_name, by_element}
use Rattle.language.specs.Single.{IsSimple, IsNamed, IsWritten, LoopBody, of_range, of_each}
use Rattle.language.proofs.Tested.{declared_of}
use Rattle.assign_check.specs.Outline.{named, written, Use, own, Declared, Outline, Step, declares, uses}
use Rattle.assign_check.specs.Through.{HasStep, Within}
use Rattle.assign_check.proofs.clauses.SingleOutline.{HasUse}
use Rattle.assign_check.proofs.like.Like.{Plain, no_step, own_step, named_step, written_step, read_step, IsLoop, a_range, an_each, Like, StepLike, named_is_not_written, named_is_not_read, written_is_not_read}
use Rattle.assign_check.proofs.like.CoreBlocks.{Below, within, stands_in, used_at, at_used}
use Rattle.assign_check.proofs.like.LikeSteps.{stands, Comes, of_front, of_plain, of_block, comes, down, up}

-- PLAIN STEPS

named_at : {u : Use} {ss : List Step} {ns es : List Name} {vs : List ℕ} → Plain ss ns es vs → uses u ∈ ss → u.kind ≡ named → (y : Name) × (y ∈ ns) × (y.what ≡ u.of)
named_at no_step m k = elim m [ ]
named_at (own_step r e p) (later m) k = named_at p m k
named_at (named_step {y = y} h w p) first k = (y, first, w)
named_at (named_step h w p) (later m) k = let r = named_at p m k in (r.0, later r.1, r.2)
named_at (written_step h w p) first k = absurd (named_is_not_written k h)
named_at (written_step h w p) (later m) k = named_at p m k
named_at (read_step h p) first k = absurd (named_is_not_read k h)
named_at (read_step h p) (later m) k = named_at p m k

at_named : {y : Name} {ss : List Step} {ns es : List Name} {vs : List ℕ} → Plain ss ns es vs → y ∈ ns → (u : Use) × (uses u ∈ ss) × (u.kind ≡ named) × (y.what ≡ u.of)
at_named no_step m = elim m [ ]
at_named (own_step r e p) m = let q = at_named p m in (q.0, later q.1, q.2, q.3)
at_named (named_step {u = u} h w p) first = (u, first, h, w)
at_named (named_step h w p) (later m) = let q = at_named p m in (q.0, later q.1, q.2, q.3)
at_named (written_step h w p) m = let q = at_named p m in (q.0, later q.1, q.2, q.3)
at_named (read_step h p) m = let q = at_named p m in (q.0, later q.1, q.2, q.3)

written_at : {u : Use} {ss : List Step} {ns es : List Name} {vs : List ℕ} → Plain ss ns es vs → uses u ∈ ss → u.kind ≡ written → (y : Name) × (y ∈ es) × (y.what ≡ u.of)
written_at no_step m k = elim m [ ]
written_at (own_step r e p) (later m) k = written_at p m k
written_at (named_step h w p) first k = absurd (named_is_not_written h k)
written_at (named_step h w p) (later m) k = written_at p m k
written_at (written_step {y = y} h w p) first k = (y, first, w)
written_at (written_step h w p) (later m) k = let r = written_at p m k in (r.0, later r.1, r.2)
written_at (read_step h p) first k = absurd (written_is_not_read k h)
written_at (read_step h p) (later m) k = written_at p m k

at_written : {y : Name} {ss : List Step} {ns es : List Name} {vs : List ℕ} → Plain ss ns es vs → y ∈ es → (u : Use) × (uses u ∈ ss) × (u.kind ≡ written) × (y.what ≡ u.of)
at_written no_step m = elim m [ ]
at_written (own_step r e p) m = let q = at_written p m in (q.0, later q.1, q.2, q.3)
at_written (named_step h w p) m = let q = at_written p m in (q.0, later q.1, q.2, q.3)
at_written (written_step {u = u} h w p) first = (u, first, h, w)
at_written (written_step h w p) (later m) = let q = at_written p m in (q.0, later q.1, q.2, q.3)
at_written (read_step h p) m = let q = at_written p m in (q.0, later q.1, q.2, q.3)

own_at : {d : Declared} {ss : List Step} {ns es : List Name} {vs : List ℕ} → Plain ss ns es vs → declares d ∈ ss → (v : ℕ) × (v ∈ vs) × (d.what ≡ local v) × (d.role ≡ own)
own_at no_step m = elim m [ ]
own_at (own_step {v = v} r e p) first = (v, first, e, r)
own_at (own_step r e p) (later m) = let q = own_at p m in (q.0, later q.1, q.2, q.3)
own_at (named_step h w p) (later m) = own_at p m
own_at (written_step h w p) (later m) = own_at p m
own_at (read_step h p) (later m) = own_at p m

at_own : {v : ℕ} {ss : List Step} {ns es : List Name} {vs : List ℕ} → Plain ss ns es vs → v ∈ vs → (d : Declared) × (declares d ∈ ss) × (d.what ≡ local v) × (d.role ≡ own)
at_own no_step m = elim m [ ]
at_own (own_step {d = d} r e p) first = (d, first, e, r)
at_own (own_step r e p) (later m) = let q = at_own p m in (q.0, later q.1, q.2, q.3)
at_own (named_step h w p) m = let q = at_own p m in (q.0, later q.1, q.2, q.3)
at_own (written_step h w p) m = let q = at_own p m in (q.0, later q.1, q.2, q.3)
at_own (read_step h p) m = let q = at_own p m in (q.0, later q.1, q.2, q.3)

-- DECLARATIONS

declares_one : (a : Action) {v : ℕ} → v ∈ declared_of a → a ≡ declare v
declares_one (declare v) first = refl
declares_one (declare v) (later m) = elim m [ ]
declares_one (call_alone p ps c) m = elim m [ ]
declares_one (assign x e) m = elim m [ ]
declares_one (fill x e) m = elim m [ ]
declares_one (insert x k e) m = elim m [ ]
declares_one (print p e) m = elim m [ ]
declares_one (assert p e) m = elim m [ ]
declares_one (when c b) m = elim m [ ]
declares_one (choose c b d) m = elim m [ ]
declares_one (range lo hi st v k b) m = elim m [ ]
declares_one (each x v k b) m = elim m [ ]
declares_one (wait ns b) m = elim m [ ]

-- a variable that a block declares, with the statement
abbrev pub OwnHere : Declared → Block → Type 0
OwnHere d b = (at : ℕ) × (m : ℕ) × (v : ℕ) × (stmt at m (declare v) ∈ block_list b) × (d.what ≡ local v) × (d.role ≡ own)

pub declared_there : {R : List Step → Stmt → Type 0} {ds : List Declared} {o : Outline} {b : Block} {d : Declared} → Like R ds o b → HasStep (declares d) o
    → ((d ∈ ds) × (d.role ≡ own → ⊥)) ⊎ OwnHere d b
declared_there l h = by (comes l h)
  where
    by : {R : List Step → Stmt → Type 0} {ds : List Declared} {b : Block} {d : Declared} → Comes R ds b (declares d) → ((d ∈ ds) × (d.role ≡ own → ⊥)) ⊎ OwnHere d b
    by (of_front m r) = inl (m, r)
    by {b = b} (of_plain {at = at} {n = n} {a = a} i p r m) = let q = own_at p m in
        inr (at, n, q.0, subst (λ (x : Action). stmt at n x ∈ block_list b) (declares_one a q.1) i, q.2, q.3)
    by (of_block i t) = elim t [ ]

pub declaration_of : {R : List Step → Stmt → Type 0} {ds : List Declared} {o : Outline} {b : Block} {at n v : ℕ} → Like R ds o b → stmt at n (declare v) ∈ block_list b
    → (d : Declared) × HasStep (declares d) o × (d.what ≡ local v) × (d.role ≡ own)
declaration_of l i = let w = stands l i in let q = at_own w.plain first in (q.0, w.there (declares q.0) q.1, q.2, q.3)

-- TARGETS

-- a statement of a block that assigns a variable by name, or writes an element of it
abbrev NamedHere : Owned → Block → Type 0
NamedHere x b = (st : Stmt) × (y : Name) × (st ∈ block_list b) × (y ∈ by_name (stmt_action st)) × (y.what ≡ x)

abbrev WrittenHere : Owned → Block → Type 0
WrittenHere x b = (st : Stmt) × (y : Name) × (st ∈ block_list b) × (y ∈ by_element (stmt_action st)) × (y.what ≡ x)

named_here : {R : List Step → Stmt → Type 0} {ds : List Declared} {b : Block} {u : Use} → Comes R ds b (uses u) → u.kind ≡ named → NamedHere u.of b
named_here (of_plain {at = at} {n = n} {a = a} i p r m) k = let q = named_at p m k in (stmt at n a, q.0, i, q.1, q.2)
named_here (of_block i t) k = elim t [ ]

written_here : {R : List Step → Stmt → Type 0} {ds : List Declared} {b : Block} {u : Use} → Comes R ds b (uses u) → u.kind ≡ written → WrittenHere u.of b
written_here (of_plain {at = at} {n = n} {a = a} i p r m) k = let q = written_at p m k in (stmt at n a, q.0, i, q.1, q.2)
written_here (of_block i t) k = elim t [ ]

pub to_named : {R : List Step → Stmt → Type 0} {ds : List Declared} {o : Outline} {b : Block} {x : Owned} → Like R ds o b → HasUse named x o → IsNamed x b
to_named {o = o} l h =
    let w = used_at o h.there in
    let p = down l w.there w.has in
    let q = named_here (comes p.like w.has) h.kind in
    record { st = q.0; target = q.1; there = within p.below q.2; assigns = q.3; is = q.4 ∙ h.is }

pub to_written : {R : List Step → Stmt → Type 0} {ds : List Declared} {o : Outline} {b : Block} {x : Owned} → Like R ds o b → HasUse written x o → IsWritten x b
to_written {o = o} l h =
    let w = used_at o h.there in
    let p = down l w.there w.has in
    let q = written_here (comes p.like w.has) h.kind in
    record { st = q.0; target = q.1; there = within p.below q.2; writes = q.3; is = q.4 ∙ h.is }

use_named : {R : List Step → Stmt → Type 0} {ds : List Declared} {o : Outline} {b : Block} {y : Name} (st : Stmt) → Like R ds o b → st ∈ block_list b → y ∈ by_name (stmt_action st)
    → (u : Use) × HasStep (uses u) o × (u.kind ≡ named) × (y.what ≡ u.of)
use_named (stmt at n a) l i m = let w = stands l i in let q = at_named w.plain m in (q.0, w.there (uses q.0) q.1, q.2, q.3)

use_written : {R : List Step → Stmt → Type 0} {ds : List Declared} {o : Outline} {b : Block} {y : Name} (st : Stmt) → Like R ds o b → st ∈ block_list b → y ∈ by_element (stmt_action st)
    → (u : Use) × HasStep (uses u) o × (u.kind ≡ written) × (y.what ≡ u.of)
use_written (stmt at n a) l i m = let w = stands l i in let q = at_written w.plain m in (q.0, w.there (uses q.0) q.1, q.2, q.3)

pub of_named : {R : List Step → Stmt → Type 0} {ds : List Declared} {o : Outline} {b : Block} {x : Owned} → Like R ds o b → IsNamed x b → HasUse named x o
of_named {b = b} l h =
    let s = stands_in b h.there in
    let p = up l s.1 in
    let q = use_named h.st p.like s.2 h.assigns in
    record { use_there = q.0; there = at_used p.inside q.1; kind = q.2; is = sym q.3 ∙ h.is }

pub of_written : {R : List Step → Stmt → Type 0} {ds : List Declared} {o : Outline} {b : Block} {x : Owned} → Like R ds o b → IsWritten x b → HasUse written x o
of_written {b = b} l h =
    let s = stands_in b h.there in
    let p = up l s.1 in
    let q = use_written h.st p.like s.2 h.writes in
    record { use_there = q.0; there = at_used p.inside q.1; kind = q.2; is = sym q.3 ∙ h.is }

-- STATEMENTS WITH BLOCKS

-- a step that is a statement with a block stands for one inside the block
pub record BlockStep (R : List Step → Stmt → Type 0) (b : Block) (s : Step) : Type 0 where
  pub at : ℕ
  pub node : ℕ
  pub action : Action
  pub there : stmt at node action ∈ stmts_within b
  pub like : StepLike R s action

-- a step with a block inside it
abbrev IsBlockStep : Step → Type 0
IsBlockStep (declares d) = ⊥
IsBlockStep (uses u) = ⊥
IsBlockStep s = Unit {0}

plain_is_no_block : {s : Step} {ss : List Step} {ns es : List Name} {vs : List ℕ} → Plain ss ns es vs → s ∈ ss → IsBlockStep s → ⊥
plain_is_no_block no_step m k = elim m [ ]
plain_is_no_block (own_step r e p) first k = k
plain_is_no_block (own_step r e p) (later m) k = plain_is_no_block p m k
plain_is_no_block (named_step h w p) first k = k
plain_is_no_block (named_step h w p) (later m) k = plain_is_no_block p m k
plain_is_no_block (written_step h w p) first k = k
plain_is_no_block (written_step h w p) (later m) k = plain_is_no_block p m k
plain_is_no_block (read_step h p) first k = k
plain_is_no_block (read_step h p) (later m) k = plain_is_no_block p m k

pub block_step : {R : List Step → Stmt → Type 0} {ds : List Declared} {o : Outline} {b : Block} {s : Step} → Like R ds o b → Within s o → IsBlockStep s → BlockStep R b s
block_step l w k = let p = down l w.there w.has in by p.below (comes p.like w.has) k
  where
    by : {R : List Step → Stmt → Type 0} {ds : List Declared} {b c : Block} {s : Step} → Below c b → Comes R ds c s → IsBlockStep s → BlockStep R b s
    by r (of_front m h) k = absurd k
    by r (of_plain i p h m) k = absurd (plain_is_no_block p m k)
    by r (of_block {at = at} {n = n} {a = a} i t) k = record { at = at; node = n; action = a; there = within r i; like = t }

-- a statement with a block has its step
pub record StepOf (R : List Step → Stmt → Type 0) (o : Outline) (a : Action) : Type 0 where
  pub step : Step
  pub there : Within step o
  pub like : StepLike R step a

pub step_of : {R : List Step → Stmt → Type 0} {ds : List Declared} {o : Outline} {b : Block} {at n : ℕ} {a : Action} → Like R ds o b → stmt at n a ∈ stmts_within b → (IsSimple a → ⊥)
    → StepOf R o a
step_of {b = b} l i h =
    let s = stands_in b i in
    let p = up l s.1 in
    elim (stands p.like s.2).rest [
      | inl k ↦ absurd (h k)
      | inr q ↦ record { step = q.0; there = record { block = p.outline; there = p.inside; has = q.1 }; like = q.2 }
    ]

-- the body of a loop
pub loop_body : {b d : Block} {at n v : ℕ} {k : Option ℕ} {a : Action} → IsLoop a v k d → stmt at n a ∈ stmts_within b → LoopBody b d
loop_body a_range i = of_range i
loop_body an_each i = of_each i
