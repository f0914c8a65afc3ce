-- Nested blocks of an outline, and the control paths through it: an `if` takes one branch, and a loop contributes no
-- assignment. States docs/LANGUAGE.md: Single assignment.
use Rattle.std.specs.Prelude.{◌≡◌, ℕ, ◌+◌, false}
use Rattle.lexer.specs.declared.token.Span.{Span}
use Rattle.language.specs.Core.{Owned}
use Rattle.assign_check.specs.Outline.{named, Use, given, Declared, Outline, nothing, followed, Step, declares, uses, splits, repeats, encloses}
use Rattle.assign_check.specs.Faults.{is_before}

-- a step of a block, not of a block nested in it
pub data HasStep (s : Step) : Outline → Type 0 where
  first_step : {o : Outline} → HasStep s (followed s o)
  later_step : {s' : Step} {o : Outline} → HasStep s o → HasStep s (followed s' o)

-- a block is this one or nested in it
mutual
  pub data BlockIn (b : Outline) : Outline → Type 0 where
    the_block : BlockIn b b
    in_a_step : {s : Step} {o : Outline} → HasStep s o → BlockOf b s → BlockIn b o

  pub data BlockOf (b : Outline) : Step → Type 0 where
    in_first : {n : ℕ} {at : Span} {o p : Outline} → BlockIn b o → BlockOf b (splits n at o p)
    in_other : {n : ℕ} {at : Span} {o p : Outline} → BlockIn b p → BlockOf b (splits n at o p)
    in_loop : {n : ℕ} {o : Outline} → BlockIn b o → BlockOf b (repeats n o)
    in_wait : {o : Outline} → BlockIn b o → BlockOf b (encloses o)

-- a step in a block or in a nested one
pub record Within (s : Step) (o : Outline) : Type 0 where
  pub block : Outline
  pub there : BlockIn block o
  pub has : HasStep s block

-- a step in a block or in a nested one, where the variable is declared inside each loop on the way to the step
mutual
  pub data Counts (x : Owned) (s : Step) : Outline → Type 0 where
    in_this_step : {s' : Step} {o : Outline} → CountsIn x s s' → Counts x s (followed s' o)
    in_a_later_step : {s' : Step} {o : Outline} → Counts x s o → Counts x s (followed s' o)

  pub data CountsIn (x : Owned) (s : Step) : Step → Type 0 where
    the_step : CountsIn x s s
    in_the_first : {n : ℕ} {at : Span} {o p : Outline} → Counts x s o → CountsIn x s (splits n at o p)
    in_the_other : {n : ℕ} {at : Span} {o p : Outline} → Counts x s p → CountsIn x s (splits n at o p)
    in_the_body : {n : ℕ} {o : Outline} → is_before n x ≡ false → Counts x s o → CountsIn x s (repeats n o)
    in_the_block : {o : Outline} → Counts x s o → CountsIn x s (encloses o)

mutual
  -- some control path through a block assigns the variable n times
  pub data OnWay (x : Owned) : Outline → ℕ → Type 0 where
    at_end : OnWay x nothing 0
    and_then : {s : Step} {o : Outline} {m n k : ℕ} → OnStep x s m → OnWay x o n → k ≡ m + n → OnWay x (followed s o) k

  pub data OnStep (x : Owned) : Step → ℕ → Type 0 where
    a_declaration : {d : Declared} → OnStep x (declares d) 0
    a_target : {u : Use} → u.kind ≡ named → u.of ≡ x → OnStep x (uses u) 1
    of_another : {u : Use} → (u.of ≡ x → ⊥) → OnStep x (uses u) 0
    no_name : {u : Use} → (u.kind ≡ named → ⊥) → OnStep x (uses u) 0
    first_branch : {n m : ℕ} {at : Span} {o p : Outline} → OnWay x o m → OnStep x (splits n at o p) m
    other_branch : {n m : ℕ} {at : Span} {o p : Outline} → OnWay x p m → OnStep x (splits n at o p) m
    a_loop : {n : ℕ} {o : Outline} → OnStep x (repeats n o) 0
    a_wait : {m : ℕ} {o : Outline} → OnWay x o m → OnStep x (encloses o) m

mutual
  -- some control path from the beginning of a block to a use assigns the variable n times before it; the variable is
  -- declared inside each loop on the way, and a declaration at which it counts as assigned is an assignment
  pub data Reaches (x : Owned) (u : Use) : Outline → ℕ → Type 0 where
    at_a_step : {s : Step} {o : Outline} {n : ℕ} → ReachesIn x u s n → Reaches x u (followed s o) n
    behind_a_step : {s : Step} {o : Outline} {m n k : ℕ} → OnStep x s m → Reaches x u o n → k ≡ m + n → Reaches x u (followed s o) k
    behind_its_own : {d : Declared} {o : Outline} {n k : ℕ} → d.role ≡ given → d.what ≡ x → Reaches x u o n → k ≡ 1 + n → Reaches x u (followed (declares d) o) k

  pub data ReachesIn (x : Owned) (u : Use) : Step → ℕ → Type 0 where
    the_use : ReachesIn x u (uses u) 0
    in_its_first : {n m : ℕ} {at : Span} {o p : Outline} → Reaches x u o m → ReachesIn x u (splits n at o p) m
    in_its_other : {n m : ℕ} {at : Span} {o p : Outline} → Reaches x u p m → ReachesIn x u (splits n at o p) m
    in_its_body : {n m : ℕ} {o : Outline} → is_before n x ≡ false → Reaches x u o m → ReachesIn x u (repeats n o) m
    in_its_block : {m : ℕ} {o : Outline} → Reaches x u o m → ReachesIn x u (encloses o) m
