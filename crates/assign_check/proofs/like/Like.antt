-- An outline and a block of the core that stand for the same statements.
use Rattle.std.specs.Prelude.{◌≡◌, ◌⊎◌, ℕ, List, [], ◌∷◌, Option, Some, None}
use Rattle.std.proofs.Common.{inl, inr}
use Rattle.lexer.specs.declared.token.Span.{Span}
use Rattle.language.specs.Core.{local, Name, Outer, Awaited, Stmt, stmt, Action, when, choose, range, each, wait, Block, no_stmts, stmts}
use Rattle.language.specs.Members.{◌∈◌, first, later}
use Rattle.language.specs.Parts.{by_name, by_element}
use Rattle.language.specs.Single.{IsSimple}
use Rattle.language.proofs.Tested.{declared_of}
use Rattle.assign_check.specs.Outline.{named, written, read, Use, Role, own, result, given, Declared, Outline, nothing, followed, Step, declares, uses, splits, repeats, encloses}
use Rattle.assign_check.specs.Through.{HasStep, first_step, later_step, BlockOf}

-- steps that stand before an outline
abbrev pub before : List Step → Outline → Outline
before [] o = o
before (s ∷ ss) o = followed s (before ss o)

-- steps without blocks, with the names that they assign, the names that they write elements of, and the variables that they declare
pub data Plain : List Step → List Name → List Name → List ℕ → Type 0 where
  no_step : Plain [] [] [] []
  own_step : {d : Declared} {v : ℕ} {ss : List Step} {ns es : List Name} {vs : List ℕ} → d.role ≡ own → d.what ≡ local v → Plain ss ns es vs
      → Plain (declares d ∷ ss) ns es (v ∷ vs)
  named_step : {u : Use} {y : Name} {ss : List Step} {ns es : List Name} {vs : List ℕ} → u.kind ≡ named → y.what ≡ u.of → Plain ss ns es vs
      → Plain (uses u ∷ ss) (y ∷ ns) es vs
  written_step : {u : Use} {y : Name} {ss : List Step} {ns es : List Name} {vs : List ℕ} → u.kind ≡ written → y.what ≡ u.of → Plain ss ns es vs
      → Plain (uses u ∷ ss) ns (y ∷ es) vs
  read_step : {u : Use} {ss : List Step} {ns es : List Name} {vs : List ℕ} → u.kind ≡ read → Plain ss ns es vs → Plain (uses u ∷ ss) ns es vs

-- a loop with its variables and its body
pub data IsLoop : Action → ℕ → Option ℕ → Block → Type 0 where
  a_range : {lo hi : Outer} {st : Option Outer} {v : ℕ} {k : Option ℕ} {d : Block} → IsLoop (range lo hi st v k d) v k d
  an_each : {a : Name} {v : ℕ} {k : Option ℕ} {d : Block} → IsLoop (each a v k d) v k d

-- the declarations of a loop's variables
pub data Turns : List Declared → ℕ → Option ℕ → Type 0 where
  value_alone : {d : Declared} {v : ℕ} → d.what ≡ local v → d.role ≡ given → Turns (d ∷ []) v None
  with_key : {d e : Declared} {v k : ℕ} → d.what ≡ local v → d.role ≡ given → e.what ≡ local k → e.role ≡ given → Turns (d ∷ e ∷ []) v (Some k)

-- an outline stands for a block, behind declarations that no statement of the block makes; what a statement reads, another relation says
mutual
  pub data Like (R : List Step → Stmt → Type 0) : List Declared → Outline → Block → Type 0 where
    like_end : Like R [] nothing no_stmts
    like_front : {d : Declared} {ds : List Declared} {o : Outline} {b : Block} → (d.role ≡ own → ⊥) → Like R ds o b → Like R (d ∷ ds) (followed (declares d) o) b
    like_simple : {at n : ℕ} {ss : List Step} {a : Action} {o : Outline} {b : Block} → IsSimple a → Plain ss (by_name a) (by_element a) (declared_of a)
        → R ss (stmt at n a) → Like R [] o b → Like R [] (before ss o) (stmts (stmt at n a) b)
    like_block : {at n : ℕ} {ss : List Step} {s : Step} {a : Action} {o : Outline} {b : Block} → Plain ss [] [] [] → R ss (stmt at n a) → StepLike R s a
        → Like R [] o b → Like R [] (before ss (followed s o)) (stmts (stmt at n a) b)

  pub data StepLike (R : List Step → Stmt → Type 0) : Step → Action → Type 0 where
    like_when : {n : ℕ} {at : Span} {c : Outer} {p : Outline} {d : Block} → Like R [] p d → StepLike R (splits n at p nothing) (when c d)
    like_choose : {n : ℕ} {at : Span} {c : Outer} {p q : Outline} {d e : Block} → Like R [] p d → Like R [] q e → StepLike R (splits n at p q) (choose c d e)
    like_loop : {n v : ℕ} {k : Option ℕ} {a : Action} {ds : List Declared} {p : Outline} {d : Block} → IsLoop a v k d → Turns ds v k → Like R ds p d
        → StepLike R (repeats n p) a
    like_wait : {ns : List Awaited} {p : Outline} {d : Block} → Like R [] p d → StepLike R (encloses p) (wait ns d)

-- STEPS

pub in_before : {s : Step} {o : Outline} (ss : List Step) → HasStep s (before ss o) → (s ∈ ss) ⊎ HasStep s o
in_before [] h = inr h
in_before (s ∷ ss) first_step = inl first
in_before (s ∷ ss) (later_step h) = elim (in_before ss h) [ inl m ↦ inl (later m) | inr k ↦ inr k ]

pub before_left : {s : Step} {ss : List Step} (o : Outline) → s ∈ ss → HasStep s (before ss o)
before_left o first = first_step
before_left o (later m) = later_step (before_left o m)

pub before_right : {s : Step} {o : Outline} (ss : List Step) → HasStep s o → HasStep s (before ss o)
before_right [] h = h
before_right (s ∷ ss) h = later_step (before_right ss h)

-- PLAIN STEPS

pub plain_has_no_block : {ss : List Step} {ns es : List Name} {vs : List ℕ} {s : Step} {o : Outline} → Plain ss ns es vs → s ∈ ss → BlockOf o s → ⊥
plain_has_no_block no_step m k = elim m [ ]
plain_has_no_block (own_step r e p) first k = elim k [ ]
plain_has_no_block (own_step r e p) (later m) k = plain_has_no_block p m k
plain_has_no_block (named_step r e p) first k = elim k [ ]
plain_has_no_block (named_step r e p) (later m) k = plain_has_no_block p m k
plain_has_no_block (written_step r e p) first k = elim k [ ]
plain_has_no_block (written_step r e p) (later m) k = plain_has_no_block p m k
plain_has_no_block (read_step r p) first k = elim k [ ]
plain_has_no_block (read_step r p) (later m) k = plain_has_no_block p m k

pub named_is_not_written : {k : _} → k ≡ named → k ≡ written → ⊥
named_is_not_written h q = cc

pub named_is_not_read : {k : _} → k ≡ named → k ≡ read → ⊥
named_is_not_read h q = cc

pub written_is_not_read : {k : _} → k ≡ written → k ≡ read → ⊥
written_is_not_read h q = cc

-- KINDS OF DECLARATIONS

pub result_is_not_own : {r : Role} → r ≡ result → r ≡ own → ⊥
result_is_not_own h q = cc

pub given_is_not_own : {r : Role} → r ≡ given → r ≡ own → ⊥
given_is_not_own h q = cc

pub result_is_not_given : {r : Role} → r ≡ result → r ≡ given → ⊥
result_is_not_given h q = cc

pub own_is_not_given : {r : Role} → r ≡ own → r ≡ given → ⊥
own_is_not_given h q = cc

pub own_is_not_result : {r : Role} → r ≡ own → r ≡ result → ⊥
own_is_not_result h q = cc
