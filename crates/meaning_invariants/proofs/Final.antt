-- Where all was passed and what waits is not ready, all that is ready is open.
use Rattle.std.specs.Prelude.{◌≡◌, ℕ, ◌<◌, true, false, List, length, Option, Some, None, refl}
use Rattle.std.proofs.Common.{inl, inr, sym, ap, ◌∙◌, subst}
use Rattle.values.specs.declared.key.Key.{Key}
use Rattle.values.specs.declared.value.Scalar.{Scalar}
use Rattle.values.specs.declared.value.Value.{Value}
use Rattle.language.specs.Core.{Action, Awaited, Block, Call, Core, Stmt, stmt, wait}
use Rattle.language.specs.Facts.{Knowledge}
use Rattle.language.specs.Members.{◌∈◌}
use Rattle.language.specs.Meaning.{LiveStmt, in_block, Ready}
use Rattle.language.specs.Openings.{Branches, InTurn, Opens, then_alone, then_first, else_second, turn, item}
use Rattle.language.specs.Parts.{block_list, call_at, stmt_calls}
use Rattle.language.specs.Places.{Path, max_path_steps}
use Rattle.language.specs.WellFormed.{NamesFound}
use Rattle.language_laws.proofs.Declared.{live_block, stmt_in}
use Rattle.language_laws.proofs.Hinge.{choice_stays, Later}
use Rattle.meaning_facts.specs.declared.fact_base.FactBase.{FactBase}
use Rattle.meaning_facts.specs.Paths.{path_of}
use Rattle.meaning_invariants.specs.Active.{Active, active, Candidate, HasBlock, IsAllOpen}
use Rattle.meaning_invariants.specs.Opened.{ArePassed, IsOpened, nothing, branches, content, IsSoFar, IsUnready, OffsetsApart, Origin, of_header, of_call}

pub opens_branches : {a : Action} {vs : List Value} {k : Key} {b : Block} → Opens a vs k b → Branches a
opens_branches then_alone = tt
opens_branches then_first = tt
opens_branches else_second = tt
opens_branches (turn e q l) = tt
opens_branches (item m) = tt

action_same : {at n at' n' : ℕ} {a b : Action} → stmt at n a ≡ stmt at' n' b → a ≡ b
action_same h = cc

wait_same : {ns ms : List Awaited} {b c : Block} → wait ns b ≡ wait ms c → c ≡ b
wait_same h = cc

none_some : {X Y : Type 0} {x : X} → None ≡ Some x → Y
none_some h = absurd (cc (h))

-- the call of a live statement is found at its offset
pub live_call : (s : Core) (names : NamesFound s) {K : Knowledge} {path : Path} {st : Stmt} (c : Call) → LiveStmt s K path st → c ∈ stmt_calls st → call_at s c.at ≡ Some c
live_call s names c (in_block {b = b} {st = st} l m) j = names.call_found b st c (live_block s l) m j

module _ (s : Core) (names : NamesFound s) (offsets : OffsetsApart s) (K : Knowledge) (later : Later s K K) where
  -- what a ready header's turn gives, the variables have
  from_origin : {path : Path} {at n : ℕ} {k : Key} {header : Action} {vs : List Value} {b : Block} {variable : ℕ → Option Scalar} → Origin s K path at k variable
      → LiveStmt s K path (stmt at n header) → Ready s K path header vs → Opens header vs k b → (x : ℕ) (v : Scalar) → InTurn header vs k x v → variable x ≡ Some v
  from_origin {path} {at} {n} {k} {header} {vs} (of_header {n = m} {header = other} {vs = us} live r o all so) here ready opens x v turns =
      let same : header ≡ other = action_same (offsets.headers (stmt at n header) (stmt at m other) (stmt_in s here) (stmt_in s live) (opens_branches opens) (opens_branches o) refl) in
      let moved : Ready s K path other vs = subst (λ (a : Action). Ready s K path a vs) same ready in
      let values : vs ≡ us = choice_stays s names K K later moved r in
      all x v (subst (λ (z : List Value). InTurn other z k x v) values (subst (λ (a : Action). InTurn a vs k x v) same turns))
  from_origin {path} {at} {n} {k} {header} {vs} (of_call {c = c} live m e none) here ready opens x v turns =
      let found : call_at s at ≡ Some c = ap (call_at s) (sym e) ∙ live_call s names c live m in
      none_some (sym (offsets.no_call (stmt at n header) (stmt_in s here) (opens_branches opens)) ∙ found)

  module _ (levels : ℕ) (l : FactBase) (ls : List Active) (arrays : List Candidate) (far : IsSoFar s K levels l ls arrays)
      (ws : List Active) (passed : ArePassed s K l ls ls ws) (unready : (a : Active) → a ∈ ws → IsUnready l a) where
    block_of : (i at n : ℕ) (header : Action) (vs : List Value) (k : Key) (b : Block) → IsOpened s K l ls (active i (stmt at n header)) → Ready s K (path_of l.instances.all.items i) header vs
        → Opens header vs k b → length (path_of l.instances.all.items i) < max_path_steps → HasBlock l ls i at k b
    block_of i at n header vs k b (nothing p q) r o short = absurd (p (opens_branches o))
    block_of i at n header vs k b (branches r' d f) r o short = f k b (subst (λ (z : List Value). Opens header z k b) (choice_stays s names K K later r r') o) short
    block_of i at n header vs k b (content ns c e f) r o short = let none : Branches (wait ns c) = subst Branches e (opens_branches o) in absurd none

    content_of : (i at n : ℕ) (ns : List Awaited) (b : Block) (st : Stmt) → IsOpened s K l ls (active i (stmt at n (wait ns b))) → st ∈ block_list b → active i st ∈ ls
    content_of i at n ns b st (nothing p q) m = absurd (q ns b refl)
    content_of i at n ns b st (branches r d f) m = absurd d
    content_of i at n ns b st (content ms c e f) m = f st (subst (λ (d : Block). st ∈ block_list d) (sym (wait_same e)) m)

    pub all_open : IsAllOpen s K l ls
    all_open = record {
      script = far.script;
      blocks = λ i at n header c vs k b m e r o short. elim (passed.opened (active i (stmt at n header)) m) [
        | inl x ↦ block_of i at n header vs k b x r o short
        | inr w ↦ none_some (sym (unready (active i (stmt at n header)) w).choice ∙ e)
      ];
      turns = λ i at n x j header c vs k b v m e r o t found.
          from_origin (far.origins i at k j found) (far.live (active i (stmt at n header)) m).so r o x v t;
      waits = λ i at n ns b st m e j. elim (passed.opened (active i (stmt at n (wait ns b))) m) [
        | inl x ↦ content_of i at n ns b st x j
        | inr w ↦ (let z : false ≡ true = sym ((unready (active i (stmt at n (wait ns b))) w).names ns b refl) ∙ e in absurd (cc (z)))
      ];
      calls = λ i st c f m j e short. passed.called (active i st) m c f j e short;
    }
