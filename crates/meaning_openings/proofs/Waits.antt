-- The content of a `wait`: live where all that it waits for is known; else it waits.
use Rattle.std.specs.Prelude.{◌≡◌, ℕ, true, false, List, [], ◌++◌}
use Rattle.std.proofs.Common.{sym, ap, ◌∙◌, subst}
use Rattle.language.specs.Core as core
use Rattle.language.specs.Core.{Core, Action, Awaited, Stmt, stmt, wait}
use Rattle.language.specs.Facts.{Knowledge}
use Rattle.language.specs.Meaning.{Known, Live, waited, LiveStmt, in_block, Ready}
use Rattle.language.specs.Members.{◌∈◌}
use Rattle.language.specs.Parts.{block_list, stmt_action}
use Rattle.language.specs.Places.{Path}
use Rattle.meaning_facts.specs.declared.fact_base.FactBase.{FactBase}
use Rattle.meaning_cells.specs.Chosen.{chosen_in, have_come_in}
use Rattle.meaning_facts.specs.Paths.{path_of}
use Rattle.meaning_facts.specs.Sighted.{sight_of}
use Rattle.meaning_invariants.specs.Active.{Active, active, Candidate}
use Rattle.meaning_invariants.specs.Listed.{all_active, declares}
use Rattle.meaning_invariants.specs.Opened.{content, IsUnready}
use Rattle.meaning_invariants.proofs.Blocks.{block_goes_on, block_listed, so_far_listed}
use Rattle.meaning_invariants.proofs.Right.{sees_choices}
use Rattle.meaning_round.specs.declared.state.RoundState.{RoundState}
use Rattle.meaning_round.specs.Made.{arrays_of, declares_here, tasks_of, waiting_of}
use Rattle.meaning_openings.specs.Opening.{IsGood, IsLookedAt, is_opened, IsMore, IsStep}
use Rattle.meaning_openings.proofs.Entering.{here_declares}
use Rattle.meaning_openings.proofs.Moving.{step_as}

wait_live : (s : Core) (K : Knowledge) (path : Path) (st : Stmt) (ns : List Awaited) (b : core.Block) → LiveStmt s K path st → stmt_action st ≡ wait ns b → Ready s K path (wait ns b) [] → Live s K path b
wait_live s K path (stmt at n x) ns b (in_block {b = c} l m) e ready = waited l (subst (λ (z : Action). stmt at n z ∈ block_list c) e m) ready

-- the content of a `wait` became live
pub content_step : {A : Type 0} (s : Core) (n : ℕ) (old new : RoundState A) (a : Active) (ns : List Awaited) (b : core.Block) → IsGood s n old → a ∈ tasks_of old → stmt_action a.statement ≡ wait ns b
    → have_come_in (sight_of old.fact_base a.instance) ns ≡ true → new.fact_base ≡ old.fact_base → tasks_of new ≡ tasks_of old ++ all_active a.instance (block_list b)
    → arrays_of new ≡ arrays_of old ++ declares_here a.instance b (block_list b) → waiting_of new ≡ waiting_of old → IsStep s n old new × IsLookedAt s n old a new
content_step {A} s n old new a ns b good there is_wait come fact_base tasks arrays waiting =
    let h = good.live a there in
    let ready = (sees_choices s (Known s n) 0 old.fact_base (tasks_of old) (arrays_of old) good).names a.instance ns b h.within come in
    let live = wait_live s (Known s n) (path_of old.fact_base.instances.all.items a.instance) a.statement ns b h.so is_wait ready in
    let declared : arrays_of new ≡ arrays_of old ++ declares s 0 a.instance b (block_list b) = arrays ∙ ap (λ (z : List Candidate). arrays_of old ++ z) (here_declares s a.instance b (block_list b)) in
    let step = step_as s n old new old.fact_base (tasks_of old ++ all_active a.instance (block_list b)) (arrays_of old ++ declares s 0 a.instance b (block_list b)) fact_base tasks declared
    (so_far_listed s (Known s n) 0 old.fact_base (tasks_of old) (arrays_of old) good a.instance h.within b live)
    (block_goes_on s (Known s n) 0 old.fact_base (tasks_of old) (arrays_of old) good a.instance h.within b live) in (
      step,
      is_opened
          (content ns b is_wait (λ st m. subst (λ (z : List Active). active a.instance st ∈ z) (sym tasks)
          (block_listed s (Known s n) 0 old.fact_base (tasks_of old) (arrays_of old) good a.instance h.within b live st m))) waiting,
    )

pub content_more : {A : Type 0} (old new : RoundState A) (i : ℕ) (b : core.Block) → new.fact_base ≡ old.fact_base → tasks_of new ≡ tasks_of old ++ all_active i (block_list b)
    → new.worklist ≡ old.worklist → IsMore old new
content_more {A} old new i b e f g = record { more = all_active i (block_list b); tasks = f; worklist = g; facts = ap (λ (l : FactBase). l.facts) e; closed = ap (λ (l : FactBase). l.closed) e }

names_same : {ns ms : List Awaited} {b d : core.Block} → wait ns b ≡ wait ms d → ns ≡ ms
names_same h = cc

-- not all that it waits for is known
pub content_waits : (l : FactBase) (a : Active) (ns : List Awaited) (b : core.Block) → stmt_action a.statement ≡ wait ns b → have_come_in (sight_of l a.instance) ns ≡ false → IsUnready l a
content_waits l a ns b e lacks = record {
  choice = ap (λ (z : Action). chosen_in (sight_of l a.instance) z) e;
  names = λ ms d f. subst (λ (z : List Awaited). have_come_in (sight_of l a.instance) z ≡ false) (names_same (sym e ∙ f)) lacks;
}
