-- The blocks of the turns of a choice, one after another.
use Rattle.std.specs.Prelude.{◌≡◌, ◌⊎◌, ℕ, zero, suc, ◌+◌, ◌<◌, length, true, nat_le, Some, None}
use Rattle.std.proofs.Common.{inl, inr, sym, ap, ◌∙◌, subst, arith}
use Rattle.std.proofs.lemmas.Option.{same_Some}
use Rattle.language.specs.Core as core
use Rattle.language.specs.Core.{Core, Action, stmt}
use Rattle.language.specs.Members.{◌∈◌}
use Rattle.language.specs.Places.{Path, max_path_steps}
use Rattle.meaning_steps.specs.Environment.{Sight}
use Rattle.meaning_cells.specs.Chosen.{Chosen, block_in, chosen_in, key_in}
use Rattle.meaning_facts.specs.Paths.{path_of}
use Rattle.meaning_facts.specs.Sighted.{sight_of}
use Rattle.meaning_invariants.specs.Active.{active, HasBlock}
use Rattle.meaning_invariants.proofs.Going.{block_stays}
use Rattle.meaning_round.specs.declared.state.RoundState.{RoundState}
use Rattle.meaning_round.specs.Made.{tasks_of}
use Rattle.meaning_openings.specs.Opening.{AreTurned, IsGood, IsStep}
use Rattle.meaning_openings.proofs.Entering.{no_step, not_short, step_joins}

below_more : (j k : ℕ) → j < k + 1 → (j < k) ⊎ (j ≡ k)
below_more j zero l = inr (omega (arith, l))
below_more zero (suc k) l = inl (omega arith)
below_more (suc j) (suc k) l = elim (below_more j k (omega (arith, l))) [ inl h ↦ inl (omega (arith, h)) | inr e ↦ inr (ap suc e) ]

none_some : {X Y : Type 0} {x : X} → None ≡ Some x → Y
none_some h = absurd (cc (h))

-- no turn yet
pub no_turns : {A : Type 0} (s : Core) (n : ℕ) (old : RoundState A) (i at : ℕ) (header : Action) (c : Chosen) → IsGood s n old → AreTurned s n old old i at header c 0
no_turns {A} s n old i at header c good = record { step = no_step s n old good; blocks = λ j b l e short. absurd (omega (arith, l)) }

-- the path is full
pub deep_turns : {A : Type 0} (s : Core) (n : ℕ) (old : RoundState A) (i at : ℕ) (header : Action) (c : Chosen) (turns : ℕ) → IsGood s n old
    → true ≡ nat_le max_path_steps (length (path_of old.fact_base.instances.all.items i)) → AreTurned s n old old i at header c turns
deep_turns {A} s n old i at header c turns good deep = record { step = no_step s n old good; blocks = λ j b l e short. not_short (length (path_of old.fact_base.instances.all.items i)) deep short }

-- no block
pub no_turn_block : {A : Type 0} (s : Core) (n : ℕ) (old : RoundState A) (i at : ℕ) (header : Action) (c : Chosen) (turns : ℕ) → IsGood s n old → block_in header c ≡ None → AreTurned s n old old i at header c turns
no_turn_block {A} s n old i at header c turns good none = record { step = no_step s n old good; blocks = λ j b l e short. none_some (sym none ∙ e) }

-- one turn more
pub turn_next : {A : Type 0} (s : Core) (n : ℕ) (old mid new : RoundState A) (i at node : ℕ) (header : Action) (c : Chosen) (b : core.Block) (k : ℕ) → IsGood s n old
    → active i (stmt at node header) ∈ tasks_of old → chosen_in (sight_of old.fact_base i) header ≡ Some c → block_in header c ≡ Some b
    → length (path_of old.fact_base.instances.all.items i) < max_path_steps → AreTurned s n old mid i at header c k
    → (IsGood s n mid → active i (stmt at node header) ∈ tasks_of mid → chosen_in (sight_of mid.fact_base i) header ≡ Some c
    → length (path_of mid.fact_base.instances.all.items i) < max_path_steps → IsStep s n mid new × HasBlock new.fact_base (tasks_of new) i at (key_in c k) b)
    → AreTurned s n old new i at header c (k + 1)
turn_next {A} s n old mid new i at node header c b k good there chosen block short t opens =
    let within = (good.live (active i (stmt at node header)) there).within in
    let now = opens t.step.so (t.step.goes.listed (active i (stmt at node header)) there) (ap (λ (z : Sight). chosen_in z header) (t.step.goes.sight_same i within) ∙ chosen)
    (subst (λ (p : Path). length p < max_path_steps) (sym (t.step.goes.path_same i within)) short) in
    record {
      step = step_joins s n old mid new t.step now.0;
      blocks = λ j d l e h. elim (below_more j k l) [
        | inl before ↦ block_stays mid.fact_base new.fact_base (tasks_of mid) (tasks_of new) now.0.goes (t.blocks j d before e h)
        | inr last ↦ subst (λ (z : ℕ). HasBlock new.fact_base (tasks_of new) i at (key_in c z) d) (sym last)
            (subst (λ (z : core.Block). HasBlock new.fact_base (tasks_of new) i at (key_in c k) z) (same_Some _ _ (sym block ∙ e)) now.1)
      ];
    }
