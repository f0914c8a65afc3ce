-- What a header opens by its choice; and what stands inside of a statement.
use Rattle.std.specs.Prelude.{◌≡◌, ◌<◌, ℕ, List, length, Some, None, refl}
use Rattle.std.proofs.Common.{sym, ap, ◌∙◌, subst}
use Rattle.values.specs.declared.key.Key.{Key}
use Rattle.language.specs.Core as core
use Rattle.language.specs.Core.{Core, Action, Awaited, wait}
use Rattle.language.specs.Meaning.{Known, Ready}
use Rattle.language.specs.Members.{◌∈◌}
use Rattle.language.specs.Openings.{Branches}
use Rattle.language.specs.Parts.{stmt_action, stmt_at}
use Rattle.language.specs.Places.{Path, max_path_steps}
use Rattle.meaning_facts.specs.declared.fact_base.FactBase.{FactBase}
use Rattle.meaning_cells.specs.Chosen.{Chosen, chosen_in, count_in}
use Rattle.meaning_facts.specs.Paths.{path_of}
use Rattle.meaning_facts.specs.Sighted.{sight_of}
use Rattle.meaning_invariants.specs.Active.{Active, HasBlock}
use Rattle.meaning_invariants.specs.Opened.{nothing, branches, IsUnready}
use Rattle.meaning_invariants.proofs.Right.{sees_choices}
use Rattle.meaning_round.specs.declared.state.RoundState.{RoundState}
use Rattle.meaning_round.specs.Made.{arrays_of, tasks_of, waiting_of}
use Rattle.meaning_openings.specs.Insides.{inside, no_block, choices, awaited}
use Rattle.meaning_openings.specs.Opening.{AreTurned, IsGood, IsLookedAt, is_opened, IsStep}
use Rattle.meaning_openings.proofs.Entering.{no_step}

-- the blocks of all turns are live
pub header_opened : {A : Type 0} (s : Core) (n : ℕ) (old new : RoundState A) (a : Active) (c : Chosen) → IsGood s n old → a ∈ tasks_of old → Branches (stmt_action a.statement)
    → chosen_in (sight_of old.fact_base a.instance) (stmt_action a.statement) ≡ Some c → AreTurned s n old new a.instance (stmt_at a.statement) (stmt_action a.statement) c (count_in c)
    → waiting_of new ≡ waiting_of old → IsStep s n old new × IsLookedAt s n old a new
header_opened {A} s n old new a c good there header chosen turned waiting =
    let h = good.live a there in
    let choice = (sees_choices s (Known s n) 0 old.fact_base (tasks_of old) (arrays_of old) good).choice a.instance (stmt_action a.statement) c h.within chosen in
    let same : path_of new.fact_base.instances.all.items a.instance ≡ path_of old.fact_base.instances.all.items a.instance = turned.step.goes.path_same a.instance h.within in (
      turned.step,
      is_opened
          (branches (subst (λ (p : Path). Ready s (Known s n) p (stmt_action a.statement) choice.values) (sym same) choice.ready) header
          (λ k b o short. (
          let at = choice.opens.all k b o in
          subst (λ (z : Key). HasBlock new.fact_base (tasks_of new) a.instance (stmt_at a.statement) z b) at.key_is
          (turned.blocks at.index b at.below at.block_is (subst (λ (p : Path). length p < max_path_steps) same short))
          ))) waiting,
    )

-- where the header is known by another name
pub header_opened_by : {A : Type 0} (s : Core) (n : ℕ) (old new : RoundState A) (a : Active) (x : Action) (c : Chosen) → IsGood s n old → a ∈ tasks_of old → stmt_action a.statement ≡ x → Branches x
    → chosen_in (sight_of old.fact_base a.instance) x ≡ Some c → AreTurned s n old new a.instance (stmt_at a.statement) x c (count_in c)
    → waiting_of new ≡ waiting_of old → IsStep s n old new × IsLookedAt s n old a new
header_opened_by {A} s n old new a x c good there e header chosen turned waiting =
    header_opened s n old new a c good there (subst Branches (sym e) header) (subst (λ (z : Action). chosen_in (sight_of old.fact_base a.instance) z ≡ Some c) (sym e) chosen)
    (subst (λ (z : Action). AreTurned s n old new a.instance (stmt_at a.statement) z c (count_in c)) (sym e) turned) waiting

no_wait : (ns : List Awaited) (b : core.Block) → Branches (wait ns b) → ⊥
no_wait ns b h = h

-- the choice is not known
pub no_choice : (l : FactBase) (a : Active) → Branches (stmt_action a.statement) → chosen_in (sight_of l a.instance) (stmt_action a.statement) ≡ None → IsUnready l a
no_choice l a header lacks = record { choice = lacks; names = λ ns b e. absurd (no_wait ns b (subst Branches e header)) }

pub no_choice_by : (l : FactBase) (a : Active) (x : Action) → stmt_action a.statement ≡ x → Branches x → chosen_in (sight_of l a.instance) x ≡ None → IsUnready l a
no_choice_by l a x e header lacks = no_choice l a (subst Branches (sym e) header) (subst (λ (z : Action). chosen_in (sight_of l a.instance) z ≡ None) (sym e) lacks)

-- WHAT STANDS INSIDE

not_choices : (x : Action) → no_block ≡ inside x → Branches x → ⊥
not_choices (core.declare v) e h = h
not_choices (core.call_alone p ps c) e h = h
not_choices (core.assign y d) e h = h
not_choices (core.fill y d) e h = h
not_choices (core.insert y k d) e h = h
not_choices (core.print p d) e h = h
not_choices (core.assert p d) e h = h
not_choices (core.when c d) e h = absurd (cc (e))
not_choices (core.choose c d f) e h = absurd (cc (e))
not_choices (core.range lo hi st v k d) e h = absurd (cc (e))
not_choices (core.each y v k d) e h = absurd (cc (e))
not_choices (core.wait ns d) e h = h

not_awaited : (x : Action) → no_block ≡ inside x → (ns : List Awaited) (b : core.Block) → x ≡ wait ns b → ⊥
not_awaited x e ns b h = let z : no_block ≡ awaited ns b = e ∙ ap inside h in absurd (cc (z))

-- a statement that opens nothing
pub nothing_opened : {A : Type 0} (s : Core) (n : ℕ) (old : RoundState A) (a : Active) → IsGood s n old → no_block ≡ inside (stmt_action a.statement) → IsStep s n old old × IsLookedAt s n old a old
nothing_opened {A} s n old a good e = (no_step s n old good, is_opened (nothing (not_choices (stmt_action a.statement) e) (λ ns b h. not_awaited (stmt_action a.statement) e ns b h)) refl)

pub choices_same : (x y : Action) → choices y ≡ inside x → x ≡ y
choices_same (core.declare v) y e = absurd (cc (e))
choices_same (core.call_alone p ps c) y e = absurd (cc (e))
choices_same (core.assign z d) y e = absurd (cc (e))
choices_same (core.fill z d) y e = absurd (cc (e))
choices_same (core.insert z k d) y e = absurd (cc (e))
choices_same (core.print p d) y e = absurd (cc (e))
choices_same (core.assert p d) y e = absurd (cc (e))
choices_same (core.when c d) y e = cc (e)
choices_same (core.choose c d f) y e = cc (e)
choices_same (core.range lo hi st v k d) y e = cc (e)
choices_same (core.each z v k d) y e = cc (e)
choices_same (core.wait ns d) y e = absurd (cc (e))

are_choices : (x y : Action) → choices y ≡ inside x → Branches x
are_choices (core.declare v) y e = absurd (cc (e))
are_choices (core.call_alone p ps c) y e = absurd (cc (e))
are_choices (core.assign z d) y e = absurd (cc (e))
are_choices (core.fill z d) y e = absurd (cc (e))
are_choices (core.insert z k d) y e = absurd (cc (e))
are_choices (core.print p d) y e = absurd (cc (e))
are_choices (core.assert p d) y e = absurd (cc (e))
are_choices (core.when c d) y e = tt
are_choices (core.choose c d f) y e = tt
are_choices (core.range lo hi st v k d) y e = tt
are_choices (core.each z v k d) y e = tt
are_choices (core.wait ns d) y e = absurd (cc (e))

pub choices_branch : (x y : Action) → choices y ≡ inside x → Branches y
choices_branch x y e = subst Branches (choices_same x y e) (are_choices x y e)

pub awaited_same : (x : Action) (ns : List Awaited) (b : core.Block) → awaited ns b ≡ inside x → x ≡ wait ns b
awaited_same (core.declare v) ns b e = absurd (cc (e))
awaited_same (core.call_alone p ps c) ns b e = absurd (cc (e))
awaited_same (core.assign y d) ns b e = absurd (cc (e))
awaited_same (core.fill y d) ns b e = absurd (cc (e))
awaited_same (core.insert y k d) ns b e = absurd (cc (e))
awaited_same (core.print p d) ns b e = absurd (cc (e))
awaited_same (core.assert p d) ns b e = absurd (cc (e))
awaited_same (core.when c d) ns b e = absurd (cc (e))
awaited_same (core.choose c d f) ns b e = absurd (cc (e))
awaited_same (core.range lo hi st v k d) ns b e = absurd (cc (e))
awaited_same (core.each y v k d) ns b e = absurd (cc (e))
awaited_same (core.wait ms d) ns b e = cc (e)
