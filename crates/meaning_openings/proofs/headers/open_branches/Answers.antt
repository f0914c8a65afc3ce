use Rattle.std.proofs.Common.{rules, ◌≡◌, None, Some, subst}
use Rattle.std.proofs.lemmas.Result.{on_ok_weaker, IfErr-weaker}
use Rattle.flow.specs.View.{action_view}
use Rattle.language.specs.Core as core
use Rattle.language.specs.Core.{stmt}
use Rattle.language.specs.Members.{◌∈◌}
use Rattle.meaning_cells.specs.Chosen.{choice_view, chosen_in}
use Rattle.meaning_facts.specs.Sighted.{sight_of}
use Rattle.meaning_invariants.specs.Active.{active}
use Rattle.meaning_round.specs.Made.{tasks_of}
use Rattle.meaning_round.specs.Standing.{active_of}
use Rattle.meaning_openings.proofs.Choosing.{header_opened_by, no_choice_by}
use Rattle.meaning_openings.proofs.Larger.{memory_is_small}
use Rattle.meaning_openings.proofs.Moving.{kept_waiting, stay_more}
use Rattle.meaning_openings.proofs.headers.open_branches.Goals as goal

pub returns-in-Some-clause-so : goal.returns-in-Some-clause-so
returns-in-Some-clause-so g c =
    let A = g.row.A.Denot in
    let old = c.args.state.now in
    let site = c.args.task.site in
    let x = action_view {A = A} c.args.action.now in
    let chosen : chosen_in (sight_of c.args.state.now.fact_base c.args.task.site.instance) (action_view {A = g.row.A.Denot} c.args.action.now) ≡ Some (choice_view c.in-Some.choice) = search rules in
    on_ok_weaker c.open_choice.result (λ h s n w offsets good there e header.
    header_opened_by {A = A} s n old c.open_choice.new.state (active_of {A = A} c.args.task) x (choice_view c.in-Some.choice) good there e header chosen
    (h s n w offsets good site.node (subst (λ (z : core.Action). active site.instance (stmt site.at site.node z) ∈ tasks_of {A = A} old) e there) chosen)
    c.open_choice.ensures.waiting) c.open_choice.ensures.so

pub returns-in-Some-clause-large : goal.returns-in-Some-clause-large
returns-in-Some-clause-large g c =
    let A = g.row.A.Denot in
    let site = c.args.task.site in
    let chosen : chosen_in (sight_of c.args.state.now.fact_base c.args.task.site.instance) (action_view {A = g.row.A.Denot} c.args.action.now) ≡ Some (choice_view c.in-Some.choice) = search rules in
    IfErr-weaker c.open_choice.result _ _ (λ fault h e s n w offsets good there same header.
    h e s n w offsets good site.node (subst (λ (z : core.Action). active site.instance (stmt site.at site.node z) ∈ tasks_of {A = A} c.args.state.now) same there) chosen) c.open_choice.ensures.large

pub returns-in_err-choice-clause-large : goal.returns-in_err-choice-clause-large
returns-in_err-choice-clause-large g c = memory_is_small _ c.from_residual.result c.from_residual.ensures.1

pub returns-in_err-keep_waiting-in-None-clause-large : goal.returns-in_err-keep_waiting-in-None-clause-large
returns-in_err-keep_waiting-in-None-clause-large g c = memory_is_small _ c.from_residual-in_err-keep_waiting-in-None.result c.from_residual-in_err-keep_waiting-in-None.ensures.1

pub returns-in_ok-keep_waiting-in-None-clause-so : goal.returns-in_ok-keep_waiting-in-None-clause-so
returns-in_ok-keep_waiting-in-None-clause-so g c =
    let A = g.row.A.Denot in
    let old = c.args.state.now in
    let a = active_of {A = A} c.args.task in
    let lacks : chosen_in (sight_of c.args.state.now.fact_base c.args.task.site.instance) (action_view {A = g.row.A.Denot} c.args.action.now) ≡ None = search rules in
    λ s n w offsets good there e header.
    kept_waiting {A = A} s n old c.keep_waiting.new.state a c.keep_waiting.ensures.fact_base c.keep_waiting.ensures.tasks c.keep_waiting.ensures.arrays c.in_ok-keep_waiting-in-None.ensures.waiting good
    (no_choice_by old.fact_base a (action_view {A = A} c.args.action.now) e header lacks)

pub returns-in_ok-keep_waiting-in-None-clause-more : goal.returns-in_ok-keep_waiting-in-None-clause-more
returns-in_ok-keep_waiting-in-None-clause-more g c =
    stay_more {A = g.row.A.Denot} c.args.state.now c.keep_waiting.new.state c.keep_waiting.ensures.fact_base c.keep_waiting.ensures.tasks c.keep_waiting.ensures.worklist
