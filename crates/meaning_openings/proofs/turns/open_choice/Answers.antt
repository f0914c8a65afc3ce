use Rattle.std.proofs.Common.{rules, arith, ◌≡◌, ◌<◌, ℕ, Some, length, subst, sym, ◌∙◌}
use Rattle.std.proofs.lemmas.Grind.{common_steps}
use Rattle.flow.specs.View.{action_view, block_view}
use Rattle.language.specs.Places.{max_path_steps}
use Rattle.meaning_cells.specs.Chosen.{block_in, choice_view, count_in}
use Rattle.meaning_facts.specs.Paths.{path_of}
use Rattle.meaning_openings.specs.Opening.{AreTurned}
use Rattle.meaning_openings.proofs.Entering.{more_joins, short_path}
use Rattle.meaning_openings.proofs.Larger.{answer_passes, memory_is_small}
use Rattle.meaning_openings.proofs.Turning.{turn_next}
use Rattle.meaning_openings.proofs.turns.open_choice.Goals as goal

pub loop-i-preserved : goal.loop-i-preserved
loop-i-preserved g c =
    let A = g.row.A.Denot in
    let old = c.args.state.now in
    let mid = c.loop-i.state in
    let new = c.open_turn.new.state in
    let x = action_view {A = A} c.args.action.now in
    let o = choice_view c.args.choice.now in
    let below : c.loop-i.i < count_in (choice_view c.args.choice.now) = grind (arith, common_steps) in
    let block : block_in (action_view {A = g.row.A.Denot} c.args.action.now) (choice_view c.args.choice.now) ≡ Some (block_view {A = g.row.A.Denot} c.in-Some.block.now) = search rules in
    let short : length (path_of c.args.state.now.fact_base.instances.all.items c.args.instance) < max_path_steps =
    short_path (length (path_of c.args.state.now.fact_base.instances.all.items c.args.instance)) (sym c.if-is_deep.false ∙ c.is_deep.ensures) in
    record {
      so = λ s n w offsets good node there chosen. turn_next {A = A} s n old mid new c.args.instance c.args.at node x o (block_view {A = A} c.in-Some.block.now) c.loop-i.i good there chosen block short
          (c.loop-i.invariant.so s n w offsets good node there chosen) (λ now here seen less. c.in_ok-open_turn.ensures.so s n w offsets now node here seen below block less);
      more = more_joins {A = A} old mid new c.loop-i.invariant.more c.in_ok-open_turn.ensures.more;
      flow = c.open_turn.ensures.flow ∙ c.loop-i.invariant.flow;
      passed = c.open_turn.ensures.passed ∙ c.loop-i.invariant.passed;
      waiting = c.open_turn.ensures.waiting ∙ c.loop-i.invariant.waiting;
    }

pub returns-clause-so : goal.returns-clause-so
returns-clause-so g c =
    let A = g.row.A.Denot in
    let last : c.loop-i.i ≡ count_in (choice_view c.args.choice.now) = grind (arith, common_steps) in
    λ s n w offsets good node there chosen. subst
    (λ (z : ℕ). AreTurned {A = A} s n c.args.state.now c.loop-i.state c.args.instance c.args.at (action_view {A = A} c.args.action.now) (choice_view c.args.choice.now) z) last
    (c.loop-i.invariant.so s n w offsets good node there chosen)

pub returns-in_err-check-clause-large : goal.returns-in_err-check-clause-large
returns-in_err-check-clause-large g c = answer_passes c.in_err-check.field-0.0 c.from_residual.result c.from_residual.ensures.1
    (λ e s n w offsets good node there chosen. c.in_err-check.ensures e s n (c.loop-i.invariant.so s n w offsets good node there chosen).step.so)

pub returns-in_err-open_turn-clause-large : goal.returns-in_err-open_turn-clause-large
returns-in_err-open_turn-clause-large g c = memory_is_small _ c.from_residual-in_err-open_turn.result c.from_residual-in_err-open_turn.ensures.1
