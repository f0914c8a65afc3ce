use Rattle.std.proofs.Common.{rules, arith, add-one, ◌∙◌}
use Rattle.std.proofs.lemmas.Grind.{common_steps}
use Rattle.std.specs.Prelude.{slice_get}
use Rattle.board_runs.specs.declared.step.StepOutcome.TheVariants.{Whole}
use Rattle.board_runs.specs.Turns.{TurnsTo}
use Rattle.board_runs.proofs.Turned.{turns_more}
use Rattle.board_runs.proofs.one.run_choices.Goals as goal

pub loop-k-preserved : goal.loop-k-preserved
loop-k-preserved c =
    let t : TurnsTo Whole (slice_get c.args.choices.now c.loop-k.k) c.loop-k.board c.step_once.new.board = search rules in
    record {
      turns = rw (add-one c.loop-k.k) (turns_more _ _ _ _ _ c.loop-k.invariant.turns t);
      many = grind (arith, common_steps, t.3.1.history, t.3.2.history);
      limit = t.3.2.limit ∙ t.3.1.limit ∙ c.loop-k.invariant.limit;
    }
