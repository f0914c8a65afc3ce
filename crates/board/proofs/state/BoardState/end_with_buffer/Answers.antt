use Rattle.std.proofs.Common.{subst}
use Rattle.board_instances.specs.View.{job_view}
use Rattle.board.proofs.Failed.{failed_ended, not_fault, passed_ended, stays_if}
use Rattle.board.specs.Ending.{IsEffectOf}
use Rattle.board_effects.specs.declared.effect.Effect.{Effect}
use Rattle.board.proofs.state.BoardState.end_with_buffer.Goals as goal

pub returns-in-Fails-clause-ended : goal.returns-in-Fails-clause-ended
returns-in-Fails-clause-ended c done effect =
    failed_ended c.args.program.now c.args.number (job_view c.args.job) done c.args.self.now c.fail.new.self c.in-Fails.fault c.fail.ensures
    (subst (λ (e : Effect). IsEffectOf c.args.program.now c.args.self.now (job_view c.args.job) done e) c.in-Fails.is effect)

pub returns-in-Ok : goal.returns-in-Ok
returns-in-Ok c =
    record {
      ended = λ done effect. passed_ended c.args.program.now c.args.number (job_view c.args.job) done c.args.self.now c.apply_effect.new.self c.args.effect (not_fault c.args.effect c.in_default.not-Fails) c.in-Ok.ensures.passed effect;
      same = tt;
    }

pub returns-in-Err : goal.returns-in-Err
returns-in-Err c =
    record {
      ended = tt;
      same = λ done effect. stays_if c.args.program.now c.args.number (job_view c.args.job) done c.args.self.now c.apply_effect.new.self c.args.effect (not_fault c.args.effect c.in_default.not-Fails) c.in-Err.ensures.same effect;
    }
