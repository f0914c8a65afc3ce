use Rattle.std.proofs.Common.{ap, ◌∙◌}
use Rattle.board_work.specs.Outcome.{control_in, result_in}
use Rattle.board.proofs.Ends.{on_err, on_ok}
use Rattle.board.proofs.state.BoardState.end.Goals as goal

pub returns-clause-ended : goal.returns-clause-ended
returns-clause-ended c =
    on_ok c.end_with_buffer.result (λ ended. ended c.args.done.now (c.in_ok-effect.ensures c.args.done.now (ap result_in c.in_ok-share.ensures ∙ c.outcome.ensures.leaf) (ap control_in c.in_ok-share.ensures ∙ c.outcome.ensures.control))) c.end_with_buffer.ensures.ended

pub returns-clause-same : goal.returns-clause-same
returns-clause-same c =
    on_err c.end_with_buffer.result (λ same. same c.args.done.now (c.in_ok-effect.ensures c.args.done.now (ap result_in c.in_ok-share.ensures ∙ c.outcome.ensures.leaf) (ap control_in c.in_ok-share.ensures ∙ c.outcome.ensures.control))) c.end_with_buffer.ensures.same
