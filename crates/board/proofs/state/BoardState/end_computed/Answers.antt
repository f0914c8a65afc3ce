use Rattle.std.proofs.Common.{◌∙◌, sym}
use Rattle.board_work.specs.Assigned.{job_control, job_result}
use Rattle.board.proofs.Ends.{on_err, on_ok}
use Rattle.board.proofs.state.BoardState.end_computed.Goals as goal

pub returns-clause-ended : goal.returns-clause-ended
returns-clause-ended c =
    on_ok c.end_with_buffer.result (λ ended done job same.
    ended done (c.in_ok-effect.ensures done (c.in_ok-outcome.ensures.leaf ∙ sym (λ i. job_result (job i) (same i))) (c.in_ok-outcome.ensures.control ∙ sym (λ i. job_control (job i) (same i))))) c.end_with_buffer.ensures.ended

pub returns-clause-same : goal.returns-clause-same
returns-clause-same c =
    on_err c.end_with_buffer.result (λ stays done job same.
    stays done (c.in_ok-effect.ensures done (c.in_ok-outcome.ensures.leaf ∙ sym (λ i. job_result (job i) (same i))) (c.in_ok-outcome.ensures.control ∙ sym (λ i. job_control (job i) (same i))))) c.end_with_buffer.ensures.same
