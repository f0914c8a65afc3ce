use Rattle.std.proofs.Common.{◌≡◌, ◌∙◌, sym, length}
use Rattle.swt_trace.proofs.Refusals.{for_memory, none_left, refused_by}
use Rattle.swt_trace.proofs.Replays.{told_events, told_run}
use Rattle.swt_trace.proofs.replay.run_behind.Goals as goal

pub returns-in_ok-stopped_run-in-Ok-clause-history : goal.returns-in_ok-stopped_run-in-Ok-clause-history
returns-in_ok-stopped_run-in-Ok-clause-history c =
    told_events c.args.events.now c.take_all.new.board c.in_ok-stopped_run-in-Ok.field-0.report c.in-Ok.ensures.history c.in_ok-stopped_run-in-Ok.ensures.tells

pub returns-in_ok-stopped_run-in-Ok-clause-reports : goal.returns-in_ok-stopped_run-in-Ok-clause-reports
returns-in_ok-stopped_run-in-Ok-clause-reports c =
    let limit : c.take_all.new.board.limit ≡ length c.args.events.now = c.in-Ok.ensures.limit ∙ c.requires.room in
    told_run c.args.board.code (length c.args.events.now) c.take_all.new.board c.in_ok-stopped_run-in-Ok.field-0.report c.in-Ok.ensures.code limit c.in_ok-stopped_run-in-Ok.ensures.reports

pub returns-in_err-stopped_run-in-Ok-clause-bad : goal.returns-in_err-stopped_run-in-Ok-clause-bad
returns-in_err-stopped_run-in-Ok-clause-bad c = for_memory c.from_residual.result _ c.from_residual.ensures.1 (λ x f b n e. absurd (cc (sym f ∙ e)))

pub returns-in_err-stopped_run-in-Ok-clause-wrong : goal.returns-in_err-stopped_run-in-Ok-clause-wrong
returns-in_err-stopped_run-in-Ok-clause-wrong c = for_memory c.from_residual.result _ c.from_residual.ensures.1 (λ x f b n e. absurd (cc (sym f ∙ e)))

pub returns-in_err-stopped_run-in-Ok-clause-no_step : goal.returns-in_err-stopped_run-in-Ok-clause-no_step
returns-in_err-stopped_run-in-Ok-clause-no_step c = for_memory c.from_residual.result _ c.from_residual.ensures.1 (λ x f b n e. absurd (cc (sym f ∙ e)))

pub returns-in_err-stopped_run-in-Ok-clause-left : goal.returns-in_err-stopped_run-in-Ok-clause-left
returns-in_err-stopped_run-in-Ok-clause-left c = for_memory c.from_residual.result _ c.from_residual.ensures.1 (λ x f b. none_left x.board _ b)

pub returns-in-Err-clause-left : goal.returns-in-Err-clause-left
returns-in-Err-clause-left c =
    refused_by c.args.board.code c.args.keeps c.refused_at.result.event c.args.events.now c.in-Err.fault c.refused_at.result.board c.take_all.new.board c.refused_at.ensures.board c.in-Err.ensures.left

pub returns-in-Err-clause-no_step : goal.returns-in-Err-clause-no_step
returns-in-Err-clause-no_step c = λ n e. c.in-Err.ensures.no_step n (sym c.refused_at.ensures.fault ∙ e)
