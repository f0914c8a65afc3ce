use Rattle.std.proofs.Common.{◌≡◌, ◌∙◌, refl, sym, ap, subst, Option, Some}
use Rattle.std.specs.Prelude.{IfSome}
use Rattle.board.specs.Board.{Seen}
use Rattle.task_code.specs.declared.event.Event.{Event}
use Rattle.swt_trace.specs.Refused.{IsRefusedBy}
use Rattle.swt_status.specs.declared.failure.CommandFailure.{CommandFailure}
use Rattle.swt_status.specs.Traces.{StopsAtTrace, replay_failure}
use Rattle.swt_status.proofs.Traced.{stops_at}
use Rattle.swt_status.proofs.trace.run_of_trace.Goals as goal

pub returns-in-Err : goal.returns-in-Err
returns-in-Err c =
    let code = c.args.code.now in let bytes = c.args.trace.now in let x = c.in-Err.refused in let parts = c.into_parts-fault in
    let trouble : c.failure_of.result ≡ replay_failure x.fault = c.failure_of.ensures ∙ ap replay_failure parts.ensures.fault in (
      refl,
      subst (λ (t : CommandFailure). StopsAtTrace (Some bytes) code t) (sym trouble) (stops_at bytes code x.fault c.in-Err.ensures.bad c.in-Err.ensures.no_step c.in-Err.ensures.wrong),
      subst (λ (o : Option Seen). IfSome o (λ b. IsRefusedBy code bytes c.args.keeps parts.result.2 b)) (sym parts.ensures.board)
          (subst (λ (e : Option Event). IfSome x.board (λ b. IsRefusedBy code bytes c.args.keeps e b)) (sym parts.ensures.event) c.in-Err.ensures.left),
    )
