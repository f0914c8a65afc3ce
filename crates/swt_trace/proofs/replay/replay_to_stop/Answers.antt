use Rattle.std.proofs.Common.{rules, arith, ◌≡◌, ◌∙◌, ap, sym, subst, refl, Some, ℕ, List, length}
use Rattle.task_code.specs.Code.{Code}
use Rattle.task_code.specs.declared.event.Event.{Event}
use Rattle.board.specs.Board.{Seen}
use Rattle.board_runs.specs.Report.{Reports}
use Rattle.swt_trace.specs.declared.fault.ReplayFault.TheVariants.{Memory, NotARun}
use Rattle.board_runs.specs.Stopped.{IsStopped}
use Rattle.board_runs.specs.declared.stopped.StoppedRun.{StoppedRun}
use Rattle.swt_trace.specs.Refused.{IsRefusedBy}
use Rattle.swt_trace.specs.Replay.{IsFirstNoStep, ReplaysTo}
use Rattle.swt_trace.specs.Report.{ending_of}
use Rattle.swt_trace.specs.Trace.{IsTrace}
use Rattle.swt_trace.proofs.Again.{its_trace, not_refused, not_wrong, read_refused, same_again}
use Rattle.swt_trace.proofs.Faults.{end_alone, end_no_step, no_other, of_fault}
use Rattle.swt_trace.proofs.Refusals.{left_of_trace, other_end}
use Rattle.swt_trace.proofs.Replays.{replayed, wrong_end}
use Rattle.swt_trace.proofs.replay.replay_to_stop.Goals as goal
use Rattle.std.specs.Prelude.{IfSome}
use Rattle.std.proofs.lemmas.Result.{IfOk-weaker}

pub run_behind-requires-clause-trace : goal.run_behind-requires-clause-trace
run_behind-requires-clause-trace c =
    (c.args.trace.now, c.in_ok-told.told.ending, subst (λ (es : List Event). IsTrace c.args.trace.now es c.in_ok-told.told.ending) (sym c.as_slice.ensures.value) c.in_ok-told.ensures.ok)

-- where reading is refused

pub returns-in_err-told-clause-only_memory : goal.returns-in_err-told-clause-only_memory
returns-in_err-told-clause-only_memory c = λ r t.
    let refused = read_refused c.args.code.now c.args.trace.now r t c.in_err-told.field-0.0 c.in_err-told.ensures.bad in
    search (rules, refused)

-- where an event is

pub returns-in_err-run-clause-no_step : goal.returns-in_err-run-clause-no_step
returns-in_err-run-clause-no_step c =
    let code = ap (λ (b : Seen). b.code) c.in_ok-board.ensures ∙ c.in_ok-program.ensures ∙ c.in_ok-copy.ensures in
    let trace = subst (λ (es : List Event). IsTrace c.args.trace.now es c.in_ok-told.told.ending) (sym c.as_slice.ensures.value) c.in_ok-told.ensures.ok in
    let step : (n : ℕ) → c.in_err-run.field-0.0.fault ≡ NotARun n → IsFirstNoStep c.args.code.now c.args.trace.now n =
    λ n e. subst (λ (C : Code). IsFirstNoStep C c.args.trace.now n) code (c.in_err-run.ensures.no_step n e c.args.trace.now c.in_ok-told.told.ending trace) in
    search (rules, step)

pub returns-in_err-run-clause-only_memory : goal.returns-in_err-run-clause-only_memory
returns-in_err-run-clause-only_memory c = λ r t.
    let code = ap (λ (b : Seen). b.code) c.in_ok-board.ensures ∙ c.in_ok-program.ensures ∙ c.in_ok-copy.ensures in
    let trace = subst (λ (es : List Event). IsTrace c.args.trace.now es c.in_ok-told.told.ending) (sym c.as_slice.ensures.value) c.in_ok-told.ensures.ok in
    let refused : c.in_err-run.field-0.0.fault ≡ Memory =
    no_other c.in_err-run.field-0.0.fault c.in_err-run.ensures.bad
    (λ n e. not_refused c.args.code.now c.entry_count-whole.ensures.whole c.args.trace.now t.limit r (Some (ending_of r.end)) (its_trace c.args.code.now c.args.trace.now r t) t.reports n
    (subst (λ (C : Code). IsFirstNoStep C c.args.trace.now n) code (c.in_err-run.ensures.no_step n e c.args.trace.now c.in_ok-told.told.ending trace)))
    c.in_err-run.ensures.wrong in
    search (rules, refused)

pub returns-in_err-run-clause-left : goal.returns-in_err-run-clause-left
returns-in_err-run-clause-left c =
    let code = ap (λ (b : Seen). b.code) c.in_ok-board.ensures ∙ c.in_ok-program.ensures ∙ c.in_ok-copy.ensures in
    let trace = subst (λ (es : List Event). IsTrace c.args.trace.now es c.in_ok-told.told.ending) (sym c.as_slice.ensures.value) c.in_ok-told.ensures.ok in
    let refused = c.in_err-run.field-0.0 in
    let left : IfSome refused.board (λ b. IsRefusedBy c.args.code.now c.args.trace.now c.args.keeps refused.event b) =
    left_of_trace c.args.code.now c.in_ok-board.board.code c.args.trace.now c.args.keeps refused.event c.as_slice.result.now c.in_ok-told.told.ending refused.board code c.in_err-run.ensures.left trace in
    search (rules, left)

-- where there is a report of the events of the trace

pub returns-clause-report : goal.returns-clause-report
returns-clause-report c =
    let code = ap (λ (b : Seen). b.code) c.in_ok-board.ensures ∙ c.in_ok-program.ensures ∙ c.in_ok-copy.ensures in
    let told = c.in_ok-told.told in
    let r = c.in_ok-run.run'.report in
    let reports : Reports c.args.code.now (length told.events.items) r =
    subst (λ (es : List Event). Reports c.args.code.now (length es) r) c.as_slice.ensures.value (subst (λ (C : Code). Reports C (length c.as_slice.result.now) r) code c.in_ok-run.ensures.reports) in
    IfOk-weaker c.ended_as.result _ (λ (s : StoppedRun). ReplaysTo c.args.code.now c.args.trace.now s.report)
    (λ s h. replayed c.args.code.now c.args.trace.now told.events.items told.ending r s.report c.in_ok-told.ensures.ok (c.in_ok-run.ensures.history ∙ c.as_slice.ensures.value) reports
    (ap (λ (x : StoppedRun). x.report) h.0) h.1) c.ended_as.ensures.ok

pub returns-clause-kept : goal.returns-clause-kept
returns-clause-kept c =
    IfOk-weaker c.ended_as.result _ (λ (s : StoppedRun). IsStopped c.args.keeps s) (λ s h. subst (λ (x : StoppedRun). IsStopped c.args.keeps x) (sym h.0) c.in_ok-run.ensures.kept) c.ended_as.ensures.ok

pub returns-clause-bad : goal.returns-clause-bad
returns-clause-bad c = of_fault c.ended_as.result _ _ _ (λ f h k n e. absurd (end_alone f.fault _ n h.0 e)) c.ended_as.ensures.err c.ended_as.ensures.err

pub returns-clause-no_step : goal.returns-clause-no_step
returns-clause-no_step c = of_fault c.ended_as.result _ _ _ (λ f h k n e. absurd (end_no_step f.fault _ n h.0 e)) c.ended_as.ensures.err c.ended_as.ensures.err

pub returns-clause-wrong : goal.returns-clause-wrong
returns-clause-wrong c =
    let code = ap (λ (b : Seen). b.code) c.in_ok-board.ensures ∙ c.in_ok-program.ensures ∙ c.in_ok-copy.ensures in
    let told = c.in_ok-told.told in
    let r = c.in_ok-run.run'.report in
    let reports : Reports c.args.code.now (length told.events.items) r =
    subst (λ (es : List Event). Reports c.args.code.now (length es) r) c.as_slice.ensures.value (subst (λ (C : Code). Reports C (length c.as_slice.result.now) r) code c.in_ok-run.ensures.reports) in
    of_fault c.ended_as.result _ _ _
    (λ f h k n e. wrong_end c.args.code.now c.args.trace.now told.events.items told.ending r _ n c.in_ok-told.ensures.ok (c.in_ok-run.ensures.history ∙ c.as_slice.ensures.value) reports h.2
    (grind arith) (sym h.0 ∙ e))
    c.ended_as.ensures.err c.ended_as.ensures.err

pub returns-clause-again : goal.returns-clause-again
returns-clause-again c = λ r t.
    IfOk-weaker c.ended_as.result _ _ (λ s h. same_again c.args.code.now c.args.trace.now r t c.entry_count-whole.ensures.whole s.report h) (returns-clause-report c)

pub returns-clause-only_memory : goal.returns-clause-only_memory
returns-clause-only_memory c = λ r t.
    of_fault c.ended_as.result _ _ _
    (λ f h k. absurd (not_wrong c.args.code.now c.entry_count-whole.ensures.whole c.args.trace.now t.limit r (Some (ending_of r.end)) (its_trace c.args.code.now c.args.trace.now r t) t.reports refl _ (k _ h.0)))
    c.ended_as.ensures.err (returns-clause-wrong c)

pub returns-clause-left : goal.returns-clause-left
returns-clause-left c =
    let code = ap (λ (b : Seen). b.code) c.in_ok-board.ensures ∙ c.in_ok-program.ensures ∙ c.in_ok-copy.ensures in
    let told = c.in_ok-told.told in
    let run = c.in_ok-run.run' in
    let reports : Reports c.args.code.now (length told.events.items) run.report =
    subst (λ (es : List Event). Reports c.args.code.now (length es) run.report) c.as_slice.ensures.value
    (subst (λ (C : Code). Reports C (length c.as_slice.result.now) run.report) code c.in_ok-run.ensures.reports) in
    other_end c.args.code.now c.args.trace.now c.args.keeps told.events.items told.ending run _ c.ended_as.result c.in_ok-told.ensures.ok (c.in_ok-run.ensures.history ∙ c.as_slice.ensures.value) reports
    c.in_ok-run.ensures.kept (λ f h. h.1) c.ended_as.ensures.err
