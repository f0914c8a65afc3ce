use Rattle.std.proofs.Common.{rules, ◌≡◌, ◌<◌, ap, length, get_or, ◌∙◌}
use Rattle.std.specs.List.{flat_map}
use Rattle.values.specs.Sinks.{Beginning}
use Rattle.swt_trace.specs.Report.{step_text}
use Rattle.swt_trace.proofs.Parts.{in_texts, next_text}
use Rattle.swt_trace.proofs.report.write_steps.Goals as goal

pub returns-in_err-write_step-clause-err : goal.returns-in_err-write_step-clause-err
returns-in_err-write_step-clause-err g c =
    let l : c.loop-step.step-index < length c.args.steps.now.items = rw (← c.deref-step-items.ensures.value) c.loop-step-test.true in
    let q : c.step-item.result ≡ get_or c.args.steps.now.items c.loop-step.step-index c.step-item.result = (cc) in
    let p : step_text c.step-item.result ≡ step_text (get_or c.args.steps.now.items c.loop-step.step-index c.step-item.result) = ap (λ s. step_text s) q in
    let b : Beginning (g.W.Sink.taken c.args.sink.now) (flat_map step_text c.args.steps.now.items) (g.W.Sink.taken c.write_step.new.sink) =
    in_texts step_text c.args.steps.now.items c.loop-step.step-index c.step-item.result _ (g.W.Sink.taken c.loop-step.sink) _ _ l c.loop-step.invariant.taken p c.in_err-write_step.ensures.err in
    search (rules, b)

pub loop-step-preserved : goal.loop-step-preserved
loop-step-preserved g c =
    let l : c.loop-step.step-index < length c.args.steps.now.items = rw (← c.deref-step-items.ensures.value) c.loop-step-test.true in
    let q : c.step-item.result ≡ get_or c.args.steps.now.items c.loop-step.step-index c.step-item.result = (cc) in
    let p : step_text c.step-item.result ≡ step_text (get_or c.args.steps.now.items c.loop-step.step-index c.step-item.result) = ap (λ s. step_text s) q in
    record {
      taken = next_text step_text c.args.steps.now.items c.loop-step.step-index c.step-item.result _ (g.W.Sink.taken c.loop-step.sink) _ _ l c.loop-step.invariant.taken p c.in_ok-write_step.ensures.ok;
      failures = c.in_ok-write_step.ensures.none_failed ∙ c.loop-step.invariant.failures;
    }
