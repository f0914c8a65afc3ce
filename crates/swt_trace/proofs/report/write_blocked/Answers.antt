use Rattle.std.proofs.Common.{rules, ◌≡◌, ◌<◌, ap, length, get_or, ◌∙◌}
use Rattle.std.specs.List.{flat_map}
use Rattle.values.specs.Sinks.{Beginning}
use Rattle.swt_trace.specs.Report.{blocked_line}
use Rattle.swt_trace.proofs.Parts.{in_texts, next_text}
use Rattle.swt_trace.proofs.report.write_blocked.Goals as goal

pub returns-in_err-write_statement-clause-err : goal.returns-in_err-write_statement-clause-err
returns-in_err-write_statement-clause-err g c =
    let l : c.loop-statement.statement-index < length c.args.blocked.now.items = rw (← c.deref-statement-items.ensures.value) c.loop-statement-test.true in
    let q : c.statement-item.result ≡ get_or c.args.blocked.now.items c.loop-statement.statement-index c.statement-item.result = (cc) in
    let p : blocked_line c.statement-item.result ≡ blocked_line (get_or c.args.blocked.now.items c.loop-statement.statement-index c.statement-item.result) = ap (λ s. blocked_line s) q in
    let b : Beginning (g.W.Sink.taken c.args.sink.now) (flat_map blocked_line c.args.blocked.now.items) (g.W.Sink.taken c.write_statement.new.sink) =
    in_texts blocked_line c.args.blocked.now.items c.loop-statement.statement-index c.statement-item.result _ (g.W.Sink.taken c.loop-statement.sink) _ _ l c.loop-statement.invariant.taken p c.in_err-write_statement.ensures.err in
    search (rules, b)

pub loop-statement-preserved : goal.loop-statement-preserved
loop-statement-preserved g c =
    let l : c.loop-statement.statement-index < length c.args.blocked.now.items = rw (← c.deref-statement-items.ensures.value) c.loop-statement-test.true in
    let q : c.statement-item.result ≡ get_or c.args.blocked.now.items c.loop-statement.statement-index c.statement-item.result = (cc) in
    let p : blocked_line c.statement-item.result ≡ blocked_line (get_or c.args.blocked.now.items c.loop-statement.statement-index c.statement-item.result) = ap (λ s. blocked_line s) q in
    record {
      taken = next_text blocked_line c.args.blocked.now.items c.loop-statement.statement-index c.statement-item.result _ (g.W.Sink.taken c.loop-statement.sink) _ _ l c.loop-statement.invariant.taken p c.in_ok-write_statement.ensures.ok;
      failures = c.in_ok-write_statement.ensures.none_failed ∙ c.loop-statement.invariant.failures;
    }
