use Rattle.std.proofs.Common.{rules, refl, ◌∙◌}
use Rattle.std.specs.List.{flat_map}
use Rattle.values.specs.Sinks.{Beginning}
use Rattle.swt_trace.specs.Report.{spelled}
use Rattle.swt_trace.proofs.Parts.{in_texts, next_text}
use Rattle.swt_trace.proofs.report.write_spelled.Goals as goal

pub returns-in_err-write_byte-clause-err : goal.returns-in_err-write_byte-clause-err
returns-in_err-write_byte-clause-err g c =
    let b : Beginning (g.W.Sink.taken c.args.sink.now) (flat_map spelled c.args.bytes.now) (g.W.Sink.taken c.write_byte.new.sink) =
    in_texts spelled c.args.bytes.now c.loop-byte.byte-index 0 _ (g.W.Sink.taken c.loop-byte.sink) _ _ c.loop-byte-test.true c.loop-byte.invariant.taken refl c.in_err-write_byte.ensures.err in
    search (rules, b)

pub loop-byte-preserved : goal.loop-byte-preserved
loop-byte-preserved g c =
    record {
      taken = next_text spelled c.args.bytes.now c.loop-byte.byte-index 0 _ (g.W.Sink.taken c.loop-byte.sink) _ _ c.loop-byte-test.true c.loop-byte.invariant.taken refl c.in_ok-write_byte.ensures.ok;
      failures = c.in_ok-write_byte.ensures.none_failed ∙ c.loop-byte.invariant.failures;
    }
