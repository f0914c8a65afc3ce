use Rattle.std.proofs.Common.{rules}
use Rattle.std.specs.List.{flat_map}
use Rattle.values.specs.Sinks.{Beginning}
use Rattle.swt_trace.specs.Report.{ReportText, text_line, end_text}
use Rattle.swt_trace.proofs.Parts.{behind}
use Rattle.swt_trace.proofs.report.write_report.Goals as goal

pub returns-in_err-write_end-clause-err : goal.returns-in_err-write_end-clause-err
returns-in_err-write_end-clause-err g c =
    let r = c.args.report.now in
    let b : Beginning (g.W.Sink.taken c.args.sink.now) (ReportText r) (g.W.Sink.taken c.write_end.new.sink) =
    behind _ (g.W.Sink.taken c.write_lines.new.sink) _ (flat_map text_line r.lines.items) (end_text r.end r) c.in_ok-write_lines.ensures.ok c.in_err-write_end.ensures.err in
    search (rules, b)
