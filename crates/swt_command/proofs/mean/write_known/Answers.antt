use Rattle.std.specs.List.{flat_map}
use Rattle.swt_trace.specs.Report.{blocked_line, text_line}
use Rattle.swt_command.specs.Sinks.{Held, held}
use Rattle.swt_command.proofs.Sinks.{writes, writes_behind}
use Rattle.swt_command.proofs.mean.write_known.Goals as goal

pub returns : goal.returns
returns g c =
    let old : Held = held (g.W.Sink.taken c.args.sink.now) (g.W.Sink.failures c.args.sink.now) in
    let mid : Held = held (g.W.Sink.taken c.write_lines.new.sink) (g.W.Sink.failures c.write_lines.new.sink) in
    let new : Held = held (g.W.Sink.taken c.write_blocked.new.sink) (g.W.Sink.failures c.write_blocked.new.sink) in
    let e = c.write_blocked.ensures in
    writes_behind c.write_blocked.result old mid new (flat_map text_line c.args.told.now.lines.items) (flat_map blocked_line c.args.told.now.blocked.items)
    (c.in_ok-write_lines.ensures.ok, c.in_ok-write_lines.ensures.none_failed)
    (writes c.write_blocked.result mid new (flat_map blocked_line c.args.told.now.blocked.items) e.ok e.err e.failed e.none_failed)
