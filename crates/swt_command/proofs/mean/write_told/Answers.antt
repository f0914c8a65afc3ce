use Rattle.std.proofs.Common.{rules, ◌++◌}
use Rattle.std.specs.List.{flat_map}
use Rattle.swt_trace.specs.Report.{fault_line}
use Rattle.swt_command.specs.Means.{cut_line, known_text}
use Rattle.swt_command.specs.Sinks.{Held, Lost, Took, held}
use Rattle.swt_command.proofs.Sinks.{lost_behind, lost_in_front, took_both, writes_behind}
use Rattle.swt_command.proofs.mean.write_told.Goals as goal

pub returns-in_err-write_faults : goal.returns-in_err-write_faults
returns-in_err-write_faults g c =
    let t = c.args.told.now in
    let old : Held = held (g.W.Sink.taken c.args.sink.now) (g.W.Sink.failures c.args.sink.now) in
    let mid : Held = held (g.W.Sink.taken c.write_known.new.sink) (g.W.Sink.failures c.write_known.new.sink) in
    let new : Held = held (g.W.Sink.taken c.write_faults.new.sink) (g.W.Sink.failures c.write_faults.new.sink) in
    let l : Lost old ((known_text t ++ flat_map fault_line t.faults.items) ++ cut_line t.enough c.args.limit) new =
    lost_in_front old new (known_text t ++ flat_map fault_line t.faults.items) (cut_line t.enough c.args.limit)
    (lost_behind old mid new (known_text t) (flat_map fault_line t.faults.items) c.in_ok-write_known.ensures (c.in_err-write_faults.ensures.err, c.in_err-write_faults.ensures.failed)) in
    search (rules, l)

pub returns : goal.returns
returns g c =
    let t = c.args.told.now in
    let old : Held = held (g.W.Sink.taken c.args.sink.now) (g.W.Sink.failures c.args.sink.now) in
    let one : Held = held (g.W.Sink.taken c.write_known.new.sink) (g.W.Sink.failures c.write_known.new.sink) in
    let two : Held = held (g.W.Sink.taken c.write_faults.new.sink) (g.W.Sink.failures c.write_faults.new.sink) in
    let new : Held = held (g.W.Sink.taken c.write_cut.new.sink) (g.W.Sink.failures c.write_cut.new.sink) in
    writes_behind c.write_cut.result old two new (known_text t ++ flat_map fault_line t.faults.items) (cut_line t.enough c.args.limit)
    (took_both old one two (known_text t) (flat_map fault_line t.faults.items) c.in_ok-write_known.ensures (c.in_ok-write_faults.ensures.ok, c.in_ok-write_faults.ensures.none_failed))
    c.write_cut.ensures
