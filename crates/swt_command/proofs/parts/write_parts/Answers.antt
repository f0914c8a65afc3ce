use Rattle.std.proofs.Common.{rules, ◌++◌}
use Rattle.swt_command.specs.Sinks.{Held, Lost, held}
use Rattle.swt_command.proofs.Sinks.{lost_behind, lost_in_front, took_both, writes, writes_behind}
use Rattle.swt_command.proofs.parts.write_parts.Goals as goal

pub returns-in_err-write_all-2 : goal.returns-in_err-write_all-2
returns-in_err-write_all-2 g c =
    let old : Held = held (g.W.Sink.taken c.args.sink.now) (g.W.Sink.failures c.args.sink.now) in
    let mid : Held = held (g.W.Sink.taken c.write_all.new.sink) (g.W.Sink.failures c.write_all.new.sink) in
    let new : Held = held (g.W.Sink.taken c.write_all-2.new.sink) (g.W.Sink.failures c.write_all-2.new.sink) in
    let l : Lost old ((c.args.first.now ++ c.args.second.now) ++ c.args.third.now) new =
    lost_in_front old new (c.args.first.now ++ c.args.second.now) c.args.third.now
    (lost_behind old mid new c.args.first.now c.args.second.now (c.in_ok-write_all.ensures.ok, c.in_ok-write_all.ensures.none_failed) (c.in_err-write_all-2.ensures.err, c.in_err-write_all-2.ensures.failed)) in
    search (rules, l)

pub returns : goal.returns
returns g c =
    let old : Held = held (g.W.Sink.taken c.args.sink.now) (g.W.Sink.failures c.args.sink.now) in
    let one : Held = held (g.W.Sink.taken c.write_all.new.sink) (g.W.Sink.failures c.write_all.new.sink) in
    let two : Held = held (g.W.Sink.taken c.write_all-2.new.sink) (g.W.Sink.failures c.write_all-2.new.sink) in
    let new : Held = held (g.W.Sink.taken c.write_all-3.new.sink) (g.W.Sink.failures c.write_all-3.new.sink) in
    let e = c.write_all-3.ensures in
    writes_behind c.write_all-3.result old two new (c.args.first.now ++ c.args.second.now) c.args.third.now
    (took_both old one two c.args.first.now c.args.second.now (c.in_ok-write_all.ensures.ok, c.in_ok-write_all.ensures.none_failed) (c.in_ok-write_all-2.ensures.ok, c.in_ok-write_all-2.ensures.none_failed))
    (writes c.write_all-3.result two new c.args.third.now e.ok e.err e.failed e.none_failed)
