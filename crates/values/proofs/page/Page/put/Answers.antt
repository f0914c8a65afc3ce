use Rattle.std.proofs.Common.{rules, ◌++◌}
use Rattle.values.specs.Sinks.{Beginning}
use Rattle.values.proofs.Beginnings.{second_part}
use Rattle.values.proofs.page.Page.put.Goals as goal

pub returns-in_err-write_all-clause-err : goal.returns-in_err-write_all-clause-err
returns-in_err-write_all-clause-err g c =
    let b : Beginning (g.W.Sink.taken c.args.sink.now) (c.args.self.now ++ c.args.text.now) (g.W.Sink.taken c.write_all.new.sink) =
    second_part (g.W.Sink.taken c.args.sink.now) (g.W.Sink.taken c.empty.new.sink) (g.W.Sink.taken c.write_all.new.sink) c.args.self.now c.args.text.now
    c.in_ok-empty.ensures.ok c.in_err-write_all.ensures.err in
    search (rules, b)
