use Rattle.compile.proofs.Runs.{compiled, flow_calls, flow_cells, flow_few, flow_reads, flow_room, flow_size, flow_whole, script_suits, Suits}
use Rattle.compile.proofs.compile.with_rights.Goals as goal

pub emit-requires-clause-merged : goal.emit-requires-clause-merged
emit-requires-clause-merged g c = ((script_suits {A = g.row.A.Denot} c.args.flow c.requires).is).merged

pub emit-requires-clause-calls : goal.emit-requires-clause-calls
emit-requires-clause-calls g c = flow_calls {A = g.row.A.Denot} c.args.flow (script_suits {A = g.row.A.Denot} c.args.flow c.requires)

pub emit-requires-clause-cells : goal.emit-requires-clause-cells
emit-requires-clause-cells g c = flow_cells {A = g.row.A.Denot} c.args.flow (script_suits {A = g.row.A.Denot} c.args.flow c.requires)

pub emit-requires-clause-reads : goal.emit-requires-clause-reads
emit-requires-clause-reads g c = flow_reads {A = g.row.A.Denot} c.args.flow (script_suits {A = g.row.A.Denot} c.args.flow c.requires)

pub emit-requires-clause-room : goal.emit-requires-clause-room
emit-requires-clause-room g c = flow_room {A = g.row.A.Denot} c.args.flow (script_suits {A = g.row.A.Denot} c.args.flow c.requires)

pub emit-requires-clause-size : goal.emit-requires-clause-size
emit-requires-clause-size g c = flow_size {A = g.row.A.Denot} c.args.flow (script_suits {A = g.row.A.Denot} c.args.flow c.requires)

pub of-requires-clause-whole : goal.of-requires-clause-whole
of-requires-clause-whole g c = flow_whole {A = g.row.A.Denot} c.args.flow (script_suits {A = g.row.A.Denot} c.args.flow c.requires) c.in-Ok.draft c.in-Ok.ensures.emitted

pub of-requires-clause-few : goal.of-requires-clause-few
of-requires-clause-few g c = flow_few {A = g.row.A.Denot} c.args.flow (script_suits {A = g.row.A.Denot} c.args.flow c.requires) c.in-Ok.draft c.in-Ok.ensures.emitted

pub returns-in-Ok-clause-emitted : goal.returns-in-Ok-clause-emitted
returns-in-Ok-clause-emitted g c = rw c.of.ensures c.in-Ok.ensures.emitted

pub returns-in-Ok-clause-marks : goal.returns-in-Ok-clause-marks
returns-in-Ok-clause-marks g c = rw c.of.ensures c.in-Ok.ensures.marks

pub returns-in-Ok-clause-code : goal.returns-in-Ok-clause-code
returns-in-Ok-clause-code g c = rw c.of.ensures (λ src is. compiled {A = g.row.A.Denot} src c.args.flow is c.in-Ok.draft c.in-Ok.ensures.emitted c.in-Ok.ensures.marks)
