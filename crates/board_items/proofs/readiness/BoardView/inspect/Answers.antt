use Rattle.std.proofs.Common.{◌∙◌, ap, arith}
use Rattle.board_data.specs.View.{cells_view}
use Rattle.board_instances.specs.View.{frames_view, job_view}
use Rattle.board_items.proofs.Jobs.{first_past, kind_past, new_past, new_there, priority_past}
use Rattle.board_items.proofs.readiness.BoardView.inspect.Goals as goal

pub returns-in_default-entry-clause-kind : goal.returns-in_default-entry-clause-kind
returns-in_default-entry-clause-kind c = kind_past c.args.self.program.now c.in-Does.instance c.in-Does.entry c.in-Does.chunk (job_view c.args.job) (ap job_view c.in-Does.is) c.in_default-entry.ensures

pub returns-in_default-entry-clause-priority : goal.returns-in_default-entry-clause-priority
returns-in_default-entry-clause-priority c = priority_past c.args.self.program.now c.in-Does.instance c.in-Does.entry c.in-Does.chunk (job_view c.args.job) (ap job_view c.in-Does.is) c.in_default-entry.ensures

pub returns-in_default-entry-clause-count : goal.returns-in_default-entry-clause-count
returns-in_default-entry-clause-count c = first_past c.args.self.program.now c.in-Does.instance c.in-Does.entry c.in-Does.chunk (job_view c.args.job) (ap job_view c.in-Does.is) c.in_default-entry.ensures

pub returns-in_default-entry-clause-listed : goal.returns-in_default-entry-clause-listed
returns-in_default-entry-clause-listed c = λ few seen. new_past c.args.self.program.now (frames_view c.args.self.instances.now.slots) (cells_view c.args.self.store.now.cells) c.in-Does.instance c.in-Does.entry c.in-Does.chunk (job_view c.args.job) (ap job_view c.in-Does.is) seen c.in_default-entry.ensures

pub returns-clause-listed : goal.returns-clause-listed
returns-clause-listed c = λ few seen. new_there c.args.self.program.now (frames_view c.args.self.instances.now.slots) (cells_view c.args.self.store.now.cells) c.in-Does.instance c.in-Does.entry c.in-Does.chunk (job_view c.args.job) c.as_slice.result.now (ap job_view c.in-Does.is) (omega arith) few seen (c.as_slice.ensures ∙ c.in-Some.ensures.1.needs)
