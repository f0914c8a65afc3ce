use Rattle.std.proofs.Common.{ap}
use Rattle.board_instances.specs.View.{job_view}
use Rattle.board_items.proofs.Jobs.{kind_past, priority_past}
use Rattle.board_items.proofs.items.order_of.Goals as goal

pub returns-in-None-clause-kind : goal.returns-in-None-clause-kind
returns-in-None-clause-kind c = kind_past c.args.program.now c.in-Does.instance c.in-Does.entry c.in-Does.chunk (job_view c.args.job) (ap job_view c.in-Does.is) c.in-None.ensures

pub returns-in-None-clause-priority : goal.returns-in-None-clause-priority
returns-in-None-clause-priority c = priority_past c.args.program.now c.in-Does.instance c.in-Does.entry c.in-Does.chunk (job_view c.args.job) (ap job_view c.in-Does.is) c.in-None.ensures
