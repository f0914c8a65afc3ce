use Rattle.task_code.specs.Code.{entry}
use Rattle.task_code.specs.View.{name_view}
use Rattle.ref_counting.proofs.Handing.{no_call}
use Rattle.ref_counting.proofs.call_names.calling.Goals as goal

pub returns-in-None : goal.returns-in-None
returns-in-None c = no_call c.args.code.now (entry c.args.code.now c.args.call).offset c.args.call c.requires (name_view c.args.name) c.in-None.ensures
