use Rattle.task_code.specs.View.{name_view}
use Rattle.ref_counting.proofs.Adding.{adds_one}
use Rattle.ref_counting.proofs.uses.note_one.Goals as goal

pub returns : goal.returns
returns c = adds_one c.args.number (name_view c.args.name) c.args.leads.now.keys c.add_name.new.leads.keys c.in_ok-add_name.ensures.there c.in_ok-add_name.ensures.grows
