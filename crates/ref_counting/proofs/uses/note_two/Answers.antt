use Rattle.std.proofs.Common.{◌∷◌, []}
use Rattle.task_code.specs.View.{name_view}
use Rattle.ref_counting.proofs.Adding.{adds_more}
use Rattle.ref_counting.proofs.uses.note_two.Goals as goal

pub returns : goal.returns
returns c = adds_more c.args.number (name_view c.args.first ∷ []) (name_view c.args.second ∷ []) c.args.leads.now.keys c.note_one.new.leads.keys c.note_one-2.new.leads.keys c.in_ok-note_one.ensures c.in_ok-note_one-2.ensures
