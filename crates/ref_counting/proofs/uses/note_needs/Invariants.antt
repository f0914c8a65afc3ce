use Rattle.std.proofs.Common.{take, map}
use Rattle.std.specs.List.{flat_map}
use Rattle.task_code.specs.Code.{needed}
use Rattle.task_code.specs.View.{need_view}
use Rattle.ref_counting.specs.Rights.{Adds}
use Rattle.ref_counting.specs.Uses.{OfThis}
use Rattle.ref_counting.proofs.uses.note_needs.Given as goal

abbrev pub invariant-loop-need : goal.invariant-loop-need
invariant-loop-need l = Adds (OfThis l.number (flat_map needed (map need_view (take l.need-index l.needs.items)))) l.fn.leads.keys l.leads.keys
