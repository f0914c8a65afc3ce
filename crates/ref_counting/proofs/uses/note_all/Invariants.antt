use Rattle.std.proofs.Common.{take, map}
use Rattle.task_code.specs.View.{name_view}
use Rattle.ref_counting.specs.Rights.{Adds}
use Rattle.ref_counting.specs.Uses.{OfThis}
use Rattle.ref_counting.proofs.uses.note_all.Given as goal

abbrev pub invariant-loop-name : goal.invariant-loop-name
invariant-loop-name l = Adds (OfThis l.number (map name_view (take l.name-index l.names.items))) l.fn.leads.keys l.leads.keys
