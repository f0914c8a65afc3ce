use Rattle.std.proofs.Common.{take}
use Rattle.task_code.specs.View.{name_view}
use Rattle.ref_counting.specs.Rights.{Adds, ByOpenings}
use Rattle.ref_counting.proofs.rights.pass_body.Given as goal

abbrev pub invariant-loop-opening : goal.invariant-loop-opening
invariant-loop-opening l = Adds (ByOpenings l.code l.body (name_view l.name) (take l.opening-index l.found)) l.fn.leads.keys l.leads.keys
