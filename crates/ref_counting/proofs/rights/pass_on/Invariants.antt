use Rattle.std.proofs.Common.{take}
use Rattle.ref_counting.specs.Leads.{name_of}
use Rattle.ref_counting.specs.Rights.{Adds, ByHomes}
use Rattle.ref_counting.specs.Rows.{row}
use Rattle.ref_counting.proofs.rights.pass_on.Given as goal

abbrev pub invariant-loop-body : goal.invariant-loop-body
invariant-loop-body l = Adds (ByHomes l.code l.index.openings (name_of l.lead) (take l.body-index (row l.index.homes l.lead.entry))) l.fn.leads.keys l.leads.keys
