use Rattle.std.proofs.Common.{take, ◌-◌, ℕ, ◌^◌, List, ◌≤◌}
use Rattle.task_code.specs.Code as pure
use Rattle.ref_counting.specs.Leads.{AllPlain, Has}
use Rattle.ref_counting.specs.Rights.{AllLead, AllWithin, IsClosed}
use Rattle.ref_counting.proofs.rights.pass_all.Given as goal

abbrev pub invariant-loop-next : goal.invariant-loop-next
invariant-loop-next l = record {
  within : AllWithin l.code l.leads.keys;
  kept : (i : ℕ) (r : pure.Name) → Has l.fn.leads.keys i r → Has l.leads.keys i r;
  plain : AllPlain l.fn.leads.keys → AllPlain l.leads.keys;
  sound : (own : pure.Entry → List pure.Name) → AllLead l.code own l.fn.leads.keys → AllLead l.code own l.leads.keys;
  closed : IsClosed l.code (take l.next l.leads.keys) l.leads.keys;
  bound : l.next ≤ 2 ^ 64 - 1;
}

abbrev pub decreases-loop-next : goal.decreases-loop-next
decreases-loop-next l = 2 ^ 64 - l.next
