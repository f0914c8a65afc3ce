use Rattle.std.proofs.Common.{sym, subst}
use Rattle.flow.specs.Whole.{IsWhole}
use Rattle.flow_laws.proofs.Accepted.{accepted_whole}
use Rattle.flow_laws.proofs.accepted_flows_are_whole.Goals as goal

pub returns-clause-cores : goal.returns-clause-cores
returns-clause-cores g = λ t tree placed typed. accepted_whole t tree placed typed

pub returns-clause-flows : goal.returns-clause-flows
returns-clause-flows g = λ t tree seen placed typed is. subst IsWhole (sym is) (accepted_whole t tree placed typed)
