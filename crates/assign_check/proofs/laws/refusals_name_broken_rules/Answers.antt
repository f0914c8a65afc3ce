use Rattle.assign_check.specs.Faults.{faults}
use Rattle.assign_check.proofs.Earliest.{first_there, first_before_all}
use Rattle.assign_check.proofs.Named.{breaks}
use Rattle.assign_check.proofs.faults.Exact.{found, none_before}
use Rattle.assign_check.proofs.laws.refusals_name_broken_rules.Goals as goal

pub returns-clause-there : goal.returns-clause-there
returns-clause-there c = λ t tree f is. first_there (faults t tree) f is

pub returns-clause-first : goal.returns-clause-first
returns-clause-first c = λ t tree f g is there. first_before_all (faults t tree) f g is there

pub returns-clause-names : goal.returns-clause-names
returns-clause-names c = breaks

pub returns-clause-all : goal.returns-clause-all
returns-clause-all c = found

pub returns-clause-none_before : goal.returns-clause-none_before
returns-clause-none_before c = none_before
