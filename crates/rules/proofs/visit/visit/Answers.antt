use Rattle.std.proofs.Common.{rules}
use Rattle.std.proofs.lemmas.List.{set-set}
use Rattle.rules.proofs.visit.visit.Goals as goal

pub returns-in-Some-try_remove-clause-slots : goal.returns-in-Some-try_remove-clause-slots
returns-in-Some-try_remove-clause-slots c = search (rules, set-set)
