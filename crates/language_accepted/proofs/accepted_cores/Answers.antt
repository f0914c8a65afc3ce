use Rattle.language_accepted.proofs.Accepted.{placed_always, placed_formed, placed_stmts}
use Rattle.language_accepted.proofs.Formed.{scoped}
use Rattle.language_accepted.proofs.accepted_cores.Goals as goal

pub returns-clause-formed : goal.returns-clause-formed
returns-clause-formed g = λ t tree p w s. placed_formed t tree p w s

pub returns-clause-always : goal.returns-clause-always
returns-clause-always g = λ t tree p w. placed_always t tree p w

pub returns-clause-scoped : goal.returns-clause-scoped
returns-clause-scoped g = λ t tree r w. scoped t tree r w

pub returns-clause-stmts : goal.returns-clause-stmts
returns-clause-stmts g = λ t tree p. placed_stmts t tree p
