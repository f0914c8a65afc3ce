use Rattle.std.proofs.Common.{◌≤◌, length, subst}
use Rattle.task_code.specs.Code.{Code}
use Rattle.board_changes.proofs.Opened.{no_entries}
use Rattle.board_changes.proofs.opening.entries_of.Goals as goal

pub returns-in-None : goal.returns-in-None
returns-in-None c = no_entries c.args.program.now c.args.number (subst (λ (C : Code). length C.bodies ≤ c.args.number) c.code.ensures c.in-None.ensures)
