use Rattle.std.proofs.Common.{◌≤◌, length, subst}
use Rattle.task_code.specs.Code.{Code}
use Rattle.board_effects.proofs.Spares.{no_entry}
use Rattle.board_effects.proofs.spare_lists.push_for.Goals as goal

pub returns-in_default : goal.returns-in_default
returns-in_default c = no_entry c.args.program.now c.args.number c.args.spare.now.items (subst (λ (C : Code). length C.entries ≤ c.args.number) c.code.ensures c.in_default.ensures)
