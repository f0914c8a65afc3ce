use Rattle.std.proofs.Common.{◌≤◌, length, subst}
use Rattle.task_code.specs.Code.{Code}
use Rattle.board_instances.proofs.Turned.{not_blank}
use Rattle.board_instances.proofs.turns.push_block.Goals as goal

pub returns-in_default-clause-added : goal.returns-in_default-clause-added
returns-in_default-clause-added c = λ some there. not_blank c.args.site.around.program.now c.args.site.body (subst (λ (C : Code). length C.bodies ≤ c.args.site.body) c.code.ensures c.in_default.ensures) some
