use Rattle.std.proofs.Common.{rules, ap, ◌∙◌}
use Rattle.task_code.specs.View.{entry_view}
use Rattle.board_instances.specs.View.{job_view}
use Rattle.board_work.specs.Assigned.{job_control, job_result}
use Rattle.board.proofs.Failed.{entry_result, script_result, told_of_all}
use Rattle.board.proofs.state.BoardState.effect_of.Goals as goal

pub returns-in-Script : goal.returns-in-Script
returns-in-Script c =
    told_of_all c.args.program.now c.args.self.now (job_view c.args.job) c.args.outcome c.script_effect.result (λ done leaf control.
    script_result c.args.program.now c.args.self.now (job_view c.args.job) (ap job_view c.in-Script.is) done c.script_effect.result c.script_effect.ensures)

pub returns-in-Some-Some : goal.returns-in-Some-Some
returns-in-Some-Some c =
    told_of_all c.args.program.now c.args.self.now (job_view c.args.job) c.args.outcome c.effect.result (λ done leaf control.
    entry_result c.args.program.now c.args.self.now c.in-Does.instance c.in-Does.entry c.in-Does.chunk (job_view c.args.job) (ap job_view c.in-Does.is) done (entry_view c.in-Some-Some.found.now) (search rules) c.in-Some-Some.table.now (search rules) c.effect.result
    (λ work answers job same. c.effect.ensures work answers (leaf ∙ (λ i. job_result (job i) (same i))) (control ∙ (λ i. job_control (job i) (same i)))))
