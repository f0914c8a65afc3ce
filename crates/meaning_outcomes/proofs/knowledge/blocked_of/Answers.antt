use Rattle.std.proofs.Common.{◌≡◌, ◌<◌, ◌++◌, length, get_or, ap, ◌∙◌, rules, arith}
use Rattle.meaning_outcomes.specs.Stuck.{is_stuck_in}
use Rattle.meaning_round.specs.declared.state.LiveTask.{LiveTask}
use Rattle.meaning_round.specs.Standing.{active_of}
use Rattle.meaning_outcomes.specs.Known.{stuck_if}
use Rattle.meaning_outcomes.proofs.Steps.{stuck_step}
use Rattle.meaning_outcomes.proofs.knowledge.blocked_of.Goals as goal

pub loop-task-preserved : goal.loop-task-preserved
loop-task-preserved g c =
    let A = g.row.A.Denot in
    let l = c.args.fact_base.now in
    let within : c.loop-task.task-index < length c.args.tasks.now = search rules in
    let item : c.task-item.result ≡ get_or c.args.tasks.now c.loop-task.task-index c.task-item.result = search rules in
    stuck_step {A = A} l c.args.tasks.now c.loop-task.task-index c.task-item.result c.loop-task.stuck.items c.add_blocked.new.stuck.items within c.loop-task.invariant
    (c.in_ok-add_blocked.ensures
    ∙ ap (λ (z : LiveTask A). c.loop-task.stuck.items ++ stuck_if (is_stuck_in l (active_of {A = A} z).instance (active_of {A = A} z).statement) (active_of {A = A} z)) item)
