use Rattle.std.proofs.Common.{rules, ◌≡◌, ◌++◌, ◌∷◌, [], List, true, false, subst, sym}
use Rattle.flow.specs.View.{core_of, block_view, owned_view}
use Rattle.meaning_cells.specs.declared.finished.PendingBlock.{PendingBlock}
use Rattle.meaning_cells.specs.Ending.{Goal, behind, goals_in, goals_of, task_goal, where_so}
use Rattle.meaning_cells.proofs.Ending.{IsLeft, falsely, left_first, left_none, task_fails, task_more, truly}
use Rattle.meaning_cells.proofs.finished.is_finished.Goals as goal

pub loop-init : goal.loop-init
loop-init g c =
    let s = core_of {A = g.row.A.Denot} c.args.flow.now in
    let one : ◌≡◌ {A = List Goal} (goals_of {A = g.row.A.Denot} c.push.new.self.items) (record { instance = c.args.body.instance; what = owned_view c.args.body.what; block = block_view {A = g.row.A.Denot} c.args.body.block.now } ∷ []) = search rules in
    subst (λ (z : List Goal). IsLeft s c.args.fact_base.now (record { instance = c.args.body.instance; what = owned_view c.args.body.what; block = block_view {A = g.row.A.Denot} c.args.body.block.now }) z) (sym one)
    (left_first s c.args.fact_base.now (record { instance = c.args.body.instance; what = owned_view c.args.body.what; block = block_view {A = g.row.A.Denot} c.args.body.block.now }))

pub returns-in_default : goal.returns-in_default
returns-in_default g c =
    let s = core_of {A = g.row.A.Denot} c.args.flow.now in
    let none : c.loop.tasks.items ≡ [] = search rules in
    truly (left_none s c.args.fact_base.now (record { instance = c.args.body.instance; what = owned_view c.args.body.what; block = block_view {A = g.row.A.Denot} c.args.body.block.now })
    (subst (λ (z : List (PendingBlock g.row.A.Denot)). IsLeft (core_of {A = g.row.A.Denot} c.args.flow.now) c.args.fact_base.now (record { instance = c.args.body.instance; what = owned_view c.args.body.what; block = block_view {A = g.row.A.Denot} c.args.body.block.now }) (goals_of {A = g.row.A.Denot} z)) none c.loop.invariant))

pub returns-then-not-branch : goal.returns-then-not-branch
returns-then-not-branch g c =
    let s = core_of {A = g.row.A.Denot} c.args.flow.now in
    let popped : c.loop.tasks.items ≡ c.pop.new.self.items ++ c.in-Some.task ∷ [] = search rules in
    let told : where_so false (goals_of {A = g.row.A.Denot} c.add_task.new.tasks.items) ≡ behind (goals_of {A = g.row.A.Denot} c.pop.new.self.items)
    (goals_in (core_of {A = g.row.A.Denot} c.args.flow.now) c.args.fact_base.now (task_goal {A = g.row.A.Denot} c.in-Some.task).instance (task_goal {A = g.row.A.Denot} c.in-Some.task).what (task_goal {A = g.row.A.Denot} c.in-Some.task).block) = search rules in
    falsely (task_fails {A = g.row.A.Denot} s c.args.fact_base.now (record { instance = c.args.body.instance; what = owned_view c.args.body.what; block = block_view {A = g.row.A.Denot} c.args.body.block.now })
    c.loop.tasks.items c.pop.new.self.items c.add_task.new.tasks.items c.in-Some.task popped c.loop.invariant told)

pub loop-preserved : goal.loop-preserved
loop-preserved g c =
    let s = core_of {A = g.row.A.Denot} c.args.flow.now in
    let popped : c.loop.tasks.items ≡ c.pop.new.self.items ++ c.in-Some.task ∷ [] = search rules in
    let told : where_so true (goals_of {A = g.row.A.Denot} c.add_task.new.tasks.items) ≡ behind (goals_of {A = g.row.A.Denot} c.pop.new.self.items)
    (goals_in (core_of {A = g.row.A.Denot} c.args.flow.now) c.args.fact_base.now (task_goal {A = g.row.A.Denot} c.in-Some.task).instance (task_goal {A = g.row.A.Denot} c.in-Some.task).what (task_goal {A = g.row.A.Denot} c.in-Some.task).block) = search rules in
    task_more {A = g.row.A.Denot} s c.args.fact_base.now (record { instance = c.args.body.instance; what = owned_view c.args.body.what; block = block_view {A = g.row.A.Denot} c.args.body.block.now })
    c.loop.tasks.items c.pop.new.self.items c.add_task.new.tasks.items c.in-Some.task popped c.loop.invariant told
