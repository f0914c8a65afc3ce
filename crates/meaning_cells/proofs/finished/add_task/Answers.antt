use Rattle.std.proofs.Common.{rules, ◌≡◌, ◌∷◌, ◌∙◌, List, IfOk, subst, sym, ap}
use Rattle.flow.specs.declared.statement.Header.{Header}
use Rattle.flow.specs.View.{core_of, block_view, owned_view, waits_around}
use Rattle.meaning_cells.specs.Ending.{Goals, behind, goals_in, goals_of, where_so}
use Rattle.meaning_cells.proofs.Ending.{wait_goals}
use Rattle.meaning_cells.proofs.finished.add_task.Goals as goal

pub returns-in-Some : goal.returns-in-Some
returns-in-Some g c =
    let s = core_of {A = g.row.A.Denot} c.args.flow.now in
    let a = owned_view c.args.task.what in
    let b = block_view {A = g.row.A.Denot} c.args.task.block.now in
    let split : c.args.task.inner.now ≡ c.in-Some.header.now ∷ c.in-Some.inner.now = search rules in
    subst (λ (z : Goals). IfOk c.add_waiting.result (λ yes. where_so yes (goals_of {A = g.row.A.Denot} c.add_waiting.new.tasks.items) ≡ behind (goals_of {A = g.row.A.Denot} c.args.tasks.now.items) z))
    (sym (wait_goals {A = g.row.A.Denot} s c.args.fact_base.now c.args.task.instance a c.in-Some.header.now c.in-Some.inner.now b)
    ∙ ap (λ (z : List (Header g.row.A.Denot)). goals_in s c.args.fact_base.now c.args.task.instance a (waits_around z b)) (sym split))
    c.add_waiting.ensures
