use Rattle.std.proofs.Common.{rules, ◌≡◌, IfOk, subst}
use Rattle.flow.specs.View.{core_of, owned_view}
use Rattle.meaning_cells.specs.Ending.{Goals, behind, goals_of, where_so}
use Rattle.meaning_cells.proofs.Ending.{view_content}
use Rattle.meaning_cells.proofs.finished.add_target.Goals as goal

pub returns-in-Wait : goal.returns-in-Wait
returns-in-Wait g c =
    let names : c.as_slice.result.now ≡ c.in-Wait.names.items = search rules in
    let inner : c.as_slice-in-Wait.result.now ≡ c.in-Wait.inner.items = search rules in
    let content : c.deref-in-Wait.result.now ≡ c.in-Wait.content.value = search rules in
    subst (λ (z : Goals). IfOk c.add_content.result (λ yes. where_so yes (goals_of {A = g.row.A.Denot} c.add_content.new.tasks.items) ≡ behind (goals_of {A = g.row.A.Denot} c.args.tasks.now.items) z))
    (view_content {A = g.row.A.Denot} (core_of {A = g.row.A.Denot} c.args.flow.now) c.args.fact_base.now c.args.writer.instance (owned_view c.args.what) c.args.at c.args.writer.node c.in-Wait.names c.in-Wait.inner c.in-Wait.content c.args.action.now c.in-Wait.is
    c.as_slice.result.now names c.as_slice-in-Wait.result.now inner c.deref-in-Wait.result.now content)
    c.add_content.ensures
