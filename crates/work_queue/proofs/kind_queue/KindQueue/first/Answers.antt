use Rattle.std.proofs.Common.{sym, ◌∙◌}
use Rattle.work_queue.proofs.InOrder.{first_foremost}
use Rattle.work_queue.proofs.Merging.{first_of_first, first_of_second, in_order_merged}
use Rattle.work_queue.proofs.kind_queue.KindQueue.first.Goals as goal

pub returns-then-leads-clause-first : goal.returns-then-leads-clause-first
returns-then-leads-clause-first c =
    let ahead = rw (c.first-of_tree.ensures, c.first-of_run.ensures) at c.if-leads.ensures.ahead in
    rw (← c.self.view_is) (c.first-of_tree.ensures ∙ sym (first_of_first _ _ c.self.invariant.kept.in_order c.self.invariant.in_order ahead))

pub returns-then-leads-clause-foremost : goal.returns-then-leads-clause-foremost
returns-then-leads-clause-foremost c =
    let is = returns-then-leads-clause-first c in
    rw is (rw (← c.self.view_is) (first_foremost _ (in_order_merged c.self.inside.tree _ c.self.invariant.in_order)))

pub returns-else-leads-clause-first : goal.returns-else-leads-clause-first
returns-else-leads-clause-first c =
    let behind = rw (c.first-of_tree.ensures, c.first-of_run.ensures) at c.if-leads.ensures.behind in
    rw (← c.self.view_is) (c.first-of_run.ensures ∙ sym (first_of_second _ _ c.self.invariant.kept.in_order c.self.invariant.in_order behind))

pub returns-else-leads-clause-foremost : goal.returns-else-leads-clause-foremost
returns-else-leads-clause-foremost c =
    let is = returns-else-leads-clause-first c in
    rw is (rw (← c.self.view_is) (first_foremost _ (in_order_merged c.self.inside.tree _ c.self.invariant.in_order)))
