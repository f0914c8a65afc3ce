use Rattle.std.proofs.Common.{◌≡◌, false, sym, ◌∙◌, ap, subst, IfSome, IsSomeAnd}
use Rattle.std.specs.Vec.{vec_len}
use Rattle.work_queue.specs.Order.{precedes}
use Rattle.work_queue.specs.Entries.{IsForemost, first_of}
use Rattle.work_queue.proofs.InOrder.{first_foremost}
use Rattle.work_queue.proofs.Merging.{first_of_first, first_of_second, in_order_merged}
use Rattle.work_queue.proofs.Sharing.{first_taken, taken_from_run, taken_from_tree}
use Rattle.work_queue.proofs.kind_queue.KindQueue.take.Goals as goal

pub returns-then-not-leads-clause-first : goal.returns-then-not-leads-clause-first
returns-then-not-leads-clause-first c =
    let behind = rw (c.first_in-of_tree.ensures, c.first-of_run.ensures) at c.if-not-leads.ensures.behind in
    rw (← c.self.view_is) (first_taken _ _ _ c.take.ensures ∙ sym (first_of_second _ _ c.self.invariant.kept.in_order c.self.invariant.in_order behind))

pub returns-then-not-leads-clause-foremost : goal.returns-then-not-leads-clause-foremost
returns-then-not-leads-clause-foremost c =
    let is = returns-then-not-leads-clause-first c in
    rw is (rw (← c.self.view_is) (first_foremost _ (in_order_merged c.self.inside.tree _ c.self.invariant.in_order)))

pub returns-then-not-leads-clause-rest : goal.returns-then-not-leads-clause-rest
returns-then-not-leads-clause-rest c =
    let behind = rw (c.first_in-of_tree.ensures, c.first-of_run.ensures) at c.if-not-leads.ensures.behind in
    rw (← c.self.view_is) (taken_from_run c.take.result c.self.inside.tree c.self.inside.run c.take.new.self (vec_len c.self.inside.spare) c.self.invariant.kept.in_order c.self.invariant.in_order c.self.invariant.has_nodes behind c.take.ensures)

pub returns-clause-first : goal.returns-clause-first
returns-clause-first c =
    let ahead = rw (c.first_in-of_tree.ensures, c.first-of_run.ensures) at c.if-not-leads.ensures.ahead in
    rw (← c.self.view_is, c.deref.ensures) (sym (first_of_first c.self.inside.tree c.self.inside.run c.self.invariant.kept.in_order c.self.invariant.in_order ahead ∙ ap first_of c.in_ok-node.ensures))

pub returns-clause-foremost : goal.returns-clause-foremost
returns-clause-foremost c =
    subst (λ o. IfSome o (λ e. IsForemost e c.args.self.now.entries)) (sym (returns-clause-first c)) (rw (← c.self.view_is) (first_foremost _ (in_order_merged c.self.inside.tree _ c.self.invariant.in_order)))

pub returns-clause-rest : goal.returns-clause-rest
returns-clause-rest c =
    let ahead = rw (c.first_in-of_tree.ensures, c.first-of_run.ensures) at c.if-not-leads.ensures.ahead in
    let lead : IfSome (first_of c.self.inside.run) (λ y. precedes y c.in_ok-node.node.value.entry ≡ false) = subst (λ v. IsSomeAnd (first_of v) (λ x. IfSome (first_of c.self.inside.run) (λ y. precedes y x ≡ false))) c.in_ok-node.ensures ahead in
    rw (← c.self.view_is, c.push_reserved.ensures.len) (taken_from_tree c.in_ok-node.node.value.entry c.self.inside.tree c.self.inside.run c.take_first.new.self (vec_len c.self.inside.spare) c.self.invariant.kept.in_order c.self.invariant.in_order c.self.invariant.has_nodes lead c.in_ok-node.ensures)
