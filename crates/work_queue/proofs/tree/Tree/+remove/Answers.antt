use Rattle.std.proofs.Common.{arith, ◌≡◌, sym, ◌∙◌}
use Rattle.std.specs.declared.cmp.Ordering.TheVariants.{Less, Equal, Greater}
use Rattle.work_queue.specs.Order.{order}
use Rattle.work_queue.proofs.OrderLaws.{less_precedes, greater_follows, equal_is_same}
use Rattle.work_queue.proofs.InOrder.{in_order_left, in_order_right, erased_left, erased_right, erased_here, holds_left, holds_right, holds_here, left_shorter, right_shorter}
use Rattle.work_queue.proofs.tree.Tree.+remove.Goals as goal

pub remove-found-requires : goal.remove-found-requires
remove-found-requires t c =
    let s = rw (← c.in-Fork.ensures.top) at c.requires in
    (rw c.deref_mut.ensures.value (omega (arith, c.decreases, left_shorter _ _ _ _ c.in-Fork.ensures.top)), rw c.deref_mut.ensures.value (in_order_left _ _ _ s))

pub remove-found-requires-in-Greater : goal.remove-found-requires-in-Greater
remove-found-requires-in-Greater t c =
    let s = rw (← c.in-Fork.ensures.top) at c.requires in
    (rw c.deref_mut-in-Greater.ensures.value (omega (arith, c.decreases, right_shorter _ _ _ _ c.in-Fork.ensures.top)), rw c.deref_mut-in-Greater.ensures.value (in_order_right _ _ _ s))

pub returns-in-Less-clause-found : goal.returns-in-Less-clause-found
returns-in-Less-clause-found t c =
    let s = rw (← c.in-Fork.ensures.top) at c.requires in
    let cmp : order c.args.entry c.in-Fork.node.value.entry ≡ Less = rw (← c.deref.ensures) (sym c.cmp.ensures ∙ c.in-Less.is) in
    let e = holds_left c.args.entry c.in-Fork.node.value.left c.in-Fork.node.value.entry c.in-Fork.node.value.right (less_precedes c.args.entry c.in-Fork.node.value.entry cmp) s in
    rw c.remove-found.ensures.found (rw c.deref_mut.ensures.value (rw (← c.in-Fork.ensures.top) (sym e)))

pub returns-in-Less-clause-entries : goal.returns-in-Less-clause-entries
returns-in-Less-clause-entries t c =
    let s = rw (← c.in-Fork.ensures.top) at c.requires in
    let cmp : order c.args.entry c.in-Fork.node.value.entry ≡ Less = rw (← c.deref.ensures) (sym c.cmp.ensures ∙ c.in-Less.is) in
    let e = erased_left c.args.entry c.in-Fork.node.value.left c.in-Fork.node.value.entry c.in-Fork.node.value.right (less_precedes c.args.entry c.in-Fork.node.value.entry cmp) s in
    rw c.of.ensures (rw c.balanced.ensures (rw c.deref_mut-in-Less.ensures.value (rw c.remove-found.ensures.entries (rw c.deref_mut.ensures.value (rw (← c.in-Fork.ensures.top) (sym e))))))

pub returns-in-Greater-clause-found : goal.returns-in-Greater-clause-found
returns-in-Greater-clause-found t c =
    let s = rw (← c.in-Fork.ensures.top) at c.requires in
    let cmp : order c.args.entry c.in-Fork.node.value.entry ≡ Greater = rw (← c.deref.ensures) (sym c.cmp.ensures ∙ c.in-Greater.is) in
    let e = holds_right c.args.entry c.in-Fork.node.value.left c.in-Fork.node.value.entry c.in-Fork.node.value.right (greater_follows c.args.entry c.in-Fork.node.value.entry cmp) s in
    rw c.remove-found-in-Greater.ensures.found (rw c.deref_mut-in-Greater.ensures.value (rw (← c.in-Fork.ensures.top) (sym e)))

pub returns-in-Greater-clause-entries : goal.returns-in-Greater-clause-entries
returns-in-Greater-clause-entries t c =
    let s = rw (← c.in-Fork.ensures.top) at c.requires in
    let cmp : order c.args.entry c.in-Fork.node.value.entry ≡ Greater = rw (← c.deref.ensures) (sym c.cmp.ensures ∙ c.in-Greater.is) in
    let e = erased_right c.args.entry c.in-Fork.node.value.left c.in-Fork.node.value.entry c.in-Fork.node.value.right (greater_follows c.args.entry c.in-Fork.node.value.entry cmp) s in
    rw c.of-in-Greater.ensures (rw c.balanced-in-Greater.ensures (rw c.deref_mut-in-Greater-2.ensures.value (rw c.remove-found-in-Greater.ensures.entries (rw c.deref_mut-in-Greater.ensures.value (rw (← c.in-Fork.ensures.top) (sym e))))))

pub returns-in-Equal-clause-found : goal.returns-in-Equal-clause-found
returns-in-Equal-clause-found t c =
    let cmp : order c.args.entry c.in-Fork.node.value.entry ≡ Equal = rw (← c.deref.ensures) (sym c.cmp.ensures ∙ c.in-Equal.is) in
    rw (← c.in-Fork.ensures.top) (rw (equal_is_same c.args.entry c.in-Fork.node.value.entry cmp) (sym (holds_here c.in-Fork.node.value.entry c.in-Fork.node.value.left c.in-Fork.node.value.right)))

pub returns-in-Equal-clause-entries : goal.returns-in-Equal-clause-entries
returns-in-Equal-clause-entries t c =
    let s = rw (← c.in-Fork.ensures.top) at c.requires in
    let cmp : order c.args.entry c.in-Fork.node.value.entry ≡ Equal = rw (← c.deref.ensures) (sym c.cmp.ensures ∙ c.in-Equal.is) in
    let e = erased_here c.in-Fork.node.value.entry c.in-Fork.node.value.left c.in-Fork.node.value.right s in
    rw (← c.in-Fork.ensures.top) (rw (equal_is_same c.args.entry c.in-Fork.node.value.entry cmp) (rw e (rw c.joined.ensures (rw (c.replace-left.ensures.value, c.replace-right.ensures.value) (rw c.deref_mut-in-Equal-2.ensures.value (rw c.deref_mut-in-Equal.ensures.value))))))
