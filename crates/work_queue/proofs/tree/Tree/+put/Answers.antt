use Rattle.std.proofs.Common.{arith, ◌≡◌, true, false, sym, ◌∙◌}
use Rattle.work_queue.specs.Order.{precedes}
use Rattle.work_queue.proofs.InOrder.{in_order_left, in_order_right, inserted_left, inserted_right, left_shorter, right_shorter}
use Rattle.work_queue.proofs.tree.Tree.+put.Goals as goal
use Rattle.work_queue.proofs.tree.Tree.+put.Goals.{then-precedes, else-precedes}

pub put-requires : goal.put-requires
put-requires t c =
    let s = rw (← c.in-Fork.ensures.top) at c.requires in
    (rw c.deref_mut-then-precedes.ensures.value (omega (arith, c.decreases, left_shorter _ _ _ _ c.in-Fork.ensures.top)), rw c.deref_mut-then-precedes.ensures.value (in_order_left _ _ _ s))

pub put-requires-else-precedes : goal.put-requires-else-precedes
put-requires-else-precedes t c =
    let s = rw (← c.in-Fork.ensures.top) at c.requires in
    (rw c.deref_mut-else-precedes.ensures.value (omega (arith, c.decreases, right_shorter _ _ _ _ c.in-Fork.ensures.top)), rw c.deref_mut-else-precedes.ensures.value (in_order_right _ _ _ s))

pub returns-after-precedes : goal.returns-after-precedes
returns-after-precedes t c =
    let s = rw (← c.in-Fork.ensures.top) at c.requires in
    elim c.if-precedes.branch [
      | then-precedes w ↦
          let before : precedes c.args.entry c.in-Fork.node.value.entry ≡ true = rw (← c.deref.ensures) (sym c.precedes.ensures ∙ w.if-precedes.true) in
          let e = inserted_left c.args.entry c.in-Fork.node.value.left c.in-Fork.node.value.entry c.in-Fork.node.value.right before in
          rw c.of-in-Fork.ensures (rw c.balanced.ensures (rw w.node-is (rw w.deref_mut-then-precedes-2.ensures.value (rw w.put.ensures (rw w.deref_mut-then-precedes.ensures.value (rw (← c.in-Fork.ensures.top) (sym e)))))))
      | else-precedes w ↦
          let before : precedes c.args.entry c.in-Fork.node.value.entry ≡ false = rw (← c.deref.ensures) (sym c.precedes.ensures ∙ w.if-precedes.false) in
          let e = inserted_right c.args.entry c.in-Fork.node.value.left c.in-Fork.node.value.entry c.in-Fork.node.value.right before s in
          rw c.of-in-Fork.ensures (rw c.balanced.ensures (rw w.node-is (rw w.deref_mut-else-precedes-2.ensures.value (rw w.put-else-precedes.ensures (rw w.deref_mut-else-precedes.ensures.value (rw (← c.in-Fork.ensures.top) (sym e)))))))
    ]
