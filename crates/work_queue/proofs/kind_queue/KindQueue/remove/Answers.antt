use Rattle.std.proofs.Common.{◌≡◌, true, false, arith, sym, ◌∙◌}
use Rattle.std.specs.Vec.{vec_len}
use Rattle.work_queue.specs.Entries.{holds}
use Rattle.work_queue.specs.Merged.{merged}
use Rattle.work_queue.proofs.InOrder.{in_order_erased, length_erased, erased_absent, holds_exactly}
use Rattle.work_queue.proofs.Merging.{held_first, held_second, held_nowhere}
use Rattle.work_queue.proofs.Sharing.{removed_from_run, removed_from_tree}
use Rattle.work_queue.proofs.kind_queue.KindQueue.remove.Goals as goal

pub invariant_of-self : goal.invariant_of-self
invariant_of-self c =
    let gone = length_erased c.args.entry c.self.inside.run (sym c.if-remove.ensures.found) in
    rw c.if-remove.ensures.entries (record {
      kept = c.self.invariant.kept;
      in_order = in_order_erased c.args.entry c.self.inside.run c.self.invariant.in_order;
      has_nodes = omega (arith, c.self.invariant.has_nodes, gone);
    })

pub returns-then-remove-clause-found : goal.returns-then-remove-clause-found
returns-then-remove-clause-found c =
    let there : holds c.args.entry (merged c.self.inside.tree c.self.inside.run) ≡ true = held_second c.args.entry c.self.inside.tree c.self.inside.run (sym c.if-remove.ensures.found) in
    rw (← c.self.view_is) (rw there at (holds_exactly c.args.entry (merged c.self.inside.tree c.self.inside.run)))

pub returns-then-remove-clause-removed : goal.returns-then-remove-clause-removed
returns-then-remove-clause-removed c =
    rw (← c.self.view_is, c.if-remove.ensures.entries) (removed_from_run c.args.entry c.self.inside.tree c.self.inside.run (vec_len c.self.inside.spare) c.self.invariant.in_order c.self.invariant.has_nodes (sym c.if-remove.ensures.found))

pub invariant_of-self-in-None : goal.invariant_of-self-in-None
invariant_of-self-in-None c =
    let run_same : c.remove.new.self ≡ c.self.inside.run = c.if-remove.ensures.entries ∙ erased_absent c.args.entry c.self.inside.run (sym c.if-remove.ensures.found) in
    let tree_same : c.remove-2.new.self ≡ c.self.inside.tree = c.in-None.ensures.entries ∙ erased_absent c.args.entry c.self.inside.tree (sym c.in-None.ensures.found) in
    rw (run_same, tree_same) c.self.invariant

pub returns-in-None-clause-found : goal.returns-in-None-clause-found
returns-in-None-clause-found c =
    let away : holds c.args.entry (merged c.self.inside.tree c.self.inside.run) ≡ false = held_nowhere c.args.entry c.self.inside.tree c.self.inside.run (sym c.in-None.ensures.found) (sym c.if-remove.ensures.found) in
    rw (← c.self.view_is) (rw away at (holds_exactly c.args.entry (merged c.self.inside.tree c.self.inside.run)))

pub returns-in-None-clause-absent : goal.returns-in-None-clause-absent
returns-in-None-clause-absent c =
    let run_same : c.remove.new.self ≡ c.self.inside.run = c.if-remove.ensures.entries ∙ erased_absent c.args.entry c.self.inside.run (sym c.if-remove.ensures.found) in
    let tree_same : c.remove-2.new.self ≡ c.self.inside.tree = c.in-None.ensures.entries ∙ erased_absent c.args.entry c.self.inside.tree (sym c.in-None.ensures.found) in
    rw (run_same, tree_same) c.self.view_is

pub invariant_of-self-in-Some : goal.invariant_of-self-in-Some
invariant_of-self-in-Some c =
    let run_same : c.remove.new.self ≡ c.self.inside.run = c.if-remove.ensures.entries ∙ erased_absent c.args.entry c.self.inside.run (sym c.if-remove.ensures.found) in
    let tree = c.self.inside.tree in
    let kept = c.self.invariant.kept in
    let gone = length_erased c.args.entry tree (sym c.in-Some.ensures.found) in
    rw (run_same, c.in-Some.ensures.entries) (record {
      kept = record {
        in_order = in_order_erased c.args.entry tree kept.in_order;
        counted = omega (arith, kept.counted, gone);
        has_place = omega (arith, kept.counted, kept.has_place, gone, c.push_reserved.ensures.len, c.push_reserved.ensures.capacity);
      };
      in_order = c.self.invariant.in_order;
      has_nodes = omega (arith, c.self.invariant.has_nodes, c.push_reserved.ensures.len);
    })

pub returns-in-Some-clause-found : goal.returns-in-Some-clause-found
returns-in-Some-clause-found c =
    let there : holds c.args.entry (merged c.self.inside.tree c.self.inside.run) ≡ true = held_first c.args.entry c.self.inside.tree c.self.inside.run (sym c.in-Some.ensures.found) in
    rw (← c.self.view_is) (rw there at (holds_exactly c.args.entry (merged c.self.inside.tree c.self.inside.run)))

pub returns-in-Some-clause-removed : goal.returns-in-Some-clause-removed
returns-in-Some-clause-removed c =
    let run_same : c.remove.new.self ≡ c.self.inside.run = c.if-remove.ensures.entries ∙ erased_absent c.args.entry c.self.inside.run (sym c.if-remove.ensures.found) in
    rw (← c.self.view_is, run_same, c.in-Some.ensures.entries, c.push_reserved.ensures.len) (removed_from_tree c.args.entry c.self.inside.tree c.self.inside.run (vec_len c.self.inside.spare) c.self.invariant.kept.in_order c.self.invariant.in_order c.self.invariant.has_nodes (sym c.in-Some.ensures.found))
