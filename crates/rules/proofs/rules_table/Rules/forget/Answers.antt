use Rattle.std.proofs.Common.{arith, refl, sym, ◌∙◌}
use Rattle.rules.specs.Waiting.{without_item}
use Rattle.rules.specs.Slots.{unless_item}
use Rattle.rules.proofs.Settling.{all_settled}
use Rattle.rules.proofs.Learning.{unless_twice, without_cons, busy_unless}
use Rattle.rules.proofs.Noting.{busy_shrinks, noted_shrinks, needs_unless}
use Rattle.rules.proofs.Counting.{length_present}
use Rattle.rules.proofs.rules_table.Rules.forget.Goals as goal

pub invariant_of-self : goal.invariant_of-self
invariant_of-self c =
    let x = c.args.item in
    let old = c.self.inside.waiters.slots in
    let new = c.leave_all.new.waiters.slots in
    let after = c.leave_all.ensures in
    let kept = c.self.invariant in
    record {
      used = omega (arith, kept.used, after.fewer);
      has_place = rw after.capacity kept.has_place;
      place = kept.place;
      busy = busy_shrinks (unless_item x) (busy_unless x) old new after.shrinks kept.busy;
      noted = noted_shrinks (unless_item x) (needs_unless x) c.self.inside.places old new after.shrinks kept.noted;
    }

pub returns-clause-waiting : goal.returns-clause-waiting
returns-clause-waiting c =
    let x = c.args.item in
    let after = c.leave_all.ensures in
    rw (← c.self.view_is) (sym (all_settled (unless_item x) (unless_twice x) refl (without_item x) refl (without_cons x) c.leave_all.new.waiters.slots after.settled) ∙ after.others)

pub returns-clause-room : goal.returns-clause-room
returns-clause-room c =
    rw (← c.self.view_is) (omega (arith, c.self.invariant.used, length_present c.self.inside.waiters.slots, length_present c.leave_all.new.waiters.slots, c.leave_all.ensures.fewer))
