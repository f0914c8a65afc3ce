use Rattle.std.proofs.Common.{arith, ◌≤◌, ◌++◌, length, refl, sym, ap, subst, ◌∙◌}
use Rattle.std.specs.List.Sorted.{IsPermutation}
use Rattle.std.proofs.lemmas.List.{append-nil, length-append}
use Rattle.rules.specs.Waiting.{still_waiting, woken}
use Rattle.rules.specs.Slots.{after_slot, present}
use Rattle.slab.specs.Slab.{slab_len}
use Rattle.rules.proofs.Settling.{all_settled}
use Rattle.rules.proofs.Learning.{after_twice, still_cons, woken_clean, busy_after, each_misses}
use Rattle.rules.proofs.Noting.{busy_shrinks}
use Rattle.rules.proofs.Counting.{length_present}
use Rattle.rules.proofs.rules_table.Rules.known.Goals as goal

pub wake-requires-clause-room : goal.wake-requires-clause-room
wake-requires-clause-room c =
    omega (arith, rw (← c.self.view_is) at c.requires, length_present c.self.inside.waiters.slots)

pub invariant_of-self : goal.invariant_of-self
invariant_of-self c =
    let i = c.args.input.now in
    let old = c.self.inside.waiters.slots in
    let new = c.wake.new.waiters.slots in
    let after = c.wake.ensures in
    let fewer : slab_len c.wake.new.waiters ≤ slab_len c.self.inside.waiters = omega (arith, c.wake.ensures.balance, c.wake.new.out.ok.0, c.args.out.now.ok.0, ap length c.wake.ensures.learnt.is, length-append c.args.out.now.items c.wake.ensures.learnt.said) in
    record {
      used = omega (arith, c.self.invariant.used, fewer);
      has_place = rw after.capacity c.self.invariant.has_place;
      place = rw after.place c.self.invariant.place;
      busy = busy_shrinks (after_slot i) (λ o h. busy_after i o) old new after.shrinks c.self.invariant.busy;
      noted = after.noted;
    }

pub returns-clause-waiting : goal.returns-clause-waiting
returns-clause-waiting c =
    let i = c.args.input.now in
    let after = c.wake.ensures in
    rw (← c.self.view_is) (sym (all_settled (after_slot i) (after_twice i) refl (still_waiting i) refl (still_cons i) c.wake.new.waiters.slots after.settled) ∙ after.learnt.still)

pub returns-clause-listed : goal.returns-clause-listed
returns-clause-listed c =
    let i = c.args.input.now in
    let learnt = c.wake.ensures.learnt in
    let all = ap (λ l. learnt.said ++ l) (woken_clean i c.wake.new.waiters.slots c.wake.ensures.settled) ∙ append-nil learnt.said in
    rw (← c.self.view_is) (record { said = learnt.said; is = learnt.is; all = subst (λ l. IsPermutation (woken i (present c.self.inside.waiters.slots)) l) all learnt.told })

pub returns-clause-room : goal.returns-clause-room
returns-clause-room c =
    let fewer : slab_len c.wake.new.waiters ≤ slab_len c.self.inside.waiters = omega (arith, c.wake.ensures.balance, c.wake.new.out.ok.0, c.args.out.now.ok.0, ap length c.wake.ensures.learnt.is, length-append c.args.out.now.items c.wake.ensures.learnt.said) in
    rw (← c.self.view_is) (omega (arith, c.self.invariant.used, length_present c.self.inside.waiters.slots, length_present c.wake.new.waiters.slots, fewer))

pub returns-clause-each_missed : goal.returns-clause-each_missed
returns-clause-each_missed c = rw (← c.self.view_is) (each_misses c.self.inside.waiters.slots c.self.invariant.busy)
