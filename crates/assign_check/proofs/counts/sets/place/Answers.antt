use Rattle.std.proofs.Common.{◌≡◌, length, cond, nat_eq, ap, ◌∙◌, arith}
use Rattle.std.proofs.lemmas.Grind.{common_steps}
use Rattle.assign_check.specs.Sets.{items_or}
use Rattle.assign_check.proofs.counting.Placed.{got_put, got_added, got_padded}
use Rattle.assign_check.proofs.counts.sets.place.Goals as goal

pub loop-preserved : goal.loop-preserved
loop-preserved c = record {
  as_before = λ other. got_padded items_or c.new.result c.loop.sets.items c.push.new.self.items other c.new.ensures.items c.in_ok-push.ensures.items ∙ c.loop.invariant.as_before other;
  counted = grind (arith, common_steps);
}

pub returns-then-number-len : goal.returns-then-number-len
returns-then-number-len c = λ other.
    got_put items_or c.args.set c.loop.sets.items c.args.number other (omega arith)
    ∙ ap (cond (nat_eq c.args.number other) c.args.set.items) (c.loop.invariant.as_before other)

pub returns-in_ok-push-2 : goal.returns-in_ok-push-2
returns-in_ok-push-2 c = λ other.
    let many : length c.loop.sets.items ≡ c.args.number = omega arith in
    got_added items_or c.args.set c.loop.sets.items c.push-else-number-len.new.self.items c.args.number other many c.in_ok-push-2.ensures.items
    ∙ ap (cond (nat_eq c.args.number other) c.args.set.items) (c.loop.invariant.as_before other)
