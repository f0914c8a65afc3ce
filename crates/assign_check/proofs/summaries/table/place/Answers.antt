use Rattle.std.proofs.Common.{◌≡◌, length, cond, nat_eq, refl, ap, ◌∙◌, arith}
use Rattle.std.proofs.lemmas.Grind.{common_steps}
use Rattle.assign_check.specs.Tables.{or_empty}
use Rattle.assign_check.proofs.counting.Placed.{got_put, got_added, got_padded}
use Rattle.assign_check.proofs.summaries.table.place.Goals as goal

pub loop-preserved : goal.loop-preserved
loop-preserved g c = record {
  as_before = λ other. got_padded (or_empty c.args.empty) c.args.empty c.loop.values.items c.push.new.self.items other refl c.in_ok-push.ensures.items ∙ c.loop.invariant.as_before other;
  counted = grind (arith, common_steps);
}

pub returns-then-number-len-clause-set : goal.returns-then-number-len-clause-set
returns-then-number-len-clause-set g c = λ other.
    got_put (or_empty c.args.empty) c.args.value c.loop.values.items c.args.number other (omega arith)
    ∙ ap (cond (nat_eq c.args.number other) c.args.value) (c.loop.invariant.as_before other)

pub returns-in_ok-push-2-clause-set : goal.returns-in_ok-push-2-clause-set
returns-in_ok-push-2-clause-set g c = λ other.
    let many : length c.loop.values.items ≡ c.args.number = omega arith in
    got_added (or_empty c.args.empty) c.args.value c.loop.values.items c.push-else-number-len.new.self.items c.args.number other many c.in_ok-push-2.ensures.items
    ∙ ap (cond (nat_eq c.args.number other) c.args.value) (c.loop.invariant.as_before other)
