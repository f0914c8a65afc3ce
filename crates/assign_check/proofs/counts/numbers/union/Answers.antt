use Rattle.std.proofs.Common.{◌≡◌, ◌++◌, ◌||◌, length, sym, ap, ◌∙◌, arith}
use Rattle.std.proofs.lemmas.Grind.{common_steps}
use Rattle.assign_check.specs.Faults.{is_in}
use Rattle.assign_check.specs.Sets as sets
use Rattle.assign_check.proofs.counting.Sums.{has_either, pushed_filled, all_filled}
use Rattle.assign_check.proofs.counts.numbers.union.Goals as goal
use Rattle.assign_check.proofs.counts.numbers.union.Goals.{then-has, else-has}

pub loop-number-preserved : goal.loop-number-preserved
loop-number-preserved c =
    let either : c.if-has.push ≡ (sets.has c.args.one.now c.loop-number.number || sets.has c.args.other.now c.loop-number.number) = elim c.if-has.branch [
      | then-has w ↦ grind (arith, common_steps)
      | else-has w ↦ grind (arith, common_steps)
    ] in
    let here : c.if-has.push ≡ is_in (length c.loop-number.set.items) (sets.numbers c.args.one.now ++ sets.numbers c.args.other.now) =
    either ∙ ap (λ n. sets.has c.args.one.now n || sets.has c.args.other.now n) (sym c.loop-number.invariant.long) ∙ has_either c.args.one.now c.args.other.now (length c.loop-number.set.items) in
    record {
      filled = pushed_filled c.loop-number.set.items c.push.new.self.items c.if-has.push (sets.numbers c.args.one.now ++ sets.numbers c.args.other.now) c.in_ok-push.ensures.items c.loop-number.invariant.filled here;
      long = grind (arith, common_steps);
    }

pub returns : goal.returns
returns c =
    all_filled c.args.one.now c.args.other.now c.loop-number.set.items c.longer-number-end.result c.longer-number-end.ensures.one c.longer-number-end.ensures.other
    (omega (arith, c.loop-number.invariant.long, c.loop-number-test.false, c.loop-number.auto.number-end)) c.loop-number.invariant.filled
