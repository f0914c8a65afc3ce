use Rattle.std.proofs.Common.{sym, ◌∙◌, arith}
use Rattle.assign_check.proofs.counting.Sums.{found_sum, no_sum}
use Rattle.assign_check.proofs.counts.numbers.adds_up.Goals as goal

pub returns-then-has-2 : goal.returns-then-has-2
returns-then-has-2 c =
    found_sum c.args.one.now c.args.other.now c.args.number c.loop-part.part (omega (arith, c.if-part-number.true)) (sym c.has.ensures ∙ c.if-has.true) (sym c.has-then-has.ensures ∙ c.if-has-2.true)

pub returns : goal.returns
returns c = no_sum c.args.one.now c.args.other.now c.args.number (λ i below. c.loop-part.invariant i (omega (arith, below, c.loop-part-test.false)))
