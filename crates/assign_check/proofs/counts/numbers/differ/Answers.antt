use Rattle.std.proofs.Common.{sym, ◌∙◌, arith}
use Rattle.assign_check.proofs.counting.Sums.{found_other, no_other, bools_apart}
use Rattle.assign_check.proofs.counts.numbers.differ.Goals as goal

pub returns-then-has : goal.returns-then-has
returns-then-has c =
    found_other c.args.one.now c.args.other.now c.loop-number.number (λ same. bools_apart c.has.result c.has-in-loop-number.result c.if-has.true (c.has.ensures ∙ same ∙ sym c.has-in-loop-number.ensures))

pub returns : goal.returns
returns c =
    no_other c.args.one.now c.args.other.now c.longer-number-end.result c.longer-number-end.ensures.one c.longer-number-end.ensures.other
    (λ n below. c.loop-number.invariant n (omega (arith, below, c.loop-number-test.false)))
