use Rattle.std.proofs.Common.{sym, ◌∙◌}
use Rattle.explain_warnings.specs.Ways.{in_rows, meet}
use Rattle.explain_warnings.proofs.Bits.{found_below, none_below}
use Rattle.explain_warnings.proofs.mistakes.rows.meets_below.Goals as goal

pub returns-then-meets : goal.returns-then-meets
returns-then-meets c =
    found_below (meet (in_rows c.args.rows.now) c.args.i) c.args.count c.loop-k.k c.loop-k-test.true (sym c.meets.ensures ∙ c.if-meets.true)

pub returns : goal.returns
returns c = none_below (meet (in_rows c.args.rows.now) c.args.i) c.args.count c.loop-k.k c.loop-k-test.false c.loop-k.invariant
