use Rattle.std.proofs.Common.{◌∙◌}
use Rattle.emit_statements.proofs.Numbers.{none_counted, numbered_all, one_counted, small_fits}
use Rattle.emit_statements.proofs.block_builder.add_numbers.Goals as goal

pub loop-number-init : goal.loop-number-init
loop-number-init c low high = none_counted c.args.from c.args.numbers.now.items

pub loop-number-preserved : goal.loop-number-preserved
loop-number-preserved c low high =
    one_counted c.args.from c.loop-number.number c.small.result c.args.numbers.now.items c.loop-number.numbers.items c.push.new.self.items c.loop-number.auto.number
    (c.small.ensures (small_fits c.loop-number.number c.args.to c.loop-number-test.true high)) (c.loop-number.invariant low high) c.in_ok-push.ensures.items

pub returns : goal.returns
returns c low high = c.loop-number.invariant low high ∙ numbered_all c.args.from c.args.to c.loop-number.number c.args.numbers.now.items (c.loop-number.auto.number-end low) c.loop-number-test.false
