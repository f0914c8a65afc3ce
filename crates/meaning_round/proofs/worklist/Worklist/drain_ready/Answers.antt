use Rattle.std.proofs.Common.{rules, arith, ◌≡◌, ◌<◌, ◌++◌, ◌∷◌, []}
use Rattle.std.proofs.lemmas.Grind.{common_steps}
use Rattle.meaning_round.specs.Hearing.{numbers_of}
use Rattle.meaning_round.proofs.Called.{counted_next}
use Rattle.meaning_round.proofs.worklist.Worklist.drain_ready.Goals as goal

pub loop-number-preserved : goal.loop-number-preserved
loop-number-preserved c =
    let below : c.loop-number.number < c.args.count = grind (arith, common_steps) in
    let pushed : c.push.new.self.items ≡ c.loop-number.self.awake.items ++ c.loop-number.number ∷ [] = search rules in
    record {
      awake = counted_next c.loop-number.self.awake.items c.push.new.self.items (numbers_of c.args.self.now c.args.count) c.loop-number.number c.args.count below pushed c.loop-number.invariant.awake;
      asleep = c.loop-number.invariant.asleep;
      called = c.loop-number.invariant.called;
    }
