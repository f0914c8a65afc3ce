use Rattle.meaning_round.proofs.Heard.{heard_learned}
use Rattle.meaning_round.proofs.derive.learn_one.Goals as goal

pub returns-clause-heard : goal.returns-clause-heard
returns-clause-heard c = λ ls h.
    heard_learned c.args.fact_base.now ls c.args.worklist.now c.wake_readers.new.worklist c.args.fact c.add.new.self c.in_ok-wake_readers.ensures c.in_ok-add.ensures.added h
