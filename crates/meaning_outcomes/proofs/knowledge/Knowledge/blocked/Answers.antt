use Rattle.std.proofs.lemmas.Result.{IfOk-weaker}
use Rattle.meaning_outcomes.proofs.Views.{blocked_read}
use Rattle.meaning_outcomes.proofs.knowledge.Knowledge.blocked.Goals as goal

pub returns : goal.returns
returns c = IfOk-weaker c.in_order.result _ _ (λ bs l. λ s h. blocked_read s c.args.self.now h c.in_ok-all_blocked.field-0.items bs.items c.in_ok-all_blocked.ensures l) c.in_order.ensures
