use Rattle.std.proofs.lemmas.Result.{IfOk-weaker}
use Rattle.meaning_outcomes.proofs.Views.{faults_read}
use Rattle.meaning_outcomes.proofs.knowledge.Knowledge.faults.Goals as goal

pub returns : goal.returns
returns c = IfOk-weaker c.faults_in_order.result _ _ (λ fs l. λ s h. faults_read s c.args.self.now h c.in_ok-all_faults.field-0.items fs.items c.in_ok-all_faults.ensures l) c.faults_in_order.ensures
