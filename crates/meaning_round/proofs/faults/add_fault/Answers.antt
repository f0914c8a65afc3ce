use Rattle.meaning_round.proofs.FaultsInside.{fault_added}
use Rattle.meaning_round.proofs.faults.add_fault.Goals as goal

pub returns-in_ok-push-clause-inside : goal.returns-in_ok-push-clause-inside
returns-in_ok-push-clause-inside c = fault_added c.args.fact_base.now.instances.all.items c.args.site.instance _ c.args.node c.in_ok-push.ensures.items c.place.ensures
