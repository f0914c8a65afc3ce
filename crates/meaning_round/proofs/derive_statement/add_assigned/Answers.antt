use Rattle.flow.specs.View.{name_view}
use Rattle.meaning_round.proofs.Inside.{named_added}
use Rattle.meaning_round.proofs.derive_statement.add_assigned.Goals as goal

pub returns-in_ok-push-clause-inside : goal.returns-in_ok-push-clause-inside
returns-in_ok-push-clause-inside g c = λ h a.
    named_added c.args.fact_base.now.instances.all.items c.args.site.instance c.place-place.result _ (name_view c.args.target) c.in_ok-push.ensures.items c.place-place.ensures.spot h (c.in_ok-value.ensures.inside h a)
