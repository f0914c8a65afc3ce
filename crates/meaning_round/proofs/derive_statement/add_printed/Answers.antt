use Rattle.meaning_round.proofs.Inside.{line_added}
use Rattle.meaning_round.proofs.derive_statement.add_printed.Goals as goal

pub returns-in_ok-push-clause-inside : goal.returns-in_ok-push-clause-inside
returns-in_ok-push-clause-inside g c = λ h a.
    line_added c.args.fact_base.now.instances.all.items c.args.site.instance _ _ c.args.site.node c.in_ok-push.ensures.items c.own_place-then-is_none.ensures h (c.in_ok-alloc.ensures.inside h a)
