use Rattle.flow.specs.View.{name_view}
use Rattle.meaning_round.proofs.Inside.{write_added}
use Rattle.meaning_round.proofs.derive_statement.add_element.Goals as goal

pub returns-then-not-is_written_by-clause-inside : goal.returns-then-not-is_written_by-clause-inside
returns-then-not-is_written_by-clause-inside c =
    write_added c.args.fact_base.now.instances.all.items c.args.site.instance c.place-place.result _ (name_view c.args.array) c.args.site.node c.in_ok-push.ensures.items c.place-place.ensures.spot c.own_place-then-not-is_written_by.ensures
