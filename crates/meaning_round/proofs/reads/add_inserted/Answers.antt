use Rattle.std.proofs.Common.{◌++◌, ap, ◌∙◌}
use Rattle.std.proofs.lemmas.Result.{on_ok_weaker}
use Rattle.flow.specs.View.{name_view, outer_view}
use Rattle.meaning_facts.specs.declared.facts.Place.{Place}
use Rattle.meaning_facts.specs.Store.{value_at}
use Rattle.meaning_round.specs.Reads.{here, inserted_reads, lies}
use Rattle.meaning_round.proofs.Reading.{two_read}
use Rattle.meaning_round.proofs.reads.add_inserted.Goals as goal

pub returns : goal.returns
returns g c =
    let A = g.row.A.Denot in
    let l = c.args.fact_base.now in
    on_ok_weaker c.add_key.result
    (λ e. two_read l c.args.site (outer_view {A = A} c.args.index.now) (outer_view {A = A} c.args.right.now)
    (inserted_reads (lies l c.args.site.instance (name_view c.args.array)) (value_at l.facts (here c.args.site.instance c.args.index.now.cell.node)))
    c.args.events.now.items c.add_outer.new.events.items c.add_outer-2.new.events.items c.add_key.new.events.items c.in_ok-add_outer.ensures c.in_ok-add_outer-2.ensures
    (e ∙ ap (λ (z : Place). c.add_outer-2.new.events.items ++ inserted_reads z (value_at l.facts c.place.result)) c.place-place.ensures.spot
    ∙ ap (λ (z : Place). c.add_outer-2.new.events.items ++ inserted_reads (lies l c.args.site.instance (name_view c.args.array)) (value_at l.facts z)) c.place.ensures))
    c.add_key.ensures
