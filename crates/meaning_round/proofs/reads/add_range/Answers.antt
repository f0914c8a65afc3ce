use Rattle.std.proofs.lemmas.Result.{on_ok_weaker}
use Rattle.meaning_round.proofs.Reading.{range_read}
use Rattle.meaning_round.proofs.reads.add_range.Goals as goal

pub returns : goal.returns
returns g c = on_ok_weaker c.add_step.result
    (λ e. range_read {A = g.row.A.Denot} c.args.fact_base.now c.args.site c.args.range.now c.args.events.now.items c.add_outer.new.events.items c.add_outer-2.new.events.items c.add_step.new.events.items
    c.in_ok-add_outer.ensures c.in_ok-add_outer-2.ensures e)
    c.add_step.ensures
