use Rattle.std.proofs.lemmas.Result.{on_ok_weaker}
use Rattle.flow.specs.View.{outer_view}
use Rattle.meaning_round.proofs.Reading.{outer_read}
use Rattle.meaning_round.proofs.reads.add_outer.Goals as goal

pub returns : goal.returns
returns g c = on_ok_weaker c.add_cell.result
    (λ e. outer_read c.args.fact_base.now c.args.site (outer_view {A = g.row.A.Denot} c.args.outer.now) c.args.events.now.items c.add_parts.new.events.items c.add_cell.new.events.items c.in_ok-add_parts.ensures e)
    c.add_cell.ensures
