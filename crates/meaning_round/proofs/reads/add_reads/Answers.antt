use Rattle.std.proofs.Common.{ap, ◌∙◌}
use Rattle.std.proofs.lemmas.Result.{on_ok_weaker}
use Rattle.flow.specs.View.{action_view, call_view, parts_view}
use Rattle.meaning_round.proofs.Reading.{call_read}
use Rattle.meaning_round.proofs.Views.{view_call}
use Rattle.meaning_round.proofs.reads.add_reads.Goals as goal

pub returns-in-Call : goal.returns-in-Call
returns-in-Call g c =
    let A = g.row.A.Denot in
    let seen = ap (action_view {A = A}) c.in-Call.is ∙ view_call A c.in-Call.priority c.in-Call.parts c.in-Call.call in
    on_ok_weaker c.add_parts.result
    (λ e. call_read c.args.fact_base.now c.args.site (action_view {A = A} c.args.action.now) c.in-Call.priority (parts_view {A = A} c.in-Call.parts.items) (call_view {A = A} c.in-Call.call.value)
    c.args.events.now.items c.add_parts.new.events.items seen e)
    c.add_parts.ensures
