use Rattle.std.proofs.Common.{◌≡◌, ◌++◌, ap, ◌∙◌}
use Rattle.std.proofs.lemmas.Result.{on_ok_weaker}
use Rattle.flow.specs.View.{action_view, call_view, parts_view}
use Rattle.language.specs.Parts.{part_cells}
use Rattle.meaning_round.specs.Viewed.{facts_view}
use Rattle.meaning_round.specs.Told.{cells_news}
use Rattle.meaning_round.proofs.Behind.{call_told}
use Rattle.meaning_round.proofs.Views.{view_call}
use Rattle.meaning_round.proofs.derive_statement.add_news.Goals as goal

pub returns-in-Call-clause-told : goal.returns-in-Call-clause-told
returns-in-Call-clause-told g c =
    let A = g.row.A.Denot in
    let l = c.args.fact_base.now in
    let t = c.args.site in
    let ns = c.args.fact_base.now.instances.all.items in
    let seen = ap (action_view {A = A}) c.in-Call.is ∙ view_call A c.in-Call.priority c.in-Call.parts c.in-Call.call in
    on_ok_weaker c.add_parts.result
    (λ (e : facts_view ns c.add_parts.new.news.items ≡ facts_view ns c.args.news.now.items ++ cells_news l t (part_cells (parts_view {A = A} c.in-Call.parts.items))).
    call_told l t (action_view {A = A} c.args.action.now) c.in-Call.priority (parts_view {A = A} c.in-Call.parts.items) (call_view {A = A} c.in-Call.call.value)
    (facts_view ns c.args.news.now.items) (facts_view ns c.add_parts.new.news.items) seen e)
    c.add_parts.ensures.told
