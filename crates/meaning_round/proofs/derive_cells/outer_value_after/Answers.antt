use Rattle.std.proofs.Common.{◌≡◌, ◌++◌}
use Rattle.std.proofs.lemmas.Result.{on_ok_weaker}
use Rattle.flow.specs.View.{cell_view, parts_view}
use Rattle.meaning_invariants.specs.Held.{StayInside}
use Rattle.meaning_round.specs.Viewed.{facts_view}
use Rattle.meaning_round.specs.Faults.{sight_at, past_at, path_at}
use Rattle.meaning_round.specs.Told.{cell_news}
use Rattle.meaning_round.proofs.Behind.{outer_told}
use Rattle.meaning_round.proofs.derive_cells.outer_value_after.Goals as goal

pub returns-clause-told : goal.returns-clause-told
returns-clause-told g c =
    let A = g.row.A.Denot in
    let l = c.args.fact_base.now in
    let t = c.args.site in
    let ns = c.args.fact_base.now.instances.all.items in
    on_ok_weaker c.cell_value_after.result
    (λ (e : facts_view ns c.cell_value_after.new.news.items ≡ facts_view ns c.add_parts.new.news.items ++ cell_news l t (cell_view {A = A} c.args.outer.now.cell)).
    outer_told (sight_at l t) (past_at l t) (path_at l t) t.at (parts_view {A = A} c.args.outer.now.parts.items) (cell_view {A = A} c.args.outer.now.cell)
    (facts_view ns c.args.news.now.items) (facts_view ns c.add_parts.new.news.items) (facts_view ns c.cell_value_after.new.news.items)
    c.in_ok-add_parts.ensures.told e)
    c.cell_value_after.ensures.told

pub returns-clause-inside : goal.returns-clause-inside
returns-clause-inside g c =
    let ns = c.args.fact_base.now.instances.all.items in
    let i = c.args.site.instance in
    on_ok_weaker c.cell_value_after.result (λ (e : StayInside ns i c.add_parts.new.news.items c.cell_value_after.new.news.items) h a. e h (c.in_ok-add_parts.ensures.inside h a)) c.cell_value_after.ensures.inside
