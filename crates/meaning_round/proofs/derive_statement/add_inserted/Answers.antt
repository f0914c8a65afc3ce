use Rattle.std.proofs.Common.{◌≡◌, ◌++◌, ap, ◌∙◌}
use Rattle.std.proofs.lemmas.Result.{on_ok_weaker}
use Rattle.flow.specs.View.{name_view, outer_view}
use Rattle.meaning_steps.specs.News.{key_in, one_in}
use Rattle.values.specs.declared.value.Value.{Value}
use Rattle.std.specs.Prelude.{Option}
use Rattle.meaning_round.specs.Viewed.{facts_view}
use Rattle.meaning_round.specs.Told.{comes_at, inserted_news}
use Rattle.meaning_round.proofs.Behind.{two_told}
use Rattle.meaning_round.proofs.derive_statement.add_inserted.Goals as goal

pub returns-clause-told : goal.returns-clause-told
returns-clause-told g c =
    let A = g.row.A.Denot in
    let l = c.args.fact_base.now in
    let t = c.args.site in
    let a = name_view c.args.array in
    let i = outer_view {A = A} c.args.index.now in
    let r = outer_view {A = A} c.args.right.now in
    let ns = c.args.fact_base.now.instances.all.items in
    on_ok_weaker c.add_pair.result
    (λ (e : facts_view ns c.add_pair.new.news.items ≡ facts_view ns c.outer_value_after-2.new.news.items ++ inserted_news l t a (key_in c.in_ok-index.index) (one_in c.in_ok-right.right)).
    two_told l t i r (inserted_news l t a (key_in (comes_at l t i.cell)) (one_in (comes_at l t r.cell)))
    (facts_view ns c.args.news.now.items) (facts_view ns c.outer_value_after.new.news.items) (facts_view ns c.outer_value_after-2.new.news.items) (facts_view ns c.add_pair.new.news.items)
    c.in_ok-index.ensures.told c.in_ok-right.ensures.told
    (e ∙ ap (λ (z : Option Value). facts_view ns c.outer_value_after-2.new.news.items ++ inserted_news l t a (key_in z) (one_in c.in_ok-right.right)) c.in_ok-index.ensures.value
    ∙ ap (λ (z : Option Value). facts_view ns c.outer_value_after-2.new.news.items ++ inserted_news l t a (key_in (comes_at l t i.cell)) (one_in z)) c.in_ok-right.ensures.value))
    c.add_pair.ensures.told
