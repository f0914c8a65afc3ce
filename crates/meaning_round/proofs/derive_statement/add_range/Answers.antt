use Rattle.std.proofs.Common.{◌≡◌, ◌++◌, [], Some}
use Rattle.std.proofs.lemmas.Result.{on_ok_weaker}
use Rattle.meaning_steps.specs.News.{with_value}
use Rattle.meaning_invariants.specs.Held.{StayInside}
use Rattle.meaning_round.specs.Viewed.{facts_view}
use Rattle.meaning_round.specs.Told.{range_news}
use Rattle.meaning_round.proofs.Ranges.{range_stepped, range_between}
use Rattle.meaning_round.proofs.derive_statement.add_range.Goals as goal

pub returns-in_ok-step-in-Some-clause-told : goal.returns-in_ok-step-in-Some-clause-told
returns-in_ok-step-in-Some-clause-told g c =
    let l = c.args.fact_base.now in
    let t = c.args.site in
    let ns = c.args.fact_base.now.instances.all.items in
    on_ok_weaker c.add_stepped.result
    (λ (e : facts_view ns c.add_stepped.new.news.items ≡ facts_view ns c.outer_value_after-in-Some.new.news.items ++ range_news l t (with_value c.in_ok-low.low (with_value c.in_ok-high.high (with_value c.in_ok-step-in-Some.step (Some []))))).
    range_stepped g.row.A.Denot l t c.args.range.now c.in-Some.step c.in_ok-low.low c.in_ok-high.high c.in_ok-step-in-Some.step
    (facts_view ns c.args.news.now.items) (facts_view ns c.outer_value_after.new.news.items) (facts_view ns c.outer_value_after-2.new.news.items) (facts_view ns c.outer_value_after-in-Some.new.news.items) (facts_view ns c.add_stepped.new.news.items)
    c.in-Some.is c.in_ok-low.ensures.value c.in_ok-high.ensures.value c.in_ok-step-in-Some.ensures.value
    c.in_ok-low.ensures.told c.in_ok-high.ensures.told c.in_ok-step-in-Some.ensures.told e)
    c.add_stepped.ensures.told

pub returns-in-None-clause-told : goal.returns-in-None-clause-told
returns-in-None-clause-told g c =
    let l = c.args.fact_base.now in
    let t = c.args.site in
    let ns = c.args.fact_base.now.instances.all.items in
    on_ok_weaker c.add_between.result
    (λ (e : facts_view ns c.add_between.new.news.items ≡ facts_view ns c.outer_value_after-2.new.news.items ++ range_news l t (with_value c.in_ok-low.low (with_value c.in_ok-high.high (Some [])))).
    range_between g.row.A.Denot l t c.args.range.now c.in_ok-low.low c.in_ok-high.high
    (facts_view ns c.args.news.now.items) (facts_view ns c.outer_value_after.new.news.items) (facts_view ns c.outer_value_after-2.new.news.items) (facts_view ns c.add_between.new.news.items)
    c.in-None.is c.in_ok-low.ensures.value c.in_ok-high.ensures.value
    c.in_ok-low.ensures.told c.in_ok-high.ensures.told e)
    c.add_between.ensures.told

pub returns-in_ok-step-in-Some-clause-inside : goal.returns-in_ok-step-in-Some-clause-inside
returns-in_ok-step-in-Some-clause-inside g c =
    let ns = c.args.fact_base.now.instances.all.items in
    let i = c.args.site.instance in
    on_ok_weaker c.add_stepped.result
    (λ (e : StayInside ns i c.outer_value_after-in-Some.new.news.items c.add_stepped.new.news.items) h a. e h (c.in_ok-step-in-Some.ensures.inside h (c.in_ok-high.ensures.inside h (c.in_ok-low.ensures.inside h a))))
    c.add_stepped.ensures.inside

pub returns-in-None-clause-inside : goal.returns-in-None-clause-inside
returns-in-None-clause-inside g c =
    let ns = c.args.fact_base.now.instances.all.items in
    let i = c.args.site.instance in
    on_ok_weaker c.add_between.result
    (λ (e : StayInside ns i c.outer_value_after-2.new.news.items c.add_between.new.news.items) h a. e h (c.in_ok-high.ensures.inside h (c.in_ok-low.ensures.inside h a))) c.add_between.ensures.inside
