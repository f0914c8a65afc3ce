use Rattle.std.proofs.Common.{◌≡◌, ◌<◌, ◌++◌, length, get_or, ap, ◌∙◌, rules, arith}
use Rattle.values.specs.declared.key.Key.{Key}
use Rattle.values.specs.declared.map.Element.{Element}
use Rattle.flow.specs.View.{name_view}
use Rattle.meaning_round.specs.Viewed.{facts_view}
use Rattle.meaning_round.specs.Told.{element_news}
use Rattle.meaning_round.proofs.Steps.{elements_step}
use Rattle.meaning_round.proofs.derive_statement.add_elements.Goals as goal

pub loop-element-preserved : goal.loop-element-preserved
loop-element-preserved c =
    let l = c.args.fact_base.now in
    let t = c.args.site in
    let a = name_view c.args.array in
    let ns = c.args.fact_base.now.instances.all.items in
    let within : c.loop-element.element-index < length c.args.elements.now = grind arith in
    let item : c.element-item.result ≡ get_or c.args.elements.now c.loop-element.element-index c.element-item.result = search rules in
    record {
      told = elements_step l t a c.args.elements.now c.loop-element.element-index c.element-item.result
          (facts_view ns c.args.news.now.items) (facts_view ns c.loop-element.news.items) (facts_view ns c.add_element.new.news.items)
          within c.loop-element.invariant.told
          (c.in_ok-add_element.ensures.told ∙ ap (λ (z : Key). facts_view ns c.loop-element.news.items ++ element_news l t a z c.element-item.result.value) c.as_ref.ensures
          ∙ ap (λ (z : Element). facts_view ns c.loop-element.news.items ++ element_news l t a z.key z.value) item);
      inside = λ h a. c.in_ok-add_element.ensures.inside h (c.loop-element.invariant.inside h a);
    }
