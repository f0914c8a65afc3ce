use Rattle.std.proofs.Common.{◌≡◌, ◌<◌, ◌++◌, ◌∷◌, [], length, get_or, ap, ◌∙◌, rules, arith}
use Rattle.values.specs.declared.map.Element.{Element}
use Rattle.meaning_round.specs.declared.worklist.WakeEvent.{WakeEvent}
use Rattle.meaning_round.specs.Reads.{under}
use Rattle.meaning_round.proofs.Reading.{elements_next}
use Rattle.meaning_round.proofs.reads.add_elements.Goals as goal

pub loop-element-preserved : goal.loop-element-preserved
loop-element-preserved c =
    let within : c.loop-element.element-index < length c.args.elements.now = grind arith in
    let item : c.element-item.result ≡ get_or c.args.elements.now c.loop-element.element-index c.element-item.result = search rules in
    let pushed : c.push.new.self.items ≡ c.loop-element.events.items ++ c.under.result ∷ [] = search rules in
    elements_next c.args.place c.args.elements.now c.loop-element.element-index c.element-item.result c.args.events.now.items c.loop-element.events.items c.push.new.self.items within c.loop-element.invariant
    (pushed ∙ ap (λ (z : WakeEvent). c.loop-element.events.items ++ z ∷ []) (c.under.ensures ∙ ap (under c.args.place) c.as_ref.ensures ∙ ap (λ (z : Element). under c.args.place z.key) item))
