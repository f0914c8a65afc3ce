use Rattle.std.proofs.Common.{rules, ◌≡◌, ◌∙◌, sym, ap, get_or}
use Rattle.values.specs.Maps.{element, found}
use Rattle.values.proofs.Maps.{found-there}
use Rattle.meaning_facts.proofs.Stored.{put_kept}
use Rattle.meaning_facts.proofs.facts.put_element.Goals as goal

pub returns-in-Ok-clause-put : goal.returns-in-Ok-clause-put
returns-in-Ok-clause-put c =
    let key = c.args.write.now.key in
    let other = element c.args.write.now.key c.args.write.now.value in
    let there = c.in-Ok.ensures.there in
    let same : c.args.elements.now.items ≡ c.as_slice.result.now = search rules in
    put_kept c.args.write.now c.args.elements.now.items (get_or c.as_slice.result.now c.in-Ok.field-0 other).value
    (ap (found key) same ∙ sym there.1 ∙ found-there key c.as_slice.result.now c.in-Ok.field-0 other there.0 (c.in-Ok.ensures.same other))
