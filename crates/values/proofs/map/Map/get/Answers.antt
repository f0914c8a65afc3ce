use Rattle.std.proofs.Common.{sym, ap, ◌∙◌}
use Rattle.values.specs.Maps.{found}
use Rattle.values.proofs.Maps.{found-there}
use Rattle.values.proofs.map.Map.get.Goals as goal

pub returns-in-Ok : goal.returns-in-Ok
returns-in-Ok c =
    let there = c.in-Ok.ensures.there in
    ap (found c.args.key.now) (sym c.elements-elements.ensures.elements) ∙ sym there.1
    ∙ found-there c.args.key.now c.elements-elements.result.now c.in-Ok.place c.index-elements-place.result there.0 (c.in-Ok.ensures.same _)
