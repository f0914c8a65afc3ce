use Rattle.std.proofs.Common.{arith, rules, ◌≡◌, ◌<◌, true, length}
use Rattle.std.proofs.lemmas.List.{get_or_default}
use Rattle.rules.specs.declared.input.Input.TheVariants.{Whole}
use Rattle.rules.proofs.Marking.{place_noted}
use Rattle.rules.proofs.many_inputs.places_in.Goals as goal

pub loop-place-preserved : goal.loop-place-preserved
loop-place-preserved c =
    let is = c.args.inputs.now in
    let at = c.loop-place.place in
    let below : at < length is = omega (arith, c.loop-place-test.true) in
    let done : c.note_input.result ≡ true = search rules in
    place_noted is c.loop-place.places c.note_input.new.self at _ (get_or_default is at _ (Whole 0) below) c.note_input.ensures.grows c.loop-place.invariant (c.note_input.ensures.noted done)
