use Rattle.std.proofs.Common.{arith, rules, ◌≡◌, ◌<◌, true, length, ◌∙◌}
use Rattle.rules.specs.Many.{index_in, known_in}
use Rattle.rules.proofs.Marking.{slot_noted, left_noted}
use Rattle.rules.proofs.Noting.{grows_on}
use Rattle.rules.proofs.many_inputs.note_left.Goals as goal

pub loop-place-preserved : goal.loop-place-preserved
loop-place-preserved c =
    let is = c.args.inputs.now in
    let here = c.loop-place.invariant in
    let step = c.note_place.ensures in
    let done : c.note_place.result ≡ true = search rules in (
      grows_on _ _ _ here.0 step.grows,
      step.strays ∙ here.1,
      slot_noted is (known_in (index_in c.args.index.now)) c.loop-place.places c.note_place.new.places c.loop-place.place c.args.slot step.grows here.2 (step.noted done),
    )

pub returns-clause-noted : goal.returns-clause-noted
returns-clause-noted c = λ all. left_noted c.args.inputs.now (index_in c.args.index.now) c.loop-place.places.notes c.loop-place.place c.args.slot (omega (arith, c.loop-place-test.false)) c.loop-place.invariant.2
