use Rattle.std.proofs.Common.{arith, ◌<◌, ◌≤◌, ◌∷◌, [], List, length, map, subst}
use Rattle.std.proofs.lemmas.Grind.{common_steps}
use Rattle.std.proofs.lemmas.List.{take_all}
use Rattle.meaning_facts.specs.declared.facts.Place.{Place}
use Rattle.meaning_round.specs.declared.worklist.WakeEvent.{WakeEvent}
use Rattle.meaning_round.specs.Hearing.{AreWoken}
use Rattle.meaning_round.specs.Reads.{at}
use Rattle.meaning_round.proofs.Heard.{none_woken}
use Rattle.meaning_openings.proofs.LookedAt.{next_woken}
use Rattle.meaning_openings.proofs.closing.wake_readers.Goals as goal

pub loop-place-init : goal.loop-place-init
loop-place-init c = none_woken c.args.worklist.now

pub loop-place-preserved : goal.loop-place-preserved
loop-place-preserved c =
    let within : c.loop-place.place-index < length c.args.closed.now = grind (arith, common_steps) in
    let past : Place = record { instance = 0; node = 0 } in
    next_woken c.args.worklist.now c.loop-place.worklist c.notify.new.self c.args.closed.now c.loop-place.place-index past within c.loop-place.invariant
    (subst (λ (z : WakeEvent). AreWoken c.loop-place.worklist c.notify.new.self (z ∷ [])) c.at.ensures c.in_ok-notify.ensures)

pub returns : goal.returns
returns c =
    let past : length c.args.closed.now ≤ c.loop-place.place-index = grind (arith, common_steps) in
    subst (λ (z : List Place). AreWoken c.args.worklist.now c.loop-place.worklist (map at z)) (take_all c.loop-place.place-index c.args.closed.now past) c.loop-place.invariant
