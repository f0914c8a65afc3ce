use Rattle.std.proofs.Common.{rules, ◌≡◌, refl, ap, ◌∙◌}
use Rattle.std.specs.Prelude.{Some}
use Rattle.std.specs.HashMap.{get}
use Rattle.meaning_round.specs.declared.worklist.Worklist.{Worklist}
use Rattle.meaning_round.specs.Hearing.{event_key, is_in, same_event}
use Rattle.meaning_round.proofs.Called.{those_woken}
use Rattle.meaning_round.proofs.worklist.Worklist.notify.Goals as goal

pub returns-in_ok-wake_all-in-Some : goal.returns-in_ok-wake_all-in-Some
returns-in_ok-wake_all-in-Some c =
    let there : get same_event c.args.self.now.called (event_key c.args.event) ≡ Some c.in-Some.numbers.now = search rules in
    let t = c.args.self.now in
    let new : Worklist = record { fresh = c.args.self.now.fresh; awake = c.wake_all.new.awake; asleep = c.wake_all.new.asleep; called = c.args.self.now.called } in
    let woken = c.in_ok-wake_all-in-Some.ensures in
    those_woken t new c.args.event refl refl woken.fewer (λ k s. ap (λ o. is_in o k) there ∙ woken.others k s) woken.woken woken.still
