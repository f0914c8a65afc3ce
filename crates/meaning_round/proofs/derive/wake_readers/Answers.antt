use Rattle.std.proofs.Common.{◌∷◌, [], sym, ap, ◌∙◌, subst}
use Rattle.std.proofs.lemmas.Result.{on_ok_weaker}
use Rattle.meaning_facts.specs.declared.facts.Fact.{Fact}
use Rattle.meaning_facts.specs.Sighted.{closed_at}
use Rattle.meaning_round.specs.declared.worklist.WakeEvent.{WakeEvent}
use Rattle.meaning_round.specs.Hearing.{closed_too, comes_with, AreWoken}
use Rattle.meaning_round.specs.Reads.{under}
use Rattle.meaning_round.proofs.Heard.{more_woken}
use Rattle.meaning_round.proofs.derive.wake_readers.Goals as goal

pub returns-in_ok-notify-in-Element : goal.returns-in_ok-notify-in-Element
returns-in_ok-notify-in-Element c =
    let l = c.args.fact_base.now in
    let a = c.in-Element.array in
    let w = c.in-Element.write in
    on_ok_weaker c.wake_closed.result
    (λ closed. subst (λ (z : Fact). AreWoken c.args.worklist.now c.wake_closed.new.worklist (comes_with l z)) (sym c.in-Element.is)
    (more_woken c.args.worklist.now c.notify-in-Element.new.self c.wake_closed.new.worklist (under a w.key ∷ []) (closed_too (closed_at l a) a)
    (subst (λ (z : WakeEvent). AreWoken c.args.worklist.now c.notify-in-Element.new.self (z ∷ [])) (c.under.ensures ∙ ap (under a) c.as_ref.ensures) c.in_ok-notify-in-Element.ensures) closed))
    c.wake_closed.ensures
