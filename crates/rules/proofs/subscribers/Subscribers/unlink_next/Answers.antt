use Rattle.std.proofs.Common.{arith, ◌≡◌, ◌+◌, ◌<◌, length, sym, ap, subst, ◌∙◌}
use Rattle.std.proofs.lemmas.List.{get_or_default}
use Rattle.rules.specs.declared.subscribers.SlotNote.{SlotNote}
use Rattle.rules.specs.Places.{blank, note_at, no_slot}
use Rattle.rules.proofs.Splicing.{linked_next}
use Rattle.rules.proofs.subscribers.Subscribers.unlink_next.Goals as goal

pub invariant_of-self : goal.invariant_of-self
invariant_of-self c =
    let notes = c.self.inside.notes.items in
    let n = c.index-note.result.now in
    let h = c.index-holder.result.now in
    let below : c.args.number < length notes = subst (λ v. c.args.number < length v.notes) (sym c.self.view_is) c.requires.below in
    let fits : c.args.later < length notes = subst (λ v. c.args.later < length v.notes) (sym c.self.view_is) c.requires.later in
    let gone : (note_at notes c.args.number).slot ≡ no_slot = subst (λ v. (note_at v.notes c.args.number).slot ≡ no_slot) (sym c.self.view_is) c.requires.retired in
    let is : n ≡ note_at notes c.args.number = c.index-note.ensures ∙ sym (get_or_default notes c.args.number blank n below) in
    let held : h ≡ note_at notes c.args.later = c.index-holder.ensures ∙ sym (get_or_default notes c.args.later blank h fits) in
    let leads : (note_at notes c.args.later).earlier ≡ c.args.number + 1 = rw (← held) (omega (arith, c.if-holder-number.true)) in
    let x : SlotNote = record { address = h.address; slot = h.slot; earlier = n.earlier } in
    linked_next c.self.inside.heads.items notes c.args.later c.args.number x below fits leads gone (ap (λ m. m.address) held) (ap (λ m. m.slot) held) (ap (λ m. m.earlier) is) c.self.invariant
