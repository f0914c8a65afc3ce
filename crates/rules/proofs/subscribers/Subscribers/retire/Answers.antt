use Rattle.std.proofs.Common.{◌≡◌, ◌<◌, length, refl, sym, ap, subst, ◌∙◌}
use Rattle.std.proofs.lemmas.List.{get_or_default}
use Rattle.rules.specs.declared.subscribers.SlotNote.{SlotNote}
use Rattle.rules.specs.Places.{blank, note_at, no_slot}
use Rattle.rules.proofs.Splicing.{linked_retired}
use Rattle.rules.proofs.subscribers.Subscribers.retire.Goals as goal

pub invariant_of-self : goal.invariant_of-self
invariant_of-self c =
    let notes = c.self.inside.notes.items in
    let n = c.index-note.result.now in
    let below : c.args.number < length notes = subst (λ v. c.args.number < length v.notes) (sym c.self.view_is) c.requires.below in
    let is : n ≡ note_at notes c.args.number = c.index-note.ensures ∙ sym (get_or_default notes c.args.number blank n below) in
    let x : SlotNote = record { address = n.address; slot = no_slot; earlier = n.earlier } in
    linked_retired c.self.inside.heads.items notes c.args.number x below (ap (λ m. m.address) is) refl (ap (λ m. m.earlier) is) c.self.invariant
