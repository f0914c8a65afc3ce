use Rattle.std.proofs.Common.{◌≡◌, ◌<◌, inl, inr, false, length, None, slice_index_or, sym, subst, ◌∙◌}
use Rattle.std.proofs.lemmas.Bool.{cases_Bool}
use Rattle.std.proofs.lemmas.List.{get_or_default}
use Rattle.rules.specs.Places.{blank, note_at, slot_needs}
use Rattle.rules.proofs.Noting.{true_false}
use Rattle.rules.proofs.Walking.{noted_but}
use Rattle.rules.proofs.subscribers.Subscribers.tidy.Goals as goal

pub returns-clause-noted : goal.returns-clause-noted
returns-clause-noted c =
    let slots = c.args.waiters.now.slots in
    let notes = c.self.inside.notes.items in
    let n = c.index-note.result.now in
    let below : c.args.number < length notes = subst (λ v. c.args.number < length v.notes) (sym c.self.view_is) c.requires.below in
    let here : n ≡ note_at notes c.args.number = c.index-note.ensures ∙ sym (get_or_default notes c.args.number blank n below) in
    let is : n ≡ note_at c.args.self.now.notes c.args.number = subst (λ v. n ≡ note_at v.notes c.args.number) c.self.view_is here in
    let lacks : slot_needs n.address (slice_index_or slots n.slot None) ≡ false = elim (cases_Bool (slot_needs n.address (slice_index_or slots n.slot None))) [
      | inl e ↦ absurd (true_false (sym (c.is_needed.ensures e) ∙ c.if-is_needed.false))
      | inr e ↦ e
    ] in
    noted_but c.args.self.now c.take_out.new.self c.args.number slots c.take_out.ensures (subst (λ m. slot_needs m.address (slice_index_or slots m.slot None) ≡ false) is lacks) c.requires.noted
