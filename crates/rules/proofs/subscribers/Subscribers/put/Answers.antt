use Rattle.std.proofs.Common.{arith, rules, ◌≡◌, ◌<◌, ◌%◌, length, get_or, sym, ap, ◌∙◌}
use Rattle.std.proofs.lemmas.Nat.{mod_below}
use Rattle.std.proofs.lemmas.Grind.{get_or_default_zero}
use Rattle.rules.specs.declared.subscribers.SlotNote.{SlotNote}
use Rattle.rules.proofs.Linking.{linked_more}
use Rattle.rules.proofs.subscribers.Subscribers.put.Goals as goal

pub invariant_of-self : goal.invariant_of-self
invariant_of-self c =
    let heads = c.self.inside.heads.items in
    let notes = c.self.inside.notes.items in
    let full : length heads ≡ c.len.result = sym (c.len.ensures ∙ c.self.inside.heads.ok.0) in
    let list = c.args.address % c.len.result in
    let x : SlotNote = record { address = c.args.address; slot = c.args.slot; earlier = c.index.result.now } in
    let below : list < length heads = rw full (mod_below c.args.address c.len.result (search rules)) in
    let here : c.args.address % length heads ≡ list = ap (λ n. c.args.address % n) full in
    let was : c.index.result.now ≡ get_or heads list 0 = c.index.ensures ∙ get_or_default_zero heads list c.index.result.now below in
    let count : c.len-number.result ≡ length notes = omega (arith, c.len-number.ensures, c.self.inside.notes.ok.0) in
    rw (c.push_reserved.ensures.items, count) (linked_more heads notes list x below here was c.self.invariant)
