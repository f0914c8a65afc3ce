use Rattle.std.proofs.Common.{◌≡◌, ◌∙◌, sym, arith, rules, w64}
use Rattle.std.specs.Prelude.{pos, Some}
use Rattle.std.proofs.lemmas.Int.{to_z-of_z}
use Rattle.std.proofs.lemmas.List.{length-set}
use Rattle.data_store.proofs.Filled.{length_filled, put_in_more}
use Rattle.data_store.proofs.dense_elements.DenseElements.put.Goals as goal

pub overflow_add-self : goal.overflow_add-self
overflow_add-self c =
    let slots = c.self.inside.slots in
    omega (arith, c.self.invariant.0, length_filled 0 slots.items, slots.ok.0, slots.ok.1, slots.small)

pub invariant_of-self-2 : goal.invariant_of-self-2
invariant_of-self-2 c =
    let more = c.make_slot.new.slots in
    let is : c.args.key ≡ pos c.in-Some.place = sym (to_z-of_z w64 c.args.key (search rules)) ∙ c.in-Some.ensures.1 in
    let absent = rw (← c.self.view_is) at c.requires in
    let put = put_in_more c.args.key c.in-Some.place c.args.value c.self.inside.slots.items more.items c.make_slot.ensures.same is (omega (arith, c.if-not-make_slot.ensures.there, more.ok.0)) absent in
    let few = c.make_slot.ensures.few c.in-Some.ensures.0 (omega (arith, c.self.invariant.1, c.self.inside.slots.ok.0)) in
    (omega (arith, c.self.invariant.0, put.longer), omega (arith, few, more.ok.0, length-set more.items c.in-Some.place (Some c.args.value)))

pub returns-clause-added : goal.returns-clause-added
returns-clause-added c =
    let more = c.make_slot.new.slots in
    let is : c.args.key ≡ pos c.in-Some.place = sym (to_z-of_z w64 c.args.key (search rules)) ∙ c.in-Some.ensures.1 in
    let absent = rw (← c.self.view_is) at c.requires in
    rw (← c.self.view_is) (put_in_more c.args.key c.in-Some.place c.args.value c.self.inside.slots.items more.items c.make_slot.ensures.same is (omega (arith, c.if-not-make_slot.ensures.there, more.ok.0)) absent)
