use Rattle.std.proofs.Common.{◌≡◌, ◌∙◌, sym, ap, None, rules, w64}
use Rattle.std.specs.Prelude.{◌^◌, slice_index_or, pos}
use Rattle.std.proofs.lemmas.Int.{to_z-of_z}
use Rattle.data_store.proofs.Filled.{found_at, found_nowhere}
use Rattle.data_store.proofs.dense_elements.DenseElements.get.Goals as goal

pub returns-in-Some : goal.returns-in-Some
returns-in-Some c =
    let is : c.args.key ≡ pos c.in-Some.place = sym (to_z-of_z w64 c.args.key (search rules)) ∙ c.in-Some.ensures.1 in
    rw (← c.self.view_is) (found_at c.args.key c.in-Some.place _ c.self.inside.slots.items is
    (c.at.ensures ∙ ap (λ xs. slice_index_or xs c.in-Some.place None) c.as_slice.ensures.value))

pub returns-in-None : goal.returns-in-None
returns-in-None c = rw (← c.self.view_is) (found_nowhere (2 ^ 32) c.args.key c.self.inside.slots.items (λ j l e. c.in-None.ensures j l (to_z-of_z w64 c.args.key (search rules) ∙ e)) c.self.invariant.1)
