use Rattle.std.proofs.Common.{◌∙◌, ◌++◌, w64, to_z, of_z, rules}
use Rattle.std.specs.Prelude.{ℤ}
use Rattle.std.specs.Ordering.{int_eq}
use Rattle.std.proofs.lemmas.Int.{to_z-of_z}
use Rattle.data_store.proofs.Filled.{found_first, found_second}
use Rattle.data_store.proofs.Pairs.{found_as_number}
use Rattle.data_store.proofs.number_elements.NumberElements.get.Goals as goal

pub returns-in-Some : goal.returns-in-Some
returns-in-Some c =
    let k : ℤ = to_z w64 (of_z w64 c.args.n) in
    let slots = c.self.inside.slots in
    let others = c.self.inside.by_key.entries in
    rw (← c.self.view_is) (found_first (int_eq k) slots others c.in-Some.value.now c.in-Some.ensures ∙ found_as_number c.args.n k (slots ++ others) (to_z-of_z w64 c.args.n (search rules)))

pub returns-in-None : goal.returns-in-None
returns-in-None c =
    let k : ℤ = to_z w64 (of_z w64 c.args.n) in
    let slots = c.self.inside.slots in
    let others = c.self.inside.by_key.entries in
    rw (← c.self.view_is) (found_second (int_eq k) slots others _ c.in-None.ensures c.in_table.ensures ∙ found_as_number c.args.n k (slots ++ others) (to_z-of_z w64 c.args.n (search rules)))
