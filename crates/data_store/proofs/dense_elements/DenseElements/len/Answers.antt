use Rattle.std.proofs.Common.{arith}
use Rattle.data_store.proofs.Filled.{length_filled}
use Rattle.data_store.proofs.dense_elements.DenseElements.len.Goals as goal

pub returns-clause-small : goal.returns-clause-small
returns-clause-small c =
    let slots = c.self.inside.slots in
    omega (arith, c.self.invariant.0, c.self.invariant.1, length_filled 0 slots.items)
