use Rattle.data_store.specs.Stores.{IsArrayAt}
use Rattle.bench.proofs.data.insert_all.Given as goal

-- it stays an array
abbrev pub invariant-loop-number : goal.invariant-loop-number
invariant-loop-number l = IsArrayAt l.store l.d
