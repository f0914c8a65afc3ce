use Rattle.std.proofs.Common.{◌≡◌, ◌++◌, map, drop}
use Rattle.data_store.specs.Arrays.{number_element}
use Rattle.data_store.specs.Filled.{filled}
use Rattle.data_store.proofs.dense_elements.DenseElements.append_to.Given as goal

abbrev pub invariant-loop-place : goal.invariant-loop-place
invariant-loop-place l =
    l.list.items ++ map number_element (filled l.place (drop l.place l.self-inside.slots.items)) ≡ l.initial.list.items ++ map number_element (filled 0 l.self-inside.slots.items)
