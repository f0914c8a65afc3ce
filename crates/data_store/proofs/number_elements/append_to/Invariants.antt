use Rattle.std.proofs.Common.{◌≡◌, ◌++◌, map}
use Rattle.data_store.specs.Arrays.{number_element}
use Rattle.data_store.proofs.number_elements.append_to.Given as goal

abbrev pub invariant-loop-key : goal.invariant-loop-key
invariant-loop-key l = l.initial.list.items ++ map number_element l.by_key.entries ≡ l.list.items ++ map number_element l.key-iterator
