use Rattle.std.proofs.Common.{◌≡◌, ◌++◌, take}
use Rattle.data_store.proofs.elements.append.Given as goal

abbrev pub invariant-loop-element : goal.invariant-loop-element
invariant-loop-element l = l.list.items ≡ l.initial.list.items ++ take l.element-index l.elements
