use Rattle.std.proofs.Common.{◌≡◌, ◌++◌, map}
use Rattle.data_store.specs.Arrays.{text_element}
use Rattle.data_store.proofs.text_elements.append_to.Given as goal

abbrev pub invariant-loop-text : goal.invariant-loop-text
invariant-loop-text l = l.initial.list.items ++ map text_element l.by_text.entries ≡ l.list.items ++ map text_element l.text-iterator
