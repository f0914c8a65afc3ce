use Rattle.std.proofs.Common.{◌≡◌, ◌++◌, take}
use Rattle.meaning_round.specs.Reads.{elements_reads}
use Rattle.meaning_round.proofs.reads.add_elements.Given as goal

abbrev pub invariant-loop-element : goal.invariant-loop-element
invariant-loop-element l = l.events.items ≡ l.fn.events.items ++ elements_reads l.place (take l.element-index l.elements)
