use Rattle.std.proofs.Common.{◌≡◌, ◌⊎◌, ℕ, ◌-◌, ◌<◌, ◌≤◌, ◌%◌, true, length}
use Rattle.rules.specs.Inputs.{covers}
use Rattle.rules.specs.Many.{Marks, input_at, is_known}
use Rattle.rules.specs.Places.{address, note_at}
use Rattle.rules.proofs.Walking.{IsBelow}
use Rattle.rules.proofs.many_inputs.InputIndex.mark_all.Given as goal

-- those that the input covers are known, or their places are noted below `next`, and the note right below it is of the list
abbrev pub invariant-loop-next : goal.invariant-loop-next
invariant-loop-next l =
    Marks l.input l.inputs l.initial.self l.self
    × ((k : ℕ) → k < length l.inputs → covers l.input (input_at l.inputs k) ≡ true → (is_known l.self k ≡ true) ⊎ IsBelow l.next l.self.places.notes (address l.input) k)
    × (l.next ≤ length l.self.places.notes)
    × (0 < l.next → (note_at l.self.places.notes (l.next - 1)).address % l.self.places.lists ≡ address l.input % l.self.places.lists)

abbrev pub decreases-loop-next : goal.decreases-loop-next
decreases-loop-next l = l.next
