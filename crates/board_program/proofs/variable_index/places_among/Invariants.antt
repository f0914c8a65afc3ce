use Rattle.std.proofs.Common.{◌≡◌, ◌≤◌, drop, length, map}
use Rattle.task_code.specs.Code.{Variable}
use Rattle.task_code.specs.View.{variable_view}
use Rattle.board_program.specs.Places.{place_in}
use Rattle.board_program.specs.Spots.{place_from}
use Rattle.board_program.proofs.variable_index.places_among.Given as goal

abbrev pub invariant-loop-left : goal.invariant-loop-left
invariant-loop-left l = (l.left ≤ length l.makes) × ((v : Variable) → place_in l.places v ≡ place_from l.left v (map variable_view (drop l.left l.makes)))

abbrev pub decreases-loop-left : goal.decreases-loop-left
decreases-loop-left l = l.left
