use Rattle.std.proofs.Common.{◌≡◌, ◌++◌, drop, map}
use Rattle.task_code.specs.View.{variable_view}
use Rattle.board_program.specs.Places.{with_counts}
use Rattle.board_program.proofs.bodies.with_counts.Given as goal

abbrev pub invariant-loop-at : goal.invariant-loop-at
invariant-loop-at l = with_counts 0 l.reads l.writes (map variable_view l.makes) ≡ l.own.items ++ with_counts l.at l.reads l.writes (map variable_view (drop l.at l.makes))
