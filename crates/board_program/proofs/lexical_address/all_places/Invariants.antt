use Rattle.std.proofs.Common.{◌≡◌, length}
use Rattle.task_code.specs.Code.{body}
use Rattle.board_program.specs.Places.{FindsPlaces}
use Rattle.board_program.specs.Tables.{AllFrom}
use Rattle.board_program.proofs.lexical_address.all_places.Given as goal

abbrev pub invariant-loop-number : goal.invariant-loop-number
invariant-loop-number l = record {
  each : AllFrom (λ b m. FindsPlaces (body l.code b).makes m) 0 l.all.items;
  all : length l.all.items ≡ l.number;
}
