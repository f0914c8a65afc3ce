use Rattle.std.proofs.Common.{◌≡◌, ◌≤◌, take}
use Rattle.task_code.specs.Code.{Control}
use Rattle.board_program.specs.Places.{CountsOf}
use Rattle.board_program.specs.Tables.{HoldsOf, names_of, run_as}
use Rattle.board_program.proofs.bodies.rights_of.Given as goal

abbrev pub invariant-loop-at : goal.invariant-loop-at
invariant-loop-at l = record {
  reads : CountsOf l.places l.many (names_of l.code (λ e. e.reads) (take l.at l.entries)) l.reads.items;
  writes : CountsOf l.places l.many (names_of l.code (λ e. e.writes) (take l.at l.entries)) l.writes.items;
  outer : HoldsOf l.code l.body (take l.at l.entries) l.outer.holds.items;
  controls : l.controls ≡ run_as l.code Control (take l.at l.entries);
  few : l.controls ≤ l.at;
}
