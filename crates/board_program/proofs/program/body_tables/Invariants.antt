use Rattle.std.proofs.Common.{◌≡◌, length}
use Rattle.board_program.specs.Tables.{AllFrom, IsBodyTable}
use Rattle.board_program.proofs.program.body_tables.Given as goal

abbrev pub invariant-loop-number : goal.invariant-loop-number
invariant-loop-number l = record {
  each : AllFrom (λ b t. IsBodyTable l.code b t) 0 l.tables.items;
  all : length l.tables.items ≡ l.number;
}
