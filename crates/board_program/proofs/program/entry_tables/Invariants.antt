use Rattle.std.proofs.Common.{◌≡◌, length}
use Rattle.board_program.specs.Tables.{AllFrom, IsEntryTable, body_of}
use Rattle.board_program.proofs.program.entry_tables.Given as goal

abbrev pub invariant-loop-number : goal.invariant-loop-number
invariant-loop-number l = record {
  each : AllFrom (λ i t. IsEntryTable l.code (body_of l.code i) i t) 0 l.tables.items;
  all : length l.tables.items ≡ l.number;
}
