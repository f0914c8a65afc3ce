use Rattle.std.proofs.Common.{rules}
use Rattle.board_program.proofs.Tables.{entry_pushed}
use Rattle.board_program.proofs.program.entry_tables.Goals as goal

pub loop-number-preserved : goal.loop-number-preserved
loop-number-preserved c = record {
  each = entry_pushed c.args.code.now _ _ _ _ _ c.loop-number.invariant.each c.loop-number.invariant.all c.in_ok-push.ensures.items (search rules) c.in_ok-entry_table.ensures;
  all = search rules;
}
