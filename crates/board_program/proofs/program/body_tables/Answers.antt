use Rattle.std.proofs.Common.{rules}
use Rattle.board_program.proofs.Tables.{pushed}
use Rattle.board_program.specs.Tables.{IsBodyTable}
use Rattle.board_program.proofs.program.body_tables.Goals as goal

pub loop-number-preserved : goal.loop-number-preserved
loop-number-preserved c = record {
  each = pushed (λ b t. IsBodyTable c.args.code.now b t) _ _ _ _ c.loop-number.invariant.each c.loop-number.invariant.all c.in_ok-push.ensures.items c.in_ok-body_table.ensures;
  all = search rules;
}
