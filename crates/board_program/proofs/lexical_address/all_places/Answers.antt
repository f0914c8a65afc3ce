use Rattle.std.proofs.Common.{rules}
use Rattle.task_code.specs.Code.{body}
use Rattle.board_program.proofs.Tables.{pushed}
use Rattle.board_program.specs.Places.{FindsPlaces}
use Rattle.board_program.proofs.lexical_address.all_places.Goals as goal

pub loop-number-preserved : goal.loop-number-preserved
loop-number-preserved c = record {
  each = pushed (λ b m. FindsPlaces (body c.args.code.now b).makes m) _ _ _ _ c.loop-number.invariant.each c.loop-number.invariant.all c.in_ok-push.ensures.items (search rules);
  all = search rules;
}
