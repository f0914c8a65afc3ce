use Rattle.std.proofs.Common.{rules}
use Rattle.board_runs.specs.Turns.{IsNamed}
use Rattle.board_runs.proofs.Picked.{named_can_begin}
use Rattle.board_runs.proofs.step.step_once.Goals as goal

pub perform-requires-clause-can : goal.perform-requires-clause-can
perform-requires-clause-can c =
    let named : IsNamed c.args.board.now c.args.choice c.in-Some.item = search rules in
    named_can_begin c.args.board.now c.args.choice c.in-Some.item named
