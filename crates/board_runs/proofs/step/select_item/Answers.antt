use Rattle.board_runs.proofs.Picked.{none_first}
use Rattle.board_runs.proofs.step.select_item.Goals as goal

pub returns-in-None-clause-none : goal.returns-in-None-clause-none
returns-in-None-clause-none c = none_first c.args.board.now c.first.result c.requires.going c.first.ensures.none
