use Rattle.board_changes.proofs.Bridge.{are_blocks}
use Rattle.board_changes.proofs.laws.openings_of_item.Goals as goal

pub returns : goal.returns
returns g = are_blocks
