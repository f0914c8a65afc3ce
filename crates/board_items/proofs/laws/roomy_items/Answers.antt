use Rattle.board_items.proofs.Apart.{placed_roomy}
use Rattle.board_items.proofs.laws.roomy_items.Goals as goal

pub returns : goal.returns
returns c = record { placed = placed_roomy }
