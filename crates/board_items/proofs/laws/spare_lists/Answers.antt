use Rattle.board_items.proofs.Spare.{spare_made}
use Rattle.board_items.proofs.laws.spare_lists.Goals as goal

pub returns : goal.returns
returns c = record { made = spare_made }
