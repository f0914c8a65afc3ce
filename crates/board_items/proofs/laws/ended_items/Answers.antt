use Rattle.board_items.proofs.Tells.{newly_after, queue_after, rows_after, waits_after}
use Rattle.board_items.proofs.laws.ended_items.Goals as goal

pub returns : goal.returns
returns c = record { waits = waits_after; newly = newly_after; rows = rows_after; queue = queue_after }
