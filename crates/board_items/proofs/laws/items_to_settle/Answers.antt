use Rattle.board_items.proofs.Tells.{all_settle, woken_old}
use Rattle.board_items.proofs.laws.items_to_settle.Goals as goal

pub returns : goal.returns
returns c = record { old = woken_old; all = all_settle }
