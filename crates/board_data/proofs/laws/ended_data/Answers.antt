use Rattle.board_data.proofs.Ended.{cell_after, is_only, was_made}
use Rattle.board_data.proofs.laws.ended_data.Goals as goal

pub returns : goal.returns
returns c = record { old = cell_after; new = was_made; only = is_only }
