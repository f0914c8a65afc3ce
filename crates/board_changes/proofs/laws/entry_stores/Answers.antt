use Rattle.board_changes.proofs.EntryStores.{entry_stores, frames_same}
use Rattle.board_changes.proofs.laws.entry_stores.Goals as goal

pub returns-clause-opens : goal.returns-clause-opens
returns-clause-opens g = frames_same

pub returns-clause-cells : goal.returns-clause-cells
returns-clause-cells g = λ C I es F x n k e c row there job live y os target values gs s stored t closed none cells stores goes told. entry_stores C I es F x n k e c row there job live y os target values gs s stored t closed none cells stores goes told
