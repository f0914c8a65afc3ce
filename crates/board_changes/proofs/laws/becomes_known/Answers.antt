use Rattle.board_changes.proofs.EntryOpens.{opens_become}
use Rattle.board_changes.proofs.EntryStores.{stores_become}
use Rattle.board_changes.proofs.laws.becomes_known.Goals as goal

pub returns-clause-stores : goal.returns-clause-stores
returns-clause-stores g = λ C I es F x n k e c row there job live y os change gs s stored t closed none cells can stores goes told. stores_become C I es F x n k e c row there job live y os change gs s stored t closed none cells can stores goes told

pub returns-clause-opens : goal.returns-clause-opens
returns-clause-opens g = λ C I es F x n k e c row there job live y o hs rows s stored more B w fits few fit gs t closed b goes q cells stores told.
    opens_become C I es F x n k e c row there job live y o hs rows s stored more B w fits few fit gs t closed b goes q cells stores told
