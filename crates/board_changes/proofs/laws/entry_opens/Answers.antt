use Rattle.board_changes.proofs.EntryOpens.{entry_opens}
use Rattle.board_changes.proofs.Leads.{all_lead}
use Rattle.board_changes.proofs.laws.entry_opens.Goals as goal

pub returns-clause-leads : goal.returns-clause-leads
returns-clause-leads g = λ C I es F x n k e c row there job live y o hs rows stored more B w fits few m im. all_lead C I es F x n k e c row there job live y o hs F.rows rows stored more B w fits few m im

pub returns-clause-cells : goal.returns-clause-cells
returns-clause-cells g = λ C I es F x n k e c row there job live y o hs rows s stored more B w fits few fit gs t closed b goes q cells stores told.
    entry_opens C I es F x n k e c row there job live y o hs rows s stored more B w fits few fit gs t closed b goes q cells stores told
