use Rattle.board_items.proofs.Fits.{items_fit}
use Rattle.board_items.proofs.Jobs.{seen_there}
use Rattle.board_items.proofs.Learnt.{nothing_learnt_of}
use Rattle.board_items.proofs.laws.fitting_items.Goals as goal

pub returns : goal.returns
returns c = record { stands = items_fit; seen = seen_there; nothing = λ F start fit e. nothing_learnt_of F.waiting start e (λ w h. (fit.waiting w h).0) }
