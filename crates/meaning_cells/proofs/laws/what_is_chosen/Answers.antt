use Rattle.meaning_cells.proofs.Choosing as law
use Rattle.meaning_cells.proofs.laws.what_is_chosen.Goals as goal

pub returns-clause-decided : goal.returns-clause-decided
returns-clause-decided c = λ a vs d. law.decided a vs d

pub returns-clause-decides : goal.returns-clause-decides
returns-clause-decides c = λ a vs o e. law.decides a vs o e

pub returns-clause-opens : goal.returns-clause-opens
returns-clause-opens c = λ a vs o e k b x. law.opens_all a vs o k b e x

pub returns-clause-opened : goal.returns-clause-opened
returns-clause-opened c = λ a vs o e i l b y. law.opens_so a vs o e i l b y
