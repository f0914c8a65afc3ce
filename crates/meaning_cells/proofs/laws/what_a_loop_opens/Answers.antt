use Rattle.meaning_cells.proofs.Looping as law
use Rattle.meaning_cells.proofs.laws.what_a_loop_opens.Goals as goal

pub returns-clause-opens : goal.returns-clause-opens
returns-clause-opens c = λ a x t b es k d o. law.each_all a x t b es k d o

pub returns-clause-opened : goal.returns-clause-opened
returns-clause-opened c = λ a x t b es i l. law.each_so a x t b es i l

pub returns-clause-element : goal.returns-clause-element
returns-clause-element c = λ a x t b es i l. law.each_turn a x t b es i l

pub returns-clause-turn : goal.returns-clause-turn
returns-clause-turn c = λ lo hi st x t b vs o e i. law.range_turn_so lo hi st x t b vs o e i
