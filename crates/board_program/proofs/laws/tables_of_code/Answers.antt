use Rattle.board_program.proofs.Slots.{holds_read, holds_written, reads_led, stores_led, writes_led}
use Rattle.board_program.proofs.laws.tables_of_code.Goals as goal

pub returns-clause-holds : goal.returns-clause-holds
returns-clause-holds g = λ C I b reached fs k f same t x d. (holds_read C I b reached fs k f same t x d, holds_written C I b reached fs k f same t x d)

pub returns-clause-rights : goal.returns-clause-rights
returns-clause-rights g = λ C I b reached fs k f same i ih d. (reads_led C I b reached fs k f same i ih d, writes_led C I b reached fs k f same i ih d)

pub returns-clause-stores : goal.returns-clause-stores
returns-clause-stores g = λ C I b reached fs k f same i ih x d. stores_led C I b reached fs k f same i ih x d
