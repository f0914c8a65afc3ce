use Rattle.board.proofs.Staying.{items_own, work_begun, work_later}
use Rattle.board.proofs.laws.work_stays.Goals as goal

pub returns-clause-begun : goal.returns-clause-begun
returns-clause-begun c = λ b I run w work o. work_begun b run w work o

pub returns-clause-stays : goal.returns-clause-stays
returns-clause-stays c = λ old new I run e a work i. work_later old new I run e a work i

pub returns-clause-own : goal.returns-clause-own
returns-clause-own c = λ b w work i t. items_own b w work i t
