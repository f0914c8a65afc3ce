use Rattle.language.specs.Meaning.{Known}
use Rattle.meaning_invariants.proofs.Closing as law
use Rattle.meaning_invariants.proofs.opened_laws.one_close_more_is_so.Goals as goal

pub returns-clause-so : goal.returns-clause-so
returns-clause-so c = λ s n levels l ls arrays far p b there ended one m e f more.
    law.closes s (Known s n) levels l ls arrays far m e f p (law.now_closed s (Known s n) levels l ls arrays far p b there ended one) more

pub returns-clause-passed : goal.returns-clause-passed
returns-clause-passed c = λ s n l m ls ps ws e f passed. law.passed_still s (Known s n) l m ls e f ps ws passed
