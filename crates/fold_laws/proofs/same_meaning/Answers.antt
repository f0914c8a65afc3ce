use Rattle.language.specs.Meaning.{Known, Meaning}
use Rattle.fold_laws.proofs.Itself.{core_itself}
use Rattle.fold_laws.proofs.Kept.{same_closed, same_has, same_live, same_ready}
use Rattle.fold_laws.proofs.Rounds.{same_known}
use Rattle.fold_laws.proofs.Turned.{turned_core}
use Rattle.fold_laws.proofs.Views.{same_blocked, same_clean, meant, meant_back, lines_too}
use Rattle.fold_laws.proofs.same_meaning.Goals as goal

pub returns-clause-rounds : goal.returns-clause-rounds
returns-clause-rounds g = λ c d same n f k. same_known c d same n f k

pub returns-clause-turned : goal.returns-clause-turned
returns-clause-turned g = λ c d same. turned_core same

pub returns-clause-itself : goal.returns-clause-itself
returns-clause-itself g = λ c. core_itself c

pub returns-clause-blocked : goal.returns-clause-blocked
returns-clause-blocked g = λ c d same n at path b. same_blocked c d same (Known c n) (Known d n) (same_known c d same n) (same_known d c (turned_core same) n) b

pub returns-clause-lines : goal.returns-clause-lines
returns-clause-lines g = λ c d same ls l. lines_too c d same l

pub returns-clause-faults : goal.returns-clause-faults
returns-clause-faults g = λ c d same f at path h. (h.0, meant c d same _ h.1)

pub returns-clause-ever_blocked : goal.returns-clause-ever_blocked
returns-clause-ever_blocked g = λ c d same at path b. same_blocked c d same (Meaning c) (Meaning d) (meant c d same) (meant_back c d same) b

pub returns-clause-closed : goal.returns-clause-closed
returns-clause-closed g = λ c d same a h. same_closed c d same (Meaning c) (Meaning d) (meant c d same) (meant_back c d same) h

pub returns-clause-values : goal.returns-clause-values
returns-clause-values g = λ c d same a v h. same_has c d same (Meaning c) (Meaning d) (meant c d same) (meant_back c d same) h

pub returns-clause-live : goal.returns-clause-live
returns-clause-live g = λ c d same path b l. (let x = same_live c d same (Meaning c) (Meaning d) (meant c d same) (meant_back c d same) l in (x.block, x.live, x.same_block))

pub returns-clause-ready : goal.returns-clause-ready
returns-clause-ready g = λ c d same path a h vs s r. same_ready c d same (Meaning c) (Meaning d) (meant c d same) (meant_back c d same) r s

pub returns-clause-clean : goal.returns-clause-clean
returns-clause-clean g = λ c d same clean. same_clean c d same clean
