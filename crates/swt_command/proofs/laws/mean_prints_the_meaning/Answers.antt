use Rattle.swt_command.proofs.Meanings.{mean_prints, told_meant}
use Rattle.swt_command.proofs.laws.mean_prints_the_meaning.Goals as goal

pub returns-clause-told : goal.returns-clause-told
returns-clause-told g = told_meant

pub returns-clause-printed : goal.returns-clause-printed
returns-clause-printed g = mean_prints
