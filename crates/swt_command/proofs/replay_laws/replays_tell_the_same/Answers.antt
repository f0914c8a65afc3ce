use Rattle.swt_command.proofs.Alike.{never_bad, never_refused, never_wrong, replayed_same}
use Rattle.swt_command.proofs.Texts.{one_status, one_text}
use Rattle.swt_command.proofs.replay_laws.replays_tell_the_same.Goals as goal

pub returns-clause-same : goal.returns-clause-same
returns-clause-same g = λ src C D limit r x y few p s z. replayed_same src C D limit r x y few p s z

pub returns-clause-not_bad : goal.returns-clause-not_bad
returns-clause-not_bad g = λ src C D limit r x y few p n z. never_bad src C D limit r x y few p n z

pub returns-clause-no_step : goal.returns-clause-no_step
returns-clause-no_step g = λ src C D limit r x y few p n z. never_refused src C D limit r x y few p n z

pub returns-clause-its_end : goal.returns-clause-its_end
returns-clause-its_end g = λ src C D limit r x y few p n z. never_wrong src C D limit r x y few p n z

pub returns-clause-text : goal.returns-clause-text
returns-clause-text g = one_text

pub returns-clause-status : goal.returns-clause-status
returns-clause-status g = one_status
