use Rattle.board_history.proofs.Quiet.{replayed_bare, begin_statuses, back_statuses, end_fault, end_own}
use Rattle.board_history.proofs.small_steps.Goals as goal

pub returns-clause-replayed_bare : goal.returns-clause-replayed_bare
returns-clause-replayed_bare g c = λ S X R es s h. replayed_bare S X R es s h

pub returns-clause-begin : goal.returns-clause-begin
returns-clause-begin g c = λ S X R s t w n b h. begin_statuses S X R s t w n b h

pub returns-clause-back : goal.returns-clause-back
returns-clause-back g c = λ S X R s t w n b h. back_statuses S X R s t w n b h

pub returns-clause-fault : goal.returns-clause-fault
returns-clause-fault g c = λ S X R s t w n b h k. end_fault S X R s t w n b h k

pub returns-clause-end : goal.returns-clause-end
returns-clause-end g c = λ S X R s t w n b x h. end_own S X R s t w n b x h
