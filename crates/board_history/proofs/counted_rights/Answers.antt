use Rattle.board_history.proofs.Counts.{begin_counts, back_counts, end_counts, fault_counts, free_counts, counts_free, closed_counts, counts_closed, run_starts}
use Rattle.board_history.proofs.counted_rights.Goals as goal

pub returns-clause-free : goal.returns-clause-free
returns-clause-free g c = λ S X R s a. (free_counts S X R s a, counts_free S X R s a)

pub returns-clause-closed : goal.returns-clause-closed
returns-clause-closed g c = λ S X R s a h. (closed_counts S X R s a, counts_closed S X R s a h)

pub returns-clause-begin : goal.returns-clause-begin
returns-clause-begin g c = λ S X s t w n x. begin_counts S X s t w n x

pub returns-clause-back : goal.returns-clause-back
returns-clause-back g c = λ S X s t w n x. back_counts S X s t w n x

pub returns-clause-fault : goal.returns-clause-fault
returns-clause-fault g c = λ S X s t w n x h. fault_counts S X s t w n x h

pub returns-clause-end : goal.returns-clause-end
returns-clause-end g c = λ S X s t w n x h. end_counts S X s t w n x h

pub returns-clause-starts : goal.returns-clause-starts
returns-clause-starts g c = λ S X R L blind es s run t w n x h. run_starts S X R L blind es s run t w n x h
