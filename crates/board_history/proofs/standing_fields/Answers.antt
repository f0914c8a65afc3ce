use Rattle.board_history.proofs.Standing.{first_stands, missing_told, writes_told, never_free}
use Rattle.board_history.proofs.Begun.{begun_stands, returned_stands}
use Rattle.board_history.proofs.Faulted.{fault_stands}
use Rattle.board_history.proofs.EndedItems.{end_items}
use Rattle.board_history.proofs.EndedQueue.{queue_after, turns_told}
use Rattle.board_history.proofs.EndedFields.{end_stands}
use Rattle.board_history.proofs.Layouts.{added_once, names_lead}
use Rattle.board_history.proofs.standing_fields.Goals as goal

pub returns-clause-first : goal.returns-clause-first
returns-clause-first g = λ C L. first_stands C L

pub returns-clause-missing : goal.returns-clause-missing
returns-clause-missing g = λ C I L es F x i h. missing_told C I L es F x i h

pub returns-clause-writes : goal.returns-clause-writes
returns-clause-writes g = λ C I L es F x d a c h q. writes_told C I L es F x d a c h q

pub returns-clause-never_free : goal.returns-clause-never_free
returns-clause-never_free g = λ C I L es F x d c q r w. never_free C I L es F x d c q r w

pub returns-clause-begin : goal.returns-clause-begin
returns-clause-begin g = λ C I L es F x w n t h. begun_stands C I L es F x w n t h

pub returns-clause-back : goal.returns-clause-back
returns-clause-back g = λ C I L es F x w n t h. returned_stands C I L es F x w n t h

pub returns-clause-fault : goal.returns-clause-fault
returns-clause-fault g = λ C I L es F x w n t h bad. fault_stands C I L es F x w n t h bad

pub returns-clause-end_items : goal.returns-clause-end_items
returns-clause-end_items g = λ C I L es F x w n t h good. end_items C I L es F x w n t h good

pub returns-clause-end_queue : goal.returns-clause-end_queue
returns-clause-end_queue g = λ C I L es F x w n t h good G items new after. queue_after C I L es F x w n t h good G items new after

pub returns-clause-turns : goal.returns-clause-turns
returns-clause-turns g = λ C I L es F x i h e c p q xs known. turns_told C I L es F x i h e c p q xs known

pub returns-clause-end : goal.returns-clause-end
returns-clause-end g = λ C I L es F x w n t h good row q xs known G to. end_stands C I L es F x w n t h good row q xs known G to

pub returns-clause-leads : goal.returns-clause-leads
returns-clause-leads g = λ C I L laid es F x n k e c row there job live made hs opens m im passes. names_lead C I L laid es F x n k e c row there job live made hs opens m im passes

pub returns-clause-once : goal.returns-clause-once
returns-clause-once g = λ C L rights hs d b f made one same. added_once C L rights hs d b f made one same
