use Rattle.board_history.specs.Elements.{code_tests}
use Rattle.board_history.proofs.Counts.{run_starts}
use Rattle.board_history.proofs.Elements.{code_told}
use Rattle.board_history.proofs.Static.{adds_holds}
use Rattle.board_history.proofs.Ended.{end_counts_of}
use Rattle.board_history.proofs.Turns.{opens_holds, turns_hold}
use Rattle.task_code.specs.System.{code_system}
use Rattle.task_code.proofs.Kept.{code_laws}
use Rattle.board_history.proofs.counted_rights_of_code.Goals as goal

pub returns-clause-adds : goal.returns-clause-adds
returns-clause-adds g = λ C b p. adds_holds C b p

pub returns-clause-starts : goal.returns-clause-starts
returns-clause-starts g = λ C I es s run t w n x h. run_starts (code_system C) code_tests (code_told C) (code_laws C I) (λ a i. i) es s run t w n x h

pub returns-clause-opens : goal.returns-clause-opens
returns-clause-opens g = λ C i c p x. opens_holds C i c p x

pub returns-clause-turns : goal.returns-clause-turns
returns-clause-turns g = λ C w offset p q v k nk ts n. turns_hold C w offset p q v k nk ts n

pub returns-clause-end : goal.returns-clause-end
returns-clause-end g = λ C I es s run t w n x h. end_counts_of C I es s run t w n x h
