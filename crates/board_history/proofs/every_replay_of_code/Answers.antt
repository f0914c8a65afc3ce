use Rattle.board_history.proofs.Replays.{run_next, run_none, run_some, run_replayed, run_is_replayed, replayed_exact, replayed_then}
use Rattle.board_history.proofs.Elements.{code_told}
use Rattle.board_history.specs.Elements.{code_tests}
use Rattle.task_code.specs.System.{code_system}
use Rattle.task_code.proofs.Kept.{code_laws}
use Rattle.board_history.proofs.every_replay_of_code.Goals as goal

pub returns-clause-steps : goal.returns-clause-steps
returns-clause-steps g = λ C I es s x e t h. run_next (code_system C) code_tests (code_told C) (code_laws C I) es s x e t h

pub returns-clause-no_other : goal.returns-clause-no_other
returns-clause-no_other g = λ C I es s x e h t y. run_none (code_system C) code_tests (code_told C) (code_laws C I) es s x e h t y

pub returns-clause-is_run : goal.returns-clause-is_run
returns-clause-is_run g = λ C I es s h. run_replayed (code_system C) code_tests (code_told C) (code_laws C I) es s h

pub returns-clause-found : goal.returns-clause-found
returns-clause-found g = λ C I es t x. run_is_replayed (code_system C) code_tests (code_told C) (code_laws C I) es t x

pub returns-clause-exact : goal.returns-clause-exact
returns-clause-exact g = λ C I es s h run. replayed_exact (code_system C) code_tests (code_told C) (code_laws C I) es s h run

pub returns-clause-grows : goal.returns-clause-grows
returns-clause-grows g = λ C es e. replayed_then (code_system C) code_tests es e

pub returns-clause-has_next : goal.returns-clause-has_next
returns-clause-has_next g = λ C I es s x e new y. run_some (code_system C) code_tests (code_told C) (code_laws C I) es s x e new y
