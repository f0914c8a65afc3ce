use Rattle.board_history.proofs.Replays.{run_next, run_none, run_some, run_replayed, run_is_replayed, replayed_exact, replayed_then}
use Rattle.board_history.proofs.every_replay.Goals as goal

pub returns-clause-steps : goal.returns-clause-steps
returns-clause-steps g c = λ S X R L es s x e t h. run_next S X R L es s x e t h

pub returns-clause-no_other : goal.returns-clause-no_other
returns-clause-no_other g c = λ S X R L es s x e h t y. run_none S X R L es s x e h t y

pub returns-clause-is_run : goal.returns-clause-is_run
returns-clause-is_run g c = λ S X R L es s h. run_replayed S X R L es s h

pub returns-clause-found : goal.returns-clause-found
returns-clause-found g c = λ S X R L es t x. run_is_replayed S X R L es t x

pub returns-clause-exact : goal.returns-clause-exact
returns-clause-exact g c = λ S X R L es s h run. replayed_exact S X R L es s h run

pub returns-clause-grows : goal.returns-clause-grows
returns-clause-grows g c = λ S X es e. replayed_then S X es e

pub returns-clause-has_next : goal.returns-clause-has_next
returns-clause-has_next g c = λ S X R L es s x e new y. run_some S X R L es s x e new y
