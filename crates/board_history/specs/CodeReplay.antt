-- The machine of code as a function, with short names.
use Rattle.std.specs.Prelude.{List, Option}
use Rattle.dataflow.specs.Machine.{Event}
use Rattle.board_history.specs.Replay.{next_state as next_in, replayed as replayed_in, and_then as and_then_in}
use Rattle.board_history.specs.Elements.{code_tests}
use Rattle.task_code.specs.Code.{Code}
use Rattle.task_code.specs.Machine.{CodeState}
use Rattle.task_code.specs.System.{code_system}

-- the state after an event, if the machine has this step, without free data
abbrev pub next_state : Code → CodeState → Event → Option CodeState
next_state C s e = next_in (code_system C) code_tests s e

-- the state that a history leads to
abbrev pub replayed : Code → List Event → Option CodeState
replayed C es = replayed_in (code_system C) code_tests es

-- the state after one more event
abbrev pub and_then : Code → Option CodeState → Event → Option CodeState
and_then C r e = and_then_in (code_system C) code_tests r e
