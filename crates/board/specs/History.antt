-- The state that a history leads to.
use Rattle.std.specs.Prelude.{List, Option, Some, None}
use Rattle.dataflow.specs.Machine.{Event, start}
use Rattle.board_history.specs.CodeReplay.{replayed}
use Rattle.task_code.specs.Code.{Code}
use Rattle.task_code.specs.Machine.{CodeState}
use Rattle.task_code.specs.System.{code_system}

-- the first state, where a list of events is not a history
abbrev pub or_start : Code → Option CodeState → CodeState
or_start C None = start (code_system C)
or_start C (Some s) = s

unfoldable pub state_of : Code → List Event → CodeState
state_of C es = or_start C (replayed C es)
