-- The board that a refused replay leaves.
use Rattle.std.specs.Prelude.{◌≡◌, ◌++◌, ℕ, Bool, true, List, Option, map}
use Rattle.dataflow.specs.Machine as Machine
use Rattle.board.specs.Board.{Seen}
use Rattle.task_code.specs.Code.{Code}
use Rattle.task_code.specs.declared.event.Event.{Event}
use Rattle.task_code.specs.View.{event_view}
use Rattle.swt_trace.specs.Trace.{IsTrace}
use Rattle.swt_trace.specs.declared.ending.Ending.{Ending}

-- the history has the first of these events
abbrev pub IsSoFar : List Event → List Machine.Event → Type 0
IsSoFar events history = (rest : List Event) × (map event_view events ≡ history ++ map event_view rest)

-- the events before the refused one, or all events, have led to the board, which was kept because that was wanted
pub record IsRefusedBy (C : Code) (bytes : List ℕ) (keeps : Bool) (event : Option Event) (board : Seen) : Type 0 where
  pub wanted : keeps ≡ true
  pub code : board.code ≡ C
  pub events : List Event
  pub ending : Option Ending
  pub trace : IsTrace bytes events ending
  pub so_far : IsSoFar events board.history
