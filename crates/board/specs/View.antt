-- The view of the fields of a board as values of `board_history`.
use Rattle.std.specs.Prelude.{ℕ, List, Option, None, Some, map}
use Rattle.dataflow.specs.Machine as Machine
use Rattle.board_history.specs.Fields as Pure
use Rattle.task_code.specs.Compute.{Elements, EntryFault}
use Rattle.task_code.specs.Effects.{Task}
use Rattle.task_code.specs.Places as Places
use Rattle.board_data.specs.View.{cells_view}
use Rattle.board_instances.specs.View.{frames_view, rows_view, step_view}
use Rattle.paths.specs.declared.steps.Step.{Step}
use Rattle.board_items.specs.View.{queue_view, waiters_view}
use Rattle.board.specs.declared.state.BoardState.{BoardState}

-- a path
abbrev pub path_view : List Step → List Places.Step
path_view p = map step_view p

-- parts of the view that the fields do not store: the remaining turns of items that continue loops, and the task that
-- met the fault
pub record Told : Type 0 where
  pub turns : ℕ → Option Elements
  pub fault : Option (Task × Machine.Fault EntryFault)

-- these parts before any event
abbrev pub nothing_told : Told
nothing_told = record { turns = λ n. None; fault = None }

-- the fields
abbrev pub fields_view : Told → BoardState → Pure.Fields
fields_view told c =
    record {
      frames = frames_view c.data_state.instances.slots;
      rows = rows_view c.items.rows.items;
      cells = cells_view c.data_state.store.cells;
      waiting = waiters_view c.items.rules.waiting;
      turns = told.turns;
      queue = queue_view c.items.queue;
      lines = c.lines.items;
      fault = told.fault;
      running = c.items.running;
      newly = c.items.newly.items;
    }

-- the same parts with this fault
abbrev pub with_fault : Task → Machine.Fault EntryFault → Told → Told
with_fault t f told = record { turns = told.turns; fault = Some (t, f) }
