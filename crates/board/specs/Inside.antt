-- The invariant of a board, and its model for contracts.
use Rattle.std.specs.Prelude.{◌≡◌, ◌+◌, ◌≤◌, ℕ, List, Option, Some, None, map, vec_capacity, vec_len}
use Rattle.dataflow.specs.Machine as Machine
use Rattle.dataflow.specs.System.{In}
use Rattle.board_history.specs.Stands.{Stands}
use Rattle.task_code.specs.Code.{Code, entry}
use Rattle.task_code.specs.Compute.{EntryFault}
use Rattle.task_code.specs.Effects.{Item, Main, Task}
use Rattle.task_code.specs.Machine.{CanBegin}
use Rattle.task_code.specs.View.{event_view}
use Rattle.task_code.specs.Whole.{IsCode}
use Rattle.board_data.specs.Data.{AreRising}
use Rattle.board_program.specs.Spots.{layout_of}
use Rattle.board_data.specs.Wanted.{FewSlots}
use Rattle.board_instances.specs.View.{frames_view}
use Rattle.paths.specs.declared.faults.Fault.{Fault}
use Rattle.paths.specs.declared.statements.StatementInstance.{StatementInstance}
use Rattle.board.specs.declared.board.Board.TheInside.{Inside}
use Rattle.board.specs.Blocked.{path_of}
use Rattle.board_program.specs.Program.{AreAtMost}
use Rattle.board.specs.Board.{AreByWorkers, Rises, Seen}
use Rattle.board.specs.History.{state_of}
use Rattle.board.specs.Numbers.{AreNumbered}
use Rattle.board_items.specs.Room.{IsRoomy}
use Rattle.board_effects.specs.Effects.{kind_of_fault}
use Rattle.board.specs.View.{Told, fields_view}
use Rattle.board.specs.declared.state.BoardState.{BoardState}

abbrev pub seen_of : Inside → Seen
seen_of a =
    record {
      code = a.program;
      limit = a.limit;
      state = state_of a.program (map event_view a.history.items);
      history = map event_view a.history.items;
      newly = a.core.items.newly.items;
    }

-- the statement belongs to the task
abbrev pub IsStatementOf : Code → Task → StatementInstance → Type 0
IsStatementOf C Main s = ⊥
IsStatementOf C (Item i p c) s = (s.at ≡ (entry C i).at) × (path_of s ≡ p)

-- the fault that was met is recorded, with its statement
abbrev pub IsNoted : Code → Option (Task × Machine.Fault EntryFault) → Option Fault → Type 0
IsNoted C None None = Unit {0}
IsNoted C (Some m) (Some f) = (m.1 ≡ kind_of_fault f.kind) × IsStatementOf C m.0 f.statement
IsNoted C None (Some f) = ⊥
IsNoted C (Some m) None = ⊥

-- further invariants of the fields
pub record IsKept (C : Code) (core : BoardState) : Type 0 where
  pub few : FewSlots (frames_view core.data_state.instances.slots)
  pub rising : AreRising core.data_state.store
  pub roomy : IsRoomy C core.items
  pub rises : Rises core.items.newly.items

-- the fields stand for the state that the history leads to
pub record Stand (C : Code) (events : List Machine.Event) (core : BoardState) : Type 0 where
  pub told : Told
  pub stands : Stands C (layout_of C) events (fields_view told core)
  pub fault : IsNoted C told.fault core.fault
  pub kept : IsKept C core

pub record IsSound (a : Inside) : Type 0 where
  pub whole : IsCode a.program
  pub names : AreAtMost a.program a.most_names
  pub stand : Stand a.program (map event_view a.history.items) a.core
  pub room : a.core.fault ≡ None → vec_len a.history + a.core.items.running ≤ vec_capacity a.history
  pub newly : (n : ℕ) → In n a.core.items.newly.items → CanBegin a.program (state_of a.program (map event_view a.history.items)) n
  pub within : vec_len a.history ≤ a.limit
  pub workers : AreByWorkers (map event_view a.history.items)
  pub numbers : AreNumbered (map event_view a.history.items)
