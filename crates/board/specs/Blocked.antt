-- The blocked statements of a state, and its fault, as lists and values of the program.
use Rattle.std.specs.Prelude.{◌≡◌, ◌⊎◌, ℕ, true, nat_lt, List, [], ◌∷◌, reverse}
use Rattle.dataflow.specs.System.{In}
use Rattle.task_code.specs.Code.{Code}
use Rattle.task_code.specs.Machine.{CodeState}
use Rattle.task_code.specs.Places as Places
use Rattle.task_code.specs.Runs.{Blocked, FaultAt}
use Rattle.paths.specs.declared.faults.Fault.{Fault}
use Rattle.paths.specs.declared.statements.StatementInstance.{StatementInstance}
use Rattle.paths.specs.Order.{path_below}
use Rattle.board_effects.specs.Effects.{kind_of_fault}
use Rattle.board.specs.View.{path_view}

-- a path of the program lists its outermost step first, one of a place its last step first
abbrev pub path_of : StatementInstance → List Places.Step
path_of s = reverse (path_view s.path.items)

-- a statement precedes another: by path, and then by offset
abbrev pub comes_before : StatementInstance → StatementInstance → Type 0
comes_before s t = (path_below s.path.items t.path.items ≡ true) ⊎ ((path_of s ≡ path_of t) × (nat_lt s.at t.at ≡ true))

-- each statement precedes all following ones
abbrev pub InTextOrder : List StatementInstance → Type 0
InTextOrder [] = Unit {0}
InTextOrder (s ∷ ss) = ((t : StatementInstance) → In t ss → comes_before s t) × InTextOrder ss

-- these are all blocked statements, in order, each once
pub record AreBlocked (C : Code) (s : CodeState) (statements : List StatementInstance) : Type 0 where
  pub all : (at : ℕ) (path : List Places.Step) → Blocked C s at path → (t : StatementInstance) × In t statements × (t.at ≡ at) × (path_of t ≡ path)
  pub only : (t : StatementInstance) → In t statements → Blocked C s t.at (path_of t)
  pub order : InTextOrder statements

-- the fault is the one that stands in the state
abbrev pub IsFaultOf : Code → CodeState → Fault → Type 0
IsFaultOf C s f = FaultAt C s (kind_of_fault f.kind) f.statement.at (path_of f.statement)
