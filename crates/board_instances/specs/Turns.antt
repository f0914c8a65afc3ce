-- Blocks that an End opens, and the turns of a loop among them.
use Rattle.std.specs.Prelude.{◌≡◌, ℕ, List, [], ◌++◌, Option, Some}
use Rattle.std.specs.List.{AllZip}
use Rattle.board_history.specs.Fields.{Frame, Slot}
use Rattle.task_code.specs.Code.{Code}
use Rattle.task_code.specs.Compute.{Elements, key_scalar}
use Rattle.task_code.specs.Places.{Step}
use Rattle.values.specs.declared.key.Key.{Key}
use Rattle.values.specs.declared.value.Scalar.{Scalar}
use Rattle.board_instances.specs.Openings.{IsInner}
use Rattle.board_instances.specs.View.{opening_frame}
use Rattle.board_instances.specs.declared.pending.PendingInstance.{PendingInstance}

module _ (C : Code) (fs : List (Option Frame)) (at number : ℕ) where
  -- an opened instance of the body, with the values of a turn's variables
  pub record IsOpening (way : Option Step) (passed : List Slot) (value turn : Option Scalar) (o : PendingInstance) : Type 0 where
    pub inner : IsInner C fs at number way passed (opening_frame o)
    pub value_is : o.value ≡ value
    pub turn_is : o.turn ≡ turn

  -- an instance for a turn of a loop, reached by a step at this offset
  abbrev pub IsTurn : (offset : ℕ) → Key × Scalar → PendingInstance → Type 0
  IsTurn offset t o = IsOpening (Some (record { offset = offset; key = t.0 })) [] (Some t.1) (Some (key_scalar t.0)) o

  -- one instance for each turn was appended
  pub record AddsTurns (offset : ℕ) (turns : Elements) (old new : List PendingInstance) : Type 0 where
    pub added : List PendingInstance
    pub new_is : new ≡ old ++ added
    pub each : AllZip (IsTurn offset) turns added
