-- Values found and inputs missed at the slots of names.
use Rattle.std.specs.Prelude.{◌≡◌, ◌≤◌, ◌^◌, length, ℕ, Bool, true, false, List, [], ◌∷◌, Option, Some, None}
use Rattle.board_program.specs.declared.program.ResolvedNeed.{ResolvedNeed}
use Rattle.board_program.specs.declared.program.ResolvedNeed.TheVariants as Waits
use Rattle.board_program.specs.declared.lexical_address.LexicalAddress.{LexicalAddress}
use Rattle.board_history.specs.Fields.{Absent, Counted, DatumOf, Frame, LiteralOf, Slot, Want, literal, slot_at}
use Rattle.board_history.specs.Needs.{array_missed, at_missed, cell_element, cell_value, element_missed, scalar_missed}
use Rattle.board_history.specs.Stands.{scalar_wanted}
use Rattle.task_code.specs.Code.{Code}
use Rattle.task_code.specs.Compute.{key_of}
use Rattle.values.specs.declared.key.Key.{Key}
use Rattle.values.specs.declared.value.Scalar.{Scalar}

-- the list is empty
abbrev pub is_nil : {X : Type 0} → List X → Bool
is_nil [] = true
is_nil (x ∷ xs) = false

-- the missing input of a target that is to have a value, if there is one
abbrev pub value_missed : List (Option Counted) → Option ℕ → List (Want ℕ)
value_missed cs None = []
value_missed cs (Some d) = scalar_wanted (cell_value (slot_at cs d)) d

module _ (C : Code) (cs : List (Option Counted)) where
  -- the scalar of a slot, or None if it is not known
  abbrev pub scalar_in : Slot → Option Scalar
  scalar_in Absent = None
  scalar_in (DatumOf d) = cell_value (slot_at cs d)
  scalar_in (LiteralOf e k) = literal C e k

  -- the element under a key, if the slot is that of an array that has it
  abbrev pub element_in : Slot → Key → Option Scalar
  element_in Absent k = None
  element_in (DatumOf d) k = cell_element k (slot_at cs d)
  element_in (LiteralOf e n) k = None

  -- the element under the key that a scalar is
  abbrev pub element_by : Slot → Option Scalar → Option Scalar
  element_by a None = None
  element_by a (Some v) = element_in a (key_of v)

  module _ (f : Option LexicalAddress → Slot) where
    -- the scalar or element that satisfies the need, if there is one
    abbrev pub wanted_found : ResolvedNeed → Option Scalar
    wanted_found (Waits.Stored r) = scalar_in (f r)
    wanted_found (Waits.Closed r) = None
    wanted_found (Waits.At a r) = element_by (f a) (scalar_in (f r))
    wanted_found (Waits.AtKey a k) = element_in (f a) k

    -- the missing inputs of the need
    abbrev pub wanted_missed : ResolvedNeed → List (Want ℕ)
    wanted_missed (Waits.Stored r) = scalar_missed cs (f r)
    wanted_missed (Waits.Closed r) = array_missed cs (f r)
    wanted_missed (Waits.At a r) = at_missed C cs (f a) (f r)
    wanted_missed (Waits.AtKey a k) = element_missed cs (f a) k

-- no instance has more than 2^64 slots
abbrev pub FewSlots : List (Option Frame) → Type 0
FewSlots fs = (k : ℕ) (f : Frame) → slot_at fs k ≡ Some f → length f.slots ≤ 2 ^ 64
