-- The slots of the names of an instance.
use Rattle.std.specs.Prelude.{ℕ, List, Option, Some, None}
use Rattle.board_program.specs.declared.lexical_address.LexicalAddress.{LexicalAddress}
use Rattle.board_history.specs.Fields.{Absent, DatumOf, Frame, LiteralOf, Slot, frame_up}
use Rattle.task_code.specs.Code.{nth}

-- a slot of an instance
abbrev pub slot_in : Option Frame → ℕ → Slot
slot_in None n = Absent
slot_in (Some f) n = nth Absent f.slots n

-- the slot at a lexical address, seen from an instance; absent if the address does not resolve
abbrev pub spot_slot : List (Option Frame) → ℕ → LexicalAddress → Slot
spot_slot fs k s = slot_in (frame_up fs s.levels k) s.slot

abbrev pub led_slot : List (Option Frame) → ℕ → Option LexicalAddress → Slot
led_slot fs k None = Absent
led_slot fs k (Some s) = spot_slot fs k s

-- the datum of a slot
abbrev pub datum_of : Slot → Option ℕ
datum_of Absent = None
datum_of (DatumOf d) = Some d
datum_of (LiteralOf e k) = None
