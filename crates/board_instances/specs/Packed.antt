-- Unpacking of slots and items.
use Rattle.std.specs.Prelude.{ℕ, Bool, ◌==◌, cond}
use Rattle.board_instances.specs.declared.instance.Slot.{Slot}
use Rattle.board_instances.specs.declared.instance.Slot.TheVariants.{Absent, Datum, Literal}
use Rattle.board_instances.specs.declared.item.ItemRecord.{ItemRecord}
use Rattle.board_instances.specs.declared.item.ItemRecord.TheVariants.{Does, Script}
use Rattle.board_instances.specs.declared.item.ItemStatus.{ItemStatus}

-- a literal of a call's entry at this index; the two greatest 32-bit numbers are not indices but stand for nothing and
-- for a datum
abbrev pub unpacked : (number place : ℕ) → Slot
unpacked number place = cond (place == 4294967295) Absent (cond (place == 4294967294) (Datum number) (Literal number place))

-- the script's item, or that of an entry
abbrev pub unpacked_item : Bool → ItemStatus → (entry instance chunk : ℕ) → ItemRecord
unpacked_item is_script status entry instance chunk = cond is_script (Script status) (Does status entry instance chunk)
