-- Instances whose data are made.
use Rattle.std.specs.Prelude.{◌≡◌, ◌≤◌, ℕ, List, [], ◌∷◌, length, map}
use Rattle.data_store.specs.Stores.{Store}
use Rattle.board_program.specs.declared.program.LocalVariable.{LocalVariable}
use Rattle.board_data.specs.Made.{DataMade, slot_in, start_at}
use Rattle.board_data.specs.declared.making.InitialValues.{InitialValues}
use Rattle.board_instances.specs.Made.{with_slots}
use Rattle.board_instances.specs.View.{opening_frame, slot_view}
use Rattle.board_instances.specs.declared.pending.PendingInstance.{PendingInstance}
use Rattle.board_changes.specs.declared.instance_data.TurnSlots.{TurnSlots}

-- the initial values of an instance's variables
abbrev pub starts_of : TurnSlots → PendingInstance → InitialValues
starts_of at o = record { value_at = at.value; value = o.value; turn_at = at.turn; turn = o.turn }

-- an instance has this number of slots
abbrev pub HasSlots : ℕ → PendingInstance → Type 0
HasSlots n o = n ≤ length o.instance.slots.items

-- the data of an instance were made, and its first slots name them; nothing else of it has changed
pub record Fills (own : List LocalVariable) (at : TurnSlots) (old : PendingInstance) (s : Store) (new : PendingInstance) (t : Store) : Type 0 where
  pub frame : opening_frame new ≡ with_slots (map slot_view new.instance.slots.items) (opening_frame old)
  pub count : length new.instance.slots.items ≡ length old.instance.slots.items
  pub others : (i : ℕ) → length own ≤ i → slot_in new.instance.slots.items i ≡ slot_in old.instance.slots.items i
  pub makes : HasSlots (length own) old → DataMade own (start_at (starts_of at old)) (length own) s new.instance.slots.items t

-- the data of several instances were made, one after the other
abbrev pub AreFilled : List LocalVariable → TurnSlots → List PendingInstance → Store → List PendingInstance → Store → Type 0
AreFilled own at [] s [] t = t ≡ s
AreFilled own at (o ∷ os) s (p ∷ ps) t = (m : Store) × Fills own at o s p m × AreFilled own at os m ps t
AreFilled own at _ s _ t = ⊥
