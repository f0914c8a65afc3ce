use Rattle.std.proofs.Common.{◌≡◌, ◌≤◌, ◌+◌, ◌*◌, length, vec_len}
use Rattle.dataflow.specs.System.{In}
use Rattle.board_data.specs.Data.{AreRising}
use Rattle.board_instances.specs.declared.pending.PendingInstance.{PendingInstance}
use Rattle.board_changes.specs.Filled.{HasSlots}
use Rattle.board_changes.proofs.Filled.{Filling}
use Rattle.board_changes.proofs.instance_data.fill_all.Given as goal

abbrev pub invariant-loop-at : goal.invariant-loop-at
invariant-loop-at l =
    Filling l.own l.slots l.at l.initial.list.items l.initial.store l.list.items l.store
    × (vec_len l.list ≡ vec_len l.initial.list)
    × (((o : PendingInstance) → In o l.initial.list.items → HasSlots (length l.own) o) → l.initial.store.room ≤ l.store.room + l.at * length l.own)
    × (AreRising l.initial.store → AreRising l.store)
    × (((o : PendingInstance) → In o l.initial.list.items → HasSlots (length l.own) o) → vec_len l.initial.list * length l.own ≤ l.initial.store.room → l.store.bound ≡ l.initial.store.bound)
