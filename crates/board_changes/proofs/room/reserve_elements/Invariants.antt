use Rattle.std.proofs.Common.{◌≡◌, ◌≤◌, ℕ, true, Some, length, take}
use Rattle.dataflow.specs.System.{In}
use Rattle.data_store.specs.Arrays.{room_for}
use Rattle.data_store.specs.Stores.{array_at, at}
use Rattle.values.specs.declared.map.Element.{Element}
use Rattle.board_data.specs.Data.{AreRising, is_keyed}
use Rattle.board_data.specs.View.{cells_view}
use Rattle.board_changes.proofs.room.reserve_elements.Given as goal

abbrev pub invariant-loop-one : goal.invariant-loop-one
invariant-loop-one l = record {
  places : (d : ℕ) → l.d ≡ Some d → is_keyed (at l.store d) ≡ true → (e : Element) → In e (take l.one-index l.elements) → length l.elements ≤ room_for e.key (array_at l.store d);
  cells : cells_view l.store.cells ≡ cells_view l.initial.store.cells;
  rising : AreRising l.initial.store → AreRising l.store;
}
