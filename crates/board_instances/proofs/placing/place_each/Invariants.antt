use Rattle.std.proofs.Common.{◌≡◌, ◌≤◌, ◌+◌, ◌*◌, ◌++◌, List, length, map, vec_capacity, vec_len}
use Rattle.std.specs.Vec.Iter.{into_iter_items}
use Rattle.slab.specs.Slab.{HasRoomFor}
use Rattle.board_history.specs.Fields.{Frame}
use Rattle.board_instances.specs.Openings.{ArePlaced}
use Rattle.board_instances.specs.View.{frames_view, opening_frame, rows_view}
use Rattle.board_instances.proofs.placing.place_each.Given as goal

abbrev pub invariant-loop-opening : goal.invariant-loop-opening
invariant-loop-opening l = record {
  placed : (frames : List Frame) × (frames ++ map opening_frame (into_iter_items l.opening-iterator) ≡ map opening_frame l.fn.list.items) × ArePlaced frames l.entries (frames_view l.fn.instances.slots) (frames_view l.instances.slots) (rows_view l.fn.items.items) (rows_view l.items.items) l.last;
  room : HasRoomFor l.fn.instances (vec_len l.fn.list) → vec_len l.fn.items + vec_len l.fn.list * length l.entries ≤ vec_capacity l.fn.items → HasRoomFor l.instances (length (into_iter_items l.opening-iterator)) × (vec_len l.items + length (into_iter_items l.opening-iterator) * length l.entries ≤ vec_capacity l.items) × (l.instances.capacity ≡ l.fn.instances.capacity);
  capacity : vec_capacity l.fn.items ≤ vec_capacity l.items;
}
