use Rattle.std.proofs.Common.{◌≡◌}
use Rattle.std.specs.Vec.Iter.{into_iter_items}
use Rattle.board_data.specs.Data.{AreRising}
use Rattle.board_data.specs.Stored.{Takes}
use Rattle.board_data.proofs.Stored.{put_in}
use Rattle.board_data.proofs.Steps.{one_by_one}
use Rattle.board_data.proofs.storing.insert_all.Given as goal

abbrev pub invariant-loop-one : goal.invariant-loop-one
invariant-loop-one l =
    (Takes l.d l.fn.elements.items l.initial.store →
    Takes l.d (into_iter_items l.one-iterator) l.store
    × (one_by_one (put_in l.d) (into_iter_items l.one-iterator) l.store ≡ one_by_one (put_in l.d) l.fn.elements.items l.initial.store))
    × (AreRising l.initial.store → AreRising l.store)
