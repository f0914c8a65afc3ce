-- Room for no new items is the room that there is.
use Rattle.std.proofs.Common.{arith, ◌≡◌, ℕ}
use Rattle.task_code.specs.Code.{Code}
use Rattle.board_items.specs.Room.{IsRoomy, IsRoomyFor}
use Rattle.board_items.specs.declared.items.Items.{Items}

pub none_more : (C : Code) (items : Items) (controls leaves : ℕ) → controls ≡ 0 → leaves ≡ 0 → IsRoomy C items → IsRoomyFor C controls leaves items
none_more C items controls leaves no_controls no_leaves r =
    record {
      controls_counted = (let h = r.controls_counted in omega arith);
      leaves_counted = (let h = r.leaves_counted in omega arith);
      controls_fit = (let h = r.controls_fit in omega arith);
      leaves_fit = (let h = r.leaves_fit in omega arith);
      noted = r.noted;
    }
