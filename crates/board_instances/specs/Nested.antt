-- Instances nested in one another.
use Rattle.std.specs.Prelude.{◌≡◌, ℕ, suc, ◌<◌, List, Option, Some}
use Rattle.board_history.specs.Fields.{Frame, slot_at}

-- each instance has a live child, and its enclosing instance exists, one level further out
pub record IsNested (fs : List (Option Frame)) : Type 0 where
  pub inside : (k j : ℕ) (f : Frame) → slot_at fs k ≡ Some f → f.parent ≡ Some j → (g : Frame) × (slot_at fs j ≡ Some g) × (f.level ≡ suc g.level)
  pub kept : (k : ℕ) (f : Frame) → slot_at fs k ≡ Some f → 0 < f.live
