-- An instance that is found has a count that fits.
use Rattle.std.proofs.Common.{◌≡◌, ◌∙◌, ℕ, ◌+◌, ◌<◌, sym, ap, Some}
use Rattle.std.specs.Prelude.{◌^◌, option_map}
use Rattle.slab.specs.Slab.{Slab, get}
use Rattle.board_history.specs.Fields.{Frame, slot_at}
use Rattle.board_instances.proofs.Frames.{frame_there}
use Rattle.board_instances.specs.View.{frame_view, frames_view}
use Rattle.board_instances.specs.declared.instance.Instance.{Instance}

pub fits_there : (s : Slab Instance) (k count : ℕ) (i : Instance) → Some i ≡ get s k → i.live + count < 2 ^ 64 → (f : Frame) × (slot_at (frames_view s.slots) k ≡ Some f) × (f.live + count < 2 ^ 64)
fits_there s k count i e l = (frame_view i, frame_there s k ∙ ap (option_map frame_view) (sym e), l)
