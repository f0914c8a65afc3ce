-- Instances by their keys, and those further out.
use Rattle.std.proofs.Common.{◌≡◌, ◌∙◌, refl, ap, ℕ, zero, suc, ◌+◌, ◌-◌, ◌<◌, ◌≤◌, List, [], ◌∷◌, length, map, option_map, Option, Some, None, arith}
use Rattle.std.specs.Prelude.{slice_index_or}
use Rattle.slab.specs.Slab.{Slab, get}
use Rattle.board_history.specs.Fields.{Absent, Frame, frame_up, slot_at}
use Rattle.task_code.specs.Code.{nth}
use Rattle.board_instances.specs.View.{frame_view, frames_view, slot_view}
use Rattle.board_instances.specs.declared.instance.Instance.{Instance}
use Rattle.board_instances.specs.declared.instance.Slot.{Slot}

-- the instance of a key
slot_there : (fs : List (Option Instance)) (k : ℕ) → slot_at (frames_view fs) k ≡ option_map frame_view (slice_index_or fs k None)
slot_there [] k = refl
slot_there (f ∷ fs) zero = refl
slot_there (f ∷ fs) (suc k) = slot_there fs k

pub frame_there : (s : Slab Instance) (k : ℕ) → slot_at (frames_view s.slots) k ≡ option_map frame_view (get s k)
frame_there s k = slot_there s.slots k

-- from an instance outwards
module _ (s : Slab Instance) (n k : ℕ) where
  up_by : (r : Option Frame) → slot_at (frames_view s.slots) k ≡ r → frame_up (frames_view s.slots) (suc n) k ≡ elim r [ None ↦ None | Some f ↦ elim f.parent [ None ↦ None | Some j ↦ frame_up (frames_view s.slots) n j ] ]
  up_by r e = ap (λ (q : Option Frame). elim q [ None ↦ None | Some f ↦ elim f.parent [ None ↦ None | Some j ↦ frame_up (frames_view s.slots) n j ] ]) e

  up_by_parent : (o r : Option ℕ) → o ≡ r → ◌≡◌ {A = Option Frame} (elim o [ None ↦ None | Some j ↦ frame_up (frames_view s.slots) n j ]) (elim r [ None ↦ None | Some j ↦ frame_up (frames_view s.slots) n j ])
  up_by_parent o r e = ap (λ (q : Option ℕ). elim q [ None ↦ None | Some j ↦ frame_up (frames_view s.slots) n j ]) e

-- none is further out than nothing
pub up_none : (s : Slab Instance) (n k : ℕ) → get s k ≡ None → frame_up (frames_view s.slots) n k ≡ None
up_none s zero k e = frame_there s k ∙ ap (option_map frame_view) e
up_none s (suc n) k e = up_by s n k None (frame_there s k ∙ ap (option_map frame_view) e)

pub up_here : (s : Slab Instance) (n k : ℕ) → n ≡ 0 → frame_up (frames_view s.slots) n k ≡ option_map frame_view (get s k)
up_here s zero k e = frame_there s k
up_here s (suc n) k e = absurd (omega (arith, e))

pub up_outer : (s : Slab Instance) (n k : ℕ) (f : Instance) → get s k ≡ Some f → f.parent ≡ None → 0 < n → frame_up (frames_view s.slots) n k ≡ None
up_outer s zero k f e o h = absurd (omega (arith, h))
up_outer s (suc n) k f e o h = up_by s n k (Some (frame_view f)) (frame_there s k ∙ ap (option_map frame_view) e) ∙ up_by_parent s n k f.parent None o

up_step : (s : Slab Instance) (n k j : ℕ) (f : Instance) → get s k ≡ Some f → f.parent ≡ Some j → frame_up (frames_view s.slots) (suc n) k ≡ frame_up (frames_view s.slots) n j
up_step s n k j f e o = up_by s n k (Some (frame_view f)) (frame_there s k ∙ ap (option_map frame_view) e) ∙ up_by_parent s n k f.parent (Some j) o

pub up_next : (s : Slab Instance) (n l k j : ℕ) (f : Instance) → get s k ≡ Some f → f.parent ≡ Some j → l < n → frame_up (frames_view s.slots) (n - l) k ≡ frame_up (frames_view s.slots) (n - (l + 1)) j
up_next s n l k j f e o h = ap (λ m. frame_up (frames_view s.slots) m k) (more n l h) ∙ up_step s (n - (l + 1)) k j f e o
  where
    more : (n l : ℕ) → l < n → n - l ≡ suc (n - (l + 1))
    more n l h = omega (arith, h)

-- what stands in a slot, and nothing past the last
pub nth_there : (xs : List Slot) (n : ℕ) (d : Slot) → n < length xs → nth Absent (map slot_view xs) n ≡ slot_view (slice_index_or xs n d)
nth_there [] n d h = absurd (omega (arith, h))
nth_there (x ∷ xs) zero d h = refl
nth_there (x ∷ xs) (suc n) d h = nth_there xs n d (omega (arith, h))

pub nth_past : (xs : List Slot) (n : ℕ) → length xs ≤ n → nth Absent (map slot_view xs) n ≡ Absent
nth_past [] n h = refl
nth_past (x ∷ xs) zero h = absurd (omega (arith, h))
nth_past (x ∷ xs) (suc n) h = nth_past xs n (omega (arith, h))
