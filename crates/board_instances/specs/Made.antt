-- The instances that an End creates, in terms of those that were placed.
use Rattle.std.specs.Prelude.{◌≡◌, ℕ, ◌+◌, ◌<◌, ◌^◌, List, length, Option, Some, None}
use Rattle.board_history.specs.Ending.{Instance, level_inside, path_around}
use Rattle.board_history.specs.Fields.{Frame, Slot, slot_at, step_before}
use Rattle.task_code.specs.Code.{Code, body}
use Rattle.task_code.specs.Places.{Step}
use Rattle.board_instances.specs.Openings.{Put}

-- the same instance, once its data are made
abbrev pub with_slots : List Slot → Frame → Frame
with_slots xs f = record { parent = f.parent; level = f.level; depth = f.depth; way = f.way; body = f.body; live = f.live; slots = xs }

-- the block of an instance nested in the one around: its body and its path
abbrev pub block_of : List (Option Frame) → (around : Option ℕ) → Frame → ℕ × List Step
block_of fs around f = (f.body, step_before f.way (path_around fs around))

-- the placed instance, as one that an End creates
abbrev pub made_as : List (Option Frame) → (around : Option ℕ) → Put → Instance
made_as fs around p = record { key = p.key; body = p.frame.body; path = step_before p.frame.way (path_around fs around) }

-- an instance of a block with entries, nested in the one around
pub record IsOpened (C : Code) (fs : List (Option Frame)) (around : Option ℕ) (f : Frame) : Type 0 where
  pub parent : f.parent ≡ around
  pub level : f.level ≡ level_inside fs around
  pub depth : f.depth ≡ length (step_before f.way (path_around fs around))
  pub live : f.live ≡ length (body C f.body).entries
  pub some : 0 < f.live

-- the instance around, if there is one, exists, and its live count can grow by this number
abbrev pub FitsAround : List (Option Frame) → (around : Option ℕ) → ℕ → Type 0
FitsAround fs None n = Unit {0}
FitsAround fs (Some k) n = (f : Frame) × (slot_at fs k ≡ Some f) × (f.live + n < 2 ^ 64)
