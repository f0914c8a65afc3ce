-- The arguments of a call in the instance that it opens.
use Rattle.std.specs.Prelude.{◌≡◌, ℕ, ◌<◌, ◌^◌, List, ◌++◌, length, map, Option, Some, None}
use Rattle.dataflow.specs.System.{In}
use Rattle.board_history.specs.Ending.{Instance}
use Rattle.board_history.specs.Fields.{Frame, Slot, slot_at}
use Rattle.task_code.specs.Code.{ByCalls, Code, Name, arguments, body, call_at, entry}
use Rattle.board_program.specs.Spots.{spot_in}
use Rattle.board_program.specs.Tables.{passed_in}
use Rattle.board_instances.specs.Openings.{passed_from}

-- the slots of the arguments of an entry, if it is a call, follow the slots of the body's own data
pub record HandsOver (C : Code) (fs : List (Option Frame)) (k e : ℕ) (m : Instance) (f : Frame) : Type 0 where
  pub outer : Frame
  pub there : slot_at fs k ≡ Some outer
  pub own : List Slot
  pub own_are : length own ≡ length (body C m.body).makes
  pub slots : f.slots ≡ own ++ passed_from fs k e 0 (map (passed_in C outer.body) (arguments (entry C e).act))
  pub few : length f.slots < 2 ^ 64
  pub function : (body C m.body).opener ≡ ByCalls
  pub call : call_at C (entry C e).offset ≡ e
  pub leads : (s : Name) → In s ((entry C e).reads ++ (entry C e).writes) → spot_in C outer.body s ≡ None → ⊥
