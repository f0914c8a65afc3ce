-- Replays of worked scripts, and fields that stand for their states.
use Rattle.std.specs.Ordering.{int_eq}
use Rattle.std.specs.Prelude.{◌≡◌, ℕ, ℤ, pos, ◌-◌, List, [], ◌∷◌, Some, None, if◌then◌else◌}
use Rattle.dataflow.specs.Machine.{Begin, End, Back}
use Rattle.board_history.specs.CodeReplay.{replayed}
use Rattle.board_history.specs.Fields.{DatumOf, Does, Fields, Frame, Holding, Layout, Over, Ready, Script, Unset, Waiting, Whole}
use Rattle.board_history.specs.Stands.{Stands}
use Rattle.task_code.specs.Code.{Control, Kind, Leaf, Local, Owned, Parameter}
use Rattle.task_code.specs.Machine.{CodeState}
use Rattle.task_code.specs.Worked.{hello, used_before_assigned}
use Rattle.values.specs.declared.value.Scalar.TheVariants.{Number, Text}

-- `printf("hello");` prints, and all items have ended
abbrev pub HelloReplayed : Type 0
HelloReplayed =
    (s : CodeState)
    × (replayed hello (Begin 0 1 ∷ End 0 1 ∷ Begin 1 2 ∷ Back 1 2 ∷ Begin 3 2 ∷ End 3 2 ∷ []) ≡ Some s)
    × (s.lines ≡ Text (104 ∷ 101 ∷ 108 ∷ 108 ∷ 111 ∷ []) ∷ [])
    × (s.items ≡ [])
    × (s.places ≡ [])

-- x = y + 1 cannot begin before y = 2 has ended
abbrev pub WaitsReplayed : Type 0
WaitsReplayed = replayed used_before_assigned (Begin 0 1 ∷ End 0 1 ∷ Begin 1 2 ∷ []) ≡ None

-- afterwards it can, and each datum is removed once no item may use it
abbrev pub LeavesReplayed : Type 0
LeavesReplayed =
    (s : CodeState)
    × (replayed used_before_assigned (Begin 0 1 ∷ End 0 1 ∷ Begin 1 3 ∷ End 1 3 ∷ Begin 1 2 ∷ End 1 2 ∷ Begin 1 4 ∷ End 1 4 ∷ []) ≡ Some s)
    × (s.items ≡ [])
    × (s.places ≡ [])
    × (s.stored ≡ [])

-- fields that stand for states of a worked script, with instances, data, waiting items and a queue; the layout of the
-- names of `int x = y + 1; int y = 2; printf("%i", x);`: x at slot 0, y at slot 1
abbrev pub worked_slot : Owned → ℕ
worked_slot (Local v) = v.node - 1
worked_slot (Parameter k b) = 0

abbrev pub worked_layout : Layout
worked_layout = record { levels = λ b r. 0; slot = λ b r. worked_slot r.owned }

-- its script's block
abbrev pub worked_frame : Frame
worked_frame = record { parent = None; level = 0; depth = 0; way = None; body = 0; live = 3; slots = DatumOf 0 ∷ DatumOf 1 ∷ [] }

-- a queue of leaf items of priority 0
abbrev pub leaf_queue : List ℕ → Kind → ℤ → List ℕ
leaf_queue ns Control z = []
leaf_queue ns Leaf z = if int_eq (pos 0) z then ns else []

-- the script is opened: item 3 is ready, item 2 waits for y and item 4 for x
abbrev pub opened_fields : Fields
opened_fields =
    record {
      frames = Some worked_frame ∷ [];
      rows =
          record { job = Script; status = Over }
          ∷ record { job = Does 0 0 0; status = Waiting }
          ∷ record { job = Does 0 1 0; status = Ready }
          ∷ record { job = Does 0 2 0; status = Waiting }
          ∷ [];
      cells = Some (record { reads = 1; writes = 1; content = Unset }) ∷ Some (record { reads = 1; writes = 1; content = Unset }) ∷ [];
      waiting = record { item = 2; missing = Whole 1 ∷ [] } ∷ record { item = 4; missing = Whole 0 ∷ [] } ∷ [];
      turns = λ n. None;
      queue = leaf_queue (3 ∷ []);
      lines = [];
      fault = None;
      running = 0;
      newly = 3 ∷ [];
    }

-- y is stored: item 2 is ready, and the live count of the instance is one less
abbrev pub assigned_fields : Fields
assigned_fields =
    record {
      frames = Some (record { parent = None; level = 0; depth = 0; way = None; body = 0; live = 2; slots = DatumOf 0 ∷ DatumOf 1 ∷ [] }) ∷ [];
      rows =
          record { job = Script; status = Over }
          ∷ record { job = Does 0 0 0; status = Ready }
          ∷ record { job = Does 0 1 0; status = Over }
          ∷ record { job = Does 0 2 0; status = Waiting }
          ∷ [];
      cells = Some (record { reads = 1; writes = 1; content = Unset }) ∷ Some (record { reads = 1; writes = 0; content = Holding (Number (pos 2)) }) ∷ [];
      waiting = record { item = 4; missing = Whole 0 ∷ [] } ∷ [];
      turns = λ n. None;
      queue = leaf_queue (2 ∷ []);
      lines = [];
      fault = None;
      running = 0;
      newly = 2 ∷ [];
    }

abbrev pub OpenedStands : Type 0
OpenedStands = Stands used_before_assigned worked_layout (Begin 0 1 ∷ End 0 1 ∷ []) opened_fields

abbrev pub AssignedStands : Type 0
AssignedStands = Stands used_before_assigned worked_layout (Begin 0 1 ∷ End 0 1 ∷ Begin 1 3 ∷ End 1 3 ∷ []) assigned_fields
