-- The views of items and instances as rows and frames.
use Rattle.std.specs.Prelude.{ℕ, List, Option, map, option_map}
use Rattle.board_history.specs.Fields as Pure
use Rattle.task_code.specs.Places as Places
use Rattle.board_instances.specs.declared.item.ItemStatus.{ItemStatus}
use Rattle.board_instances.specs.declared.item.ItemStatus.TheVariants as Marks
use Rattle.board_instances.specs.declared.item.ItemTask.{ItemTask}
use Rattle.board_instances.specs.declared.item.ItemTask.TheVariants as Jobs
use Rattle.board_instances.specs.declared.item.ItemRecord.{ItemRecord}
use Rattle.board_instances.specs.declared.item.ItemRecord.TheVariants as Items
use Rattle.board_instances.specs.declared.instance.Slot.{Slot}
use Rattle.board_instances.specs.declared.instance.Slot.TheVariants as Slots
use Rattle.board_instances.specs.declared.instance.Instance.{Instance}
use Rattle.board_instances.specs.declared.pending.PendingInstance.{PendingInstance}
use Rattle.paths.specs.declared.steps.Step.{Step}

-- items
abbrev pub status_view : ItemStatus → Pure.Status
status_view Marks.Waiting = Pure.Waiting
status_view Marks.Ready = Pure.Ready
status_view (Marks.Running w) = Pure.Running w
status_view Marks.Over = Pure.Over

abbrev pub job_view : ItemTask → Pure.Job
job_view Jobs.Script = Pure.Script
job_view (Jobs.Does e k c) = Pure.Does k e c

abbrev pub row_view : ItemRecord → Pure.Row
row_view (Items.Script m) = record { job = Pure.Script; status = status_view m }
row_view (Items.Does m e k c) = record { job = Pure.Does k e c; status = status_view m }

abbrev pub rows_view : List ItemRecord → List Pure.Row
rows_view items = map row_view items

-- the new item of an entry in an instance
abbrev pub new_item : (instance entry : ℕ) → ItemRecord
new_item k e = Items.Does Marks.Waiting e k 0

-- instances
abbrev pub step_view : Step → Places.Step
step_view s = record { offset = s.offset; key = s.key }

abbrev pub slot_view : Slot → Pure.Slot
slot_view Slots.Absent = Pure.Absent
slot_view (Slots.Datum d) = Pure.DatumOf d
slot_view (Slots.Literal e k) = Pure.LiteralOf e k

abbrev pub frame_view : Instance → Pure.Frame
frame_view f =
    record {
      parent = f.parent;
      level = f.level;
      depth = f.depth;
      way = option_map step_view f.way;
      body = f.body;
      live = f.live;
      slots = map slot_view f.slots.items;
    }

abbrev pub frames_view : List (Option Instance) → List (Option Pure.Frame)
frames_view fs = map (λ f. option_map frame_view f) fs

abbrev pub opening_frame : PendingInstance → Pure.Frame
opening_frame o = frame_view o.instance
