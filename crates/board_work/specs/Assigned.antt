-- The work of an item, and its result.
use Rattle.std.specs.Prelude.{ℕ, List, Option, Some, None, Result}
use Rattle.std.specs.Arc.{arc_value}
use Rattle.dataflow.specs.System.{Answer}
use Rattle.values.specs.declared.fault.OpFault.{OpFault}
use Rattle.values.specs.declared.key.Key.{Key}
use Rattle.values.specs.declared.value.Scalar.{Scalar}
use Rattle.values.specs.declared.value.Value.{Value}
use Rattle.task_code.specs.Code.{Entry, Kind, Control, kind_of}
use Rattle.task_code.specs.Compute as Pure
use Rattle.task_code.specs.View.{entry_view}
use Rattle.board_work.specs.declared.work.WorkTask.{WorkTask}
use Rattle.board_work.specs.declared.work.WorkTask.TheVariants as Does
use Rattle.board_work.specs.declared.outcome.Outcome.{Outcome}
use Rattle.board_work.specs.declared.outcome.Outcome.TheVariants as Of
use Rattle.board_work.specs.Outcome.{computed_in, control_result}
use Rattle.board_work.specs.View.{computed_view}

-- the task of an item: it opens the script, or it runs an entry
pub data Task : Type 0 where
  opens_script : Task
  runs : Entry → Task

-- a running item, with the answers to its needs
pub record Assigned : Type 0 where
  pub item : ℕ
  pub job : Task
  pub answers : List (Answer Key Scalar)

abbrev pub job_view : WorkTask → Task
job_view Does.Script = opens_script
job_view (Does.Entry e) = runs (entry_view (arc_value e))

-- the kind of the item
abbrev pub job_kind : Task → Kind
job_kind opens_script = Control
job_kind (runs e) = kind_of e.act

-- the value that a leaf item stores or prints, or its fault
abbrev pub job_result : Task → List (Answer Key Scalar) → Option (Result Value OpFault)
job_result opens_script xs = None
job_result (runs e) xs = Pure.leaf_result e.act xs

-- the result that the end of a control item needs
abbrev pub job_control : Task → List (Answer Key Scalar) → Option Pure.Computed
job_control opens_script xs = Some Pure.Opens
job_control (runs e) xs = control_result e.act xs

-- the whole result of an item
abbrev pub job_computed : Task → List (Answer Key Scalar) → Pure.Computed
job_computed opens_script xs = Pure.Opens
job_computed (runs e) xs = Pure.compute e.act xs

-- the meaning of an outcome for its job
abbrev pub meaning : Task → Outcome → Pure.Computed
meaning opens_script (Of.Leaf v) = Pure.given v
meaning opens_script (Of.Control c) = computed_view c
meaning (runs e) o = computed_in e.act o
