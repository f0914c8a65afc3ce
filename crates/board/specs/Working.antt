-- The work of an item, computed from the fields of a board.
use Rattle.std.specs.Prelude.{◌≡◌, ◌<◌, List, [], Option, length, map}
use Rattle.dataflow.specs.System.{Answer}
use Rattle.board_history.specs.Fields as Pure
use Rattle.board_history.specs.Fields.{Counted, Does, Frame, Script}
use Rattle.task_code.specs.Code.{Code, entry}
use Rattle.values.specs.declared.key.Key.{Key}
use Rattle.values.specs.declared.value.Scalar.{Scalar}
use Rattle.board_program.specs.Tables.{body_of, wanted_in}
use Rattle.board_data.specs.Answered.{wanted_answer}
use Rattle.board_instances.specs.Names.{led_slot}
use Rattle.board_work.specs.Assigned as Work
use Rattle.board_work.specs.Assigned.{Assigned}

module _ (C : Code) where
  -- the task of the work for a job
  abbrev pub work_of : Pure.Job → Work.Task
  work_of Script = Work.opens_script
  work_of (Does k e c) = Work.runs (entry C e)

  -- the entry of the job exists
  abbrev pub IsThere : Pure.Job → Type 0
  IsThere Script = Unit {0}
  IsThere (Does k e c) = e < length C.entries

  -- the answers to the needs of the entry
  abbrev pub answers_at : List (Option Frame) → List (Option Counted) → Pure.Job → List (Answer Key Scalar)
  answers_at fs cs Script = []
  answers_at fs cs (Does k e c) = map (wanted_answer C cs (led_slot fs k)) (map (wanted_in C (body_of C e)) (entry C e).needs)

  -- the work belongs to the job, with the answers that its needs have in these fields
  pub record IsWorkAt (fs : List (Option Frame)) (cs : List (Option Counted)) (j : Pure.Job) (work : Assigned) : Type 0 where
    pub job : work.job ≡ work_of j
    pub answers : work.answers ≡ answers_at fs cs j
