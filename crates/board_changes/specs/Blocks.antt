-- The openings of an End, by their conditions: the blocks they belong to, and the initial values of their variables.
use Rattle.std.specs.Prelude.{◌≡◌, ◌++◌, ℕ, List, [], length, map, replicate, Option, Some, None}
use Rattle.std.specs.List.{filter}
use Rattle.dataflow.specs.System.{In}
use Rattle.board_history.specs.Ending.{has_entries, home}
use Rattle.board_history.specs.Fields.{Absent, Does, Frame, Job, Script, Slot, path_of, step_before, task_of}
use Rattle.board_history.specs.Static.{opened}
use Rattle.task_code.specs.Code.{Code, Loop, body, entry, loop_of}
use Rattle.task_code.specs.Compute.{Computed, key_scalar}
use Rattle.task_code.specs.Effects.{chunk, step_at, turns_of}
use Rattle.task_code.specs.Places.{Step}
use Rattle.values.specs.declared.key.Key.{Key}
use Rattle.values.specs.declared.value.Scalar.{Scalar}
use Rattle.board_program.specs.Tables.{turn_slot, value_slot}
use Rattle.board_data.specs.Openings.{handed_over, job_loop}
use Rattle.board_instances.specs.Made.{IsOpened, block_of}
use Rattle.board_instances.specs.View.{opening_frame}
use Rattle.board_instances.specs.declared.pending.PendingInstance.{PendingInstance}
use Rattle.board_instances.specs.declared.pending.PendingInstances.{PendingInstances}

module _ (C : Code) (fs : List (Option Frame)) where
  -- an opening has values for a turn's variables, if a loop opens it: those of a turn of its chunk
  abbrev pub TurnStarts : (path : List Step) → (offset chunk : ℕ) → Computed → Option Loop → PendingInstance → Type 0
  TurnStarts p offset c x None o = (o.value ≡ None) × (o.turn ≡ None)
  TurnStarts p offset c x (Some w) o = (t : Key × Scalar) × In t (chunk c (turns_of x)) × (step_before (opening_frame o).way p ≡ step_at offset t.0 p) × (o.value ≡ Some t.1) × (o.turn ≡ Some (key_scalar t.0))

  abbrev pub Starts : Job → Computed → PendingInstance → Type 0
  Starts Script x o = (o.value ≡ None) × (o.turn ≡ None)
  Starts (Does k e c) x o = TurnStarts (path_of fs k) (entry C e).offset c x (loop_of (entry C e).act) o

  -- the arguments of the item of a job, if it is a call
  abbrev pub handed : Job → List Slot
  handed Script = []
  handed (Does k e c) = handed_over C fs k e

  -- the item of a job that computed this opens these: one instance for each block with entries, in order, all of one
  -- body
  pub record AreBlocks (j : Job) (x : Computed) (o : PendingInstances) : Type 0 where
    pub blocks : map (block_of fs (home j)) (map opening_frame o.list.items) ≡ filter (has_entries C) (opened C (task_of fs j) x)
    pub each : (one : PendingInstance) → In one o.list.items → IsOpened C fs (home j) (opening_frame one)
    pub one_body : (one : PendingInstance) → In one o.list.items → (opening_frame one).body ≡ o.body
    pub slots : (one : PendingInstance) → In one o.list.items → (opening_frame one).slots ≡ replicate (length (body C o.body).makes) Absent ++ handed j
    pub starts : (one : PendingInstance) → In one o.list.items → Starts j x one
    pub value_is : o.value ≡ value_slot C (job_loop C j)
    pub turn_is : o.turn ≡ turn_slot C (job_loop C j)
    pub loop_body : (one : PendingInstance) (w : Loop) → In one o.list.items → job_loop C j ≡ Some w → w.body ≡ o.body
