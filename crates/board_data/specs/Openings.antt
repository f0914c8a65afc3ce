-- The openings of an item at its end, created before anything changes.
use Rattle.std.specs.Prelude.{◌≡◌, ℕ, List, [], length, map, Option, Some, None, nat_lt}
use Rattle.std.specs.List.{AllZip, filter, flat_map}
use Rattle.dataflow.specs.System.{In}
use Rattle.smallvec.specs.SmallVec.{HasRoomFor, SmallVec}
use Rattle.rules.specs.declared.input.Input.{Input}
use Rattle.board_history.specs.Ending.{has_entries, home}
use Rattle.board_history.specs.Fields.{Does, Frame, Job, Script, Slot, slot_at, task_of}
use Rattle.board_history.specs.Static.{opened, rests}
use Rattle.task_code.specs.Code.{Code, Loop, arguments, body, entry, loop_of}
use Rattle.task_code.specs.Compute.{Computed}
use Rattle.task_code.specs.Effects.{chunk, is_some_list, turns_of}
use Rattle.task_code.specs.Places.{Step}
use Rattle.values.specs.declared.key.Key.{Key}
use Rattle.values.specs.declared.value.Scalar.{Scalar}
use Rattle.board_program.specs.Tables.{passed_in, turn_slot, value_slot}
use Rattle.board_instances.specs.Made.{block_of}
use Rattle.board_instances.specs.Openings.{passed_from, unfilled}
use Rattle.board_instances.specs.Turns.{IsOpening, IsTurn}
use Rattle.board_instances.specs.View.{opening_frame}
use Rattle.board_instances.specs.declared.pending.PendingInstance.{PendingInstance}
use Rattle.board_instances.specs.declared.pending.PendingInstances.{PendingInstances}

-- an empty list with room for this number of inputs
pub record IsSpare (n : ℕ) (inputs : SmallVec Input) : Type 0 where
  pub empty : inputs.items ≡ []
  pub room : HasRoomFor inputs n

module _ (C : Code) where
  -- the loop of the entry of a job, if it is one
  abbrev pub job_loop : Job → Option Loop
  job_loop Script = None
  job_loop (Does k e c) = loop_of (entry C e).act

  -- the numbers of inputs for which those items of a body may wait that may wait for more than two, in order
  abbrev pub long_needs : (body : ℕ) → List ℕ
  long_needs b = filter (nat_lt 2) (map (λ e. length (entry C e).needs) (body C b).entries)

  -- the script's own instance
  pub record IsScript (o : PendingInstance) : Type 0 where
    pub frame_is : opening_frame o ≡ unfilled None 0 0 None 0 (body C 0) []
    pub value_is : o.value ≡ None
    pub turn_is : o.turn ≡ None

  module _ (fs : List (Option Frame)) where
    -- the arguments of an entry, if it is a call
    abbrev pub handed_over : (instance entry : ℕ) → List Slot
    handed_over k e = elim (slot_at fs k) [ None ↦ [] | Some f ↦ passed_from fs k e 0 (map (passed_in C f.body) (arguments (entry C e).act)) ]

    -- an instance that the item of an entry opens: for a turn of its chunk, if it is a loop
    abbrev pub IsOpenedBy : (instance entry chunk : ℕ) → Computed → (number : ℕ) → Option Loop → PendingInstance → Type 0
    IsOpenedBy k e c x number None o = (way : Option Step) × IsOpening C fs k number way (handed_over k e) None None o
    IsOpenedBy k e c x number (Some w) o = (t : Key × Scalar) × In t (chunk c (turns_of x)) × IsTurn C fs k number (entry C e).offset t o

    abbrev pub IsOpened : Job → Computed → (number : ℕ) → PendingInstance → Type 0
    IsOpened Script x number o = IsScript o × (number ≡ 0)
    IsOpened (Does k e c) x number o = IsOpenedBy k e c x number (loop_of (entry C e).act) o

    -- all that the item of a job opens that computed this: an instance for each block that has entries, in order, with
    -- lists for the missing inputs of their items
    pub record AreOpenings (j : Job) (x : Computed) (openings : PendingInstances) : Type 0 where
      pub blocks : map (block_of fs (home j)) (map opening_frame openings.list.items) ≡ filter (has_entries C) (opened C (task_of fs j) x)
      pub each : (o : PendingInstance) → In o openings.list.items → IsOpened j x openings.body o
      pub value_is : openings.value ≡ value_slot C (job_loop j)
      pub turn_is : openings.turn ≡ turn_slot C (job_loop j)
      pub goes_on : openings.goes_on ≡ is_some_list (rests C (task_of fs j) x)
      pub spare : AllZip IsSpare (flat_map (λ (o : PendingInstance). long_needs (opening_frame o).body) openings.list.items) openings.spare.items
