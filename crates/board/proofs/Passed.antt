-- Fields that have become those of an End without fault stand for the state with it.
use Rattle.std.proofs.Common.{◌≡◌, ℕ, false, List, [], ◌∷◌, ◌++◌, refl, sym, ◌∙◌, Option, None, Some}
use Rattle.dataflow.specs.System.{Answer}
use Rattle.dataflow.specs.Machine.{End, Event, Fault, SeesAll}
use Rattle.board_history.specs.CodeReplay.{replayed}
use Rattle.board_history.specs.Ending.{EndsTo}
use Rattle.board_history.specs.Fields.{Job, Running, task_of}
use Rattle.board_history.specs.Static.{computed_by}
use Rattle.board_history.proofs.EndedFields.{end_stands}
use Rattle.task_code.specs.Code.{Code}
use Rattle.task_code.specs.Compute.{EntryFault}
use Rattle.task_code.specs.Effects.{Task}
use Rattle.task_code.specs.Machine.{CodeState}
use Rattle.task_code.specs.System.{code_system, task_inputs}
use Rattle.task_code.specs.Whole.{IsCode}
use Rattle.values.specs.declared.key.Key.{Key}
use Rattle.values.specs.declared.value.Scalar.{Scalar}
use Rattle.board_program.specs.Spots.{layout_of}
use Rattle.board_data.specs.View.{cells_view}
use Rattle.board_effects.specs.Effects.{IsEffect, fault_of}
use Rattle.board_effects.specs.declared.effect.Effect.{Effect}
use Rattle.board_effects.specs.declared.effect.Effect.TheVariants as Effects
use Rattle.board_effects.proofs.Tells.{tells}
use Rattle.board_instances.specs.View.{frames_view, rows_view}
use Rattle.paths.specs.declared.faults.Fault.{Fault as Noted}
use Rattle.board.specs.Ending.{is_fault}
use Rattle.board.specs.Inside.{IsKept, IsNoted, Stand}
use Rattle.board.specs.Rows.{RunsOn}
use Rattle.board.specs.View.{Told, fields_view}
use Rattle.board.specs.declared.state.BoardState.{BoardState}
use Rattle.board.proofs.Changes.{untold}
use Rattle.board.proofs.Moves.{ends}
use Rattle.board_history.proofs.Tests.{none_some, yes_no}

-- no fault, no fault noted
faultless : (u : Task) (e : Effect) → is_fault e ≡ false → fault_of u e ≡ None
faultless u (Effects.Fails f) h = yes_no refl h
faultless u (Effects.Stores d v) h = refl
faultless u (Effects.InsertsElement d k v) h = refl
faultless u (Effects.Inserts d es) h = refl
faultless u (Effects.Prints v) h = refl
faultless u Effects.Passes h = refl
faultless u (Effects.Opens o) h = refl

none_noted : (C : Code) (m : Option (Task × Fault EntryFault)) (f : Option Noted) → m ≡ None → f ≡ None → IsNoted C m f
none_noted C None None m f = tt
none_noted C None (Some g) m f = none_some (sym f)
none_noted C (Some k) g m f = none_some (sym m)

module _ (C : Code) (I : IsCode C) (es : List Event) (old new : BoardState) (s : Stand C es old) (free : old.fault ≡ None) (w n : ℕ) (j : Job) (runs : RunsOn (rows_view old.items.rows.items) w n j) where
  none : s.told.fault ≡ None
  none = untold C s.told.fault old.fault s.fault free

  -- the state with the End is reached, and has no fault
  pub good_end : (xs : List (Answer Key Scalar)) → SeesAll (code_system C) s.stands.state (task_inputs C (task_of (frames_view old.data_state.instances.slots) j)) xs → (e : Effect)
      → IsEffect C (frames_view old.data_state.instances.slots) (cells_view old.data_state.store.cells) j (computed_by C (task_of (frames_view old.data_state.instances.slots) j) xs) e → is_fault e ≡ false
      → (t : CodeState) × (replayed C (es ++ End w n ∷ []) ≡ Some t) × (t.fault ≡ None)
  good_end xs known e effect good =
      let p = ends C I (layout_of C) es (fields_view s.told old) s.stands none w n j runs in
      (p.0, p.1, tells C I es (fields_view s.told old) s.stands w n p.0 p.1 (record { job = j; status = Running w }) runs xs known e effect ∙ faultless (task_of (frames_view old.data_state.instances.slots) j) e good)

  pub passed_core : (xs : List (Answer Key Scalar)) → SeesAll (code_system C) s.stands.state (task_inputs C (task_of (frames_view old.data_state.instances.slots) j)) xs → (e : Effect)
      → IsEffect C (frames_view old.data_state.instances.slots) (cells_view old.data_state.store.cells) j (computed_by C (task_of (frames_view old.data_state.instances.slots) j) xs) e → is_fault e ≡ false
      → (told : Told) → EndsTo C (layout_of C) (fields_view s.told old) n j (computed_by C (task_of (frames_view old.data_state.instances.slots) j) xs) (fields_view told new) → new.fault ≡ None → IsKept C new
      → Stand C (es ++ End w n ∷ []) new
  passed_core xs known e effect good told to unfaulted kept =
      let p = good_end xs known e effect good in
      record {
        told = told;
        stands = end_stands C I (layout_of C) es (fields_view s.told old) s.stands w n p.0 p.1 p.2 (record { job = j; status = Running w }) runs xs known (fields_view told new) to;
        fault = none_noted C told.fault new.fault to.fault unfaulted;
        kept = kept;
      }
