-- A fault that an item meets is noted, and the fields stand for the state with it.
use Rattle.std.proofs.Common.{◌≡◌, ℕ, List, [], ◌∷◌, ◌++◌, refl, sym, ap, ◌∙◌, subst, rules, Option, None, Some, reverse}
use Rattle.std.specs.Prelude.{false, Result, Ok, Err, IfOk}
use Rattle.std.proofs.lemmas.List.{reverse-reverse}
use Rattle.dataflow.specs.System.{Answer, In}
use Rattle.dataflow.specs.Machine.{End, Event, Fault, SeesAll}
use Rattle.board_history.specs.CodeReplay.{replayed}
use Rattle.board_history.specs.Fields as Fields
use Rattle.board_history.specs.Fields.{Counted, Does, Frame, Job, Row, Running, Script, path_of, task_of}
use Rattle.board_history.specs.Marking.{faulted_fields}
use Rattle.board_history.specs.Stands.{Stands}
use Rattle.board_history.specs.Static.{computed_by}
use Rattle.board_history.proofs.Faulted.{fault_stands}
use Rattle.board_history.proofs.Tests.{none_some, some_same}
use Rattle.task_code.specs.Code.{Code}
use Rattle.task_code.specs.Compute.{Computed, EntryFault}
use Rattle.task_code.specs.Effects.{Task}
use Rattle.task_code.specs.Machine.{CodeItem, CodeState}
use Rattle.task_code.specs.System.{code_system, task_inputs}
use Rattle.task_code.specs.Whole.{IsCode}
use Rattle.values.specs.declared.key.Key.{Key}
use Rattle.values.specs.declared.value.Scalar.{Scalar}
use Rattle.board_program.specs.Spots.{layout_of}
use Rattle.board_data.specs.View.{cells_view}
use Rattle.board_data.specs.Wanted.{FewSlots}
use Rattle.board_effects.specs.Effects.{IsEffect, IsStatementOf as IsStatementAt, kind_of_fault}
use Rattle.board_effects.specs.declared.effect.Effect.TheVariants.{Fails}
use Rattle.board_effects.specs.declared.effect.Effect.TheVariants as Effects
use Rattle.board_effects.proofs.AtWork.{at_work}
use Rattle.board_effects.specs.Effects.{IsAtWork}
use Rattle.board_program.specs.Tables.{IsEntryTable, body_of}
use Rattle.board_program.specs.declared.program.EntryTable.{EntryTable}
use Rattle.board_work.specs.Assigned as Work
use Rattle.board_work.specs.Outcome.{control_in, result_in}
use Rattle.board_work.specs.declared.outcome.Outcome.{Outcome}
use Rattle.task_code.specs.Code.{Entry as PureEntry, entry as entry_of}
use Rattle.task_code.specs.Compute.{compute}
use Rattle.board.proofs.OwnWork.{running_live}
use Rattle.board_effects.proofs.Tells.{tells}
use Rattle.board_instances.specs.View.{frames_view, rows_view}
use Rattle.paths.specs.declared.faults.Fault.{Fault as Noted}
use Rattle.paths.specs.declared.statements.StatementInstance.{StatementInstance}
use Rattle.board_items.specs.Room.{IsRoomy}
use Rattle.board_changes.specs.declared.data_state.DataState.{DataState}
use Rattle.board.specs.Board.{IsWorkOf, Rises, answers_to}
use Rattle.board.specs.Ending.{HasEnded, HasFailed, HasPassed, IsEffectOf, StaysBy, StaysIf, is_fault}
use Rattle.board.specs.History.{state_of}
use Rattle.board_data.specs.Data.{AreRising}
use Rattle.board.specs.Inside.{IsNoted, IsStatementOf, Stand}
use Rattle.board.specs.Rows.{RunsOn}
use Rattle.board.specs.View.{fields_view, with_fault}
use Rattle.board.specs.declared.state.BoardState.{BoardState}
use Rattle.board.proofs.Changes.{untold}
use Rattle.board.proofs.Moves.{ends, state_is}
use Rattle.board_work.specs.Assigned.{Assigned}
use Rattle.board_effects.specs.declared.effect.Effect.{Effect}

statement_is : (C : Code) (fs : List (Option Frame)) (j : Job) (s : StatementInstance) → IsStatementAt C fs j s → IsStatementOf C (task_of fs j) s
statement_is C fs Script s h = h
statement_is C fs (Does k e c) s h = (h.0, ap reverse h.1 ∙ reverse-reverse (path_of fs k))

module _ (C : Code) (I : IsCode C) (es : List Event) (old new : BoardState) (t : Stand C es old) (free : old.fault ≡ None) (w n : ℕ) (j : Job) (runs : RunsOn (rows_view old.items.rows.items) w n j) (f : Noted) (failed : HasFailed f old new) where
  F : Fields.Fields
  F = fields_view t.told old

  none : t.told.fault ≡ None
  none = untold C t.told.fault old.fault t.fault free

  pub failed_core : (xs : List (Answer Key Scalar)) → SeesAll (code_system C) t.stands.state (task_inputs C (task_of (frames_view old.data_state.instances.slots) j)) xs
      → IsEffect C (frames_view old.data_state.instances.slots) (cells_view old.data_state.store.cells) j (computed_by C (task_of (frames_view old.data_state.instances.slots) j) xs) (Fails f) → Stand C (es ++ End w n ∷ []) new
  failed_core xs known effect = by (ends C I (layout_of C) es (fields_view t.told old) t.stands none w n j runs)
    where
      by : (u : CodeState) × (replayed C (es ++ End w n ∷ []) ≡ Some u) → Stand C (es ++ End w n ∷ []) new
      by p =
          let told : p.0.fault ≡ Some (task_of (frames_view old.data_state.instances.slots) j, kind_of_fault f.kind) = tells C I es (fields_view t.told old) t.stands w n p.0 p.1 (record { job = j; status = Running w }) runs xs known (Fails f) effect in
          let bad : p.0.fault ≡ None → ⊥ = λ e. none_some (sym e ∙ told) in
          at p.0 told (fault_stands C I (layout_of C) es (fields_view t.told old) t.stands w n p.0 p.1 bad)
        where
          at : (u : CodeState) → u.fault ≡ Some (task_of (frames_view old.data_state.instances.slots) j, kind_of_fault f.kind)
              → (i : CodeItem) × (g : Fault EntryFault) × In i t.stands.state.items × (i.number ≡ n) × (u.fault ≡ Some (i.task, g)) × Stands C (layout_of C) (es ++ End w n ∷ []) (faulted_fields (fields_view t.told old) i.task g) → Stand C (es ++ End w n ∷ []) new
          at u told q =
              record {
                told = with_fault q.0.task q.1 t.told;
                stands = subst (λ (G : Fields.Fields). Stands C (layout_of C) (es ++ End w n ∷ []) G) (fields q.0.task q.1) q.5;
                fault = subst (λ (g : Option Noted). IsNoted C (Some (q.0.task, q.1)) g) (sym failed.fault) noted;
                kept = record {
                  few = subst (λ (v : DataState). FewSlots (frames_view v.instances.slots)) (sym failed.data_state) t.kept.few;
                  rising = subst (λ (v : DataState). AreRising v.store) (sym failed.data_state) t.kept.rising;
                  roomy = roomy;
                  rises = subst (λ (ns : List ℕ). Rises ns) (sym failed.newly) tt;
                };
              }
            where
              pair : ◌≡◌ {A = Option (Task × Fault EntryFault)} (Some (task_of (frames_view old.data_state.instances.slots) j, kind_of_fault f.kind)) (Some (q.0.task, q.1))
              pair = sym told ∙ q.4

              same : ◌≡◌ {A = Task × Fault EntryFault} (task_of (frames_view old.data_state.instances.slots) j, kind_of_fault f.kind) (q.0.task, q.1)
              same = some_same pair

              noted : IsNoted C (Some (q.0.task, q.1)) (Some f)
              noted = (
                sym (ap (λ (z : Task × Fault EntryFault). z.1) same),
                subst (λ (u : Task). IsStatementOf C u f.statement) (ap (λ (z : Task × Fault EntryFault). z.0) same) (statement_is C (frames_view old.data_state.instances.slots) j f.statement effect.1),
              )

              roomy : IsRoomy C new.items
              roomy =
                  let r = t.kept.roomy in
                  let a = failed.rows in
                  let b = failed.apart in
                  let d = failed.queue in
                  record {
                    controls_counted = rw (a, b) r.controls_counted;
                    leaves_counted = rw (a, b) r.leaves_counted;
                    controls_fit = rw (a, d) r.controls_fit;
                    leaves_fit = rw (a, d) r.leaves_fit;
                    noted = rw (failed.capacity) r.noted;
                  }

              fields : (u : Task) (g : Fault EntryFault) → faulted_fields (fields_view t.told old) u g ≡ fields_view (with_fault u g t.told) new
              fields u g =
                  let a = failed.data_state in
                  let b = failed.lines in
                  let c = failed.rows in
                  let d = failed.rules in
                  let e = failed.queue in
                  let h = failed.running in
                  let i = failed.newly in
                  cc

pub failed_ended : (C : Code) (n : ℕ) (j : Job) (done : Assigned) (old new : BoardState) (f : Noted) → HasFailed f old new → IsEffectOf C old j done (Fails f) → HasEnded C n j done old new
failed_ended C n j done old new f failed effect =
    record {
      stand = λ es w I s free runs own.
          failed_core C I es old new s free w n j runs f failed own.inputs
          (subst (λ (u : CodeState). SeesAll (code_system C) u (task_inputs C (task_of (frames_view old.data_state.instances.slots) j)) own.inputs) (state_is C es s.stands.state s.stands.reached) own.known)
          (effect es w n I s runs own);
      running = λ es w I s runs h. none_some (sym h ∙ failed.fault);
    }

pub passed_ended : (C : Code) (n : ℕ) (j : Job) (done : Assigned) (old new : BoardState) (e : Effect) → is_fault e ≡ false → HasPassed C n j e old new → IsEffectOf C old j done e → HasEnded C n j done old new
passed_ended C n j done old new e good passed effect =
    record {
      stand = λ es w I s free runs own. passed.stand es w I s free runs own.inputs own.known (effect es w n I s runs own) good;
      running = λ es w I s runs h. passed.running es w I s runs;
    }

pub not_fault : (e : Effect) → ((f : Noted) → e ≡ Fails f → ⊥) → is_fault e ≡ false
not_fault (Fails f) n = absurd (n f refl)
not_fault (Effects.Stores d v) n = refl
not_fault (Effects.InsertsElement d k v) n = refl
not_fault (Effects.Inserts d es) n = refl
not_fault (Effects.Prints v) n = refl
not_fault Effects.Passes n = refl
not_fault (Effects.Opens o) n = refl

-- the effect of an entry's item, by what its outcome tells
pub entry_effect : (C : Code) (core : BoardState) (k e c : ℕ) (j : Job) (is : j ≡ Does k e c) (done : Assigned) (x : PureEntry) (same : x ≡ entry_of C e) (table : EntryTable) → IsEntryTable C (body_of C e) e table → (r : Effect)
    → (IsAtWork C (frames_view core.data_state.instances.slots) k e x table → (answers : List (Answer Key Scalar)) → done.job ≡ Work.runs x → done.answers ≡ answers → IsEffect C (frames_view core.data_state.instances.slots) (cells_view core.data_state.store.cells) (Does k e c) (compute x.act answers) r)
    → IsEffectOf C core j done r
entry_effect C core k e c j is done x same table tabled r told es w n I s runs own =
    subst (λ (i : Job). (o : IsWorkOf C (state_of C es) (task_of (frames_view core.data_state.instances.slots) i) done) → IsEffect C (frames_view core.data_state.instances.slots) (cells_view core.data_state.store.cells) i (computed_by C (task_of (frames_view core.data_state.instances.slots) i) o.inputs) r) (sym is) at own
  where
    at : (o : IsWorkOf C (state_of C es) (task_of (frames_view core.data_state.instances.slots) (Does k e c)) done) → IsEffect C (frames_view core.data_state.instances.slots) (cells_view core.data_state.store.cells) (Does k e c) (computed_by C (task_of (frames_view core.data_state.instances.slots) (Does k e c)) o.inputs) r
    at o =
        let row = subst (λ (i : Job). RunsOn (rows_view core.items.rows.items) w n i) is runs in
        let work = at_work C I es (fields_view s.told core) s.stands s.kept.few n k e c (record { job = Does k e c; status = Running w }) row refl (λ h. absurd (running_live w h)) x same table tabled in
        subst (λ (y : PureEntry). IsEffect C (frames_view core.data_state.instances.slots) (cells_view core.data_state.store.cells) (Does k e c) (compute y.act (answers_to C (task_of (frames_view core.data_state.instances.slots) (Does k e c)) o.inputs)) r) same
        (told work (answers_to C (task_of (frames_view core.data_state.instances.slots) (Does k e c)) o.inputs) (o.job ∙ ap Work.runs (sym same)) o.answers)

pub script_effect_of : (C : Code) (core : BoardState) (j : Job) (is : j ≡ Script) (done : Assigned) (r : Effect) → ((fs : List (Option Frame)) (cs : List (Option Counted)) (y : Computed) → IsEffect C fs cs Script y r) → IsEffectOf C core j done r
script_effect_of C core j is done r told es w n I s runs own =
    subst (λ (i : Job). (o : IsWorkOf C (state_of C es) (task_of (frames_view core.data_state.instances.slots) i) done) → IsEffect C (frames_view core.data_state.instances.slots) (cells_view core.data_state.store.cells) i (computed_by C (task_of (frames_view core.data_state.instances.slots) i) o.inputs) r) (sym is)
    (λ o. told (frames_view core.data_state.instances.slots) (cells_view core.data_state.store.cells) (computed_by C (task_of (frames_view core.data_state.instances.slots) Script) o.inputs)) own

-- the same of what comes of it, where there was memory
pub entry_result : {X : Type 0} (C : Code) (core : BoardState) (k e c : ℕ) (j : Job) (is : j ≡ Does k e c) (done : Assigned) (x : PureEntry) (same : x ≡ entry_of C e) (table : EntryTable) → IsEntryTable C (body_of C e) e table → (r : Result Effect X)
    → (IsAtWork C (frames_view core.data_state.instances.slots) k e x table → (answers : List (Answer Key Scalar)) → done.job ≡ Work.runs x → done.answers ≡ answers → IfOk r (λ a. IsEffect C (frames_view core.data_state.instances.slots) (cells_view core.data_state.store.cells) (Does k e c) (compute x.act answers) a))
    → IfOk r (IsEffectOf C core j done)
entry_result C core k e c j is done x same table tabled (Ok a) told = entry_effect C core k e c j is done x same table tabled a told
entry_result C core k e c j is done x same table tabled (Err a) told = search rules

pub script_result : {X : Type 0} (C : Code) (core : BoardState) (j : Job) (is : j ≡ Script) (done : Assigned) (r : Result Effect X) → ((fs : List (Option Frame)) (cs : List (Option Counted)) (y : Computed) → IfOk r (λ a. IsEffect C fs cs Script y a)) → IfOk r (IsEffectOf C core j done)
script_result C core j is done (Ok a) told = script_effect_of C core j is done a told
script_result C core j is done (Err a) told = search rules

-- what is told of each work is told of all
pub told_of_all : {X : Type 0} (C : Code) (core : BoardState) (j : Job) (o : Outcome) (r : Result Effect X) → ((done : Assigned) → result_in o ≡ Work.job_result done.job done.answers → control_in o ≡ Work.job_control done.job done.answers → IfOk r (IsEffectOf C core j done))
    → IfOk r (λ e. (done : Assigned) → result_in o ≡ Work.job_result done.job done.answers → control_in o ≡ Work.job_control done.job done.answers → IsEffectOf C core j done e)
told_of_all C core j o (Ok e) told = told
told_of_all C core j o (Err e) told = search rules

pub stays_if : (C : Code) (n : ℕ) (j : Job) (done : Assigned) (old new : BoardState) (e : Effect) → is_fault e ≡ false → StaysBy C n j e old new → IsEffectOf C old j done e → StaysIf C n j done old new
stays_if C n j done old new e good stays effect es w I s free runs own = stays es w I s free runs own.inputs own.known (effect es w n I s runs own) good

pub itself : (C : Code) (n : ℕ) (j : Job) (done : Assigned) (core : BoardState) → StaysIf C n j done core core
itself C n j done core es w I s free runs own = record { stand = s; newly = refl; fault = refl; running = refl }
