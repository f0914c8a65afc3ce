-- The effect of an item at its end, by what it computed.
use Rattle.std.specs.Prelude.{◌≡◌, ◌≤◌, ℕ, true, List, [], ◌∷◌, length, map, reverse, Option, Some, None, if◌then◌else◌}
use Rattle.std.specs.List.{filter}
use Rattle.dataflow.specs.Machine.{ElementTwice, Fault, OfTask}
use Rattle.dataflow.specs.System.{Bad, Effect as PureEffect, Good, In, Outcome}
use Rattle.board_history.specs.Ending.{has_entries, job_slot, job_stores, printed}
use Rattle.board_history.specs.Fields.{Counted, DatumOf, Does, Frame, Job, Script, path_of, slot_at, task_of}
use Rattle.board_history.specs.Needs.{cell_element}
use Rattle.board_history.specs.Static.{opened, rests}
use Rattle.task_code.specs.Code.{Code, Entry, Name, entry, stored_of}
use Rattle.task_code.specs.Compute.{Computed, Elements, EntryFault, Gives, InOperation, Inserts as InsertsAll, NoElement, TooDeep, in_key_order, pairs}
use Rattle.task_code.specs.Effects.{Item, Main, Task, block, effect_at, instances, is_too_deep, only, outcome_of}
use Rattle.task_code.specs.Places.{Place}
use Rattle.values.specs.declared.fault.OpFault.TheVariants as Op
use Rattle.values.specs.declared.key.Key.{Key}
use Rattle.values.specs.declared.value.Scalar.{Scalar}
use Rattle.board_program.specs.Spots.{layout_of}
use Rattle.board_program.specs.Tables.{IsEntryTable, is_place}
use Rattle.board_program.specs.declared.program.EntryTable.{EntryTable}
use Rattle.data_store.specs.Stores.{Store, array_at}
use Rattle.values.specs.Maps.{element}
use Rattle.board_data.specs.Stored.{HasPlacesFor, IsScalarTarget, Takes}
use Rattle.board_data.specs.Wanted.{FewSlots}
use Rattle.board_instances.specs.View.{step_view}
use Rattle.paths.specs.declared.faults.FaultKind.{FaultKind}
use Rattle.paths.specs.declared.faults.FaultKind.TheVariants as Kind
use Rattle.paths.specs.declared.statements.StatementInstance.{StatementInstance}
use Rattle.board_data.specs.Openings.{AreOpenings}
use Rattle.board_effects.specs.declared.effect.Effect.{Effect}
use Rattle.board_effects.specs.declared.effect.Effect.TheVariants.{Fails, Inserts, Opens, Prints, InsertsElement, Stores}

-- a fault kind as the machine's fault
abbrev pub kind_of_fault : FaultKind → Fault EntryFault
kind_of_fault Kind.Overflow = OfTask (InOperation Op.Overflow)
kind_of_fault Kind.DivideByZero = OfTask (InOperation Op.DivideByZero)
kind_of_fault Kind.NoElement = OfTask NoElement
kind_of_fault Kind.ElementTwice = ElementTwice
kind_of_fault Kind.BadStep = OfTask (InOperation Op.BadStep)
kind_of_fault Kind.TooDeep = OfTask TooDeep
kind_of_fault Kind.NotANumber = OfTask (InOperation Op.NotANumber)
kind_of_fault Kind.AssertFailed = OfTask (InOperation Op.AssertFailed)

-- the datum that an effect stores into, what it stores there, and what it prints
abbrev pub target_in : Effect → Option ℕ
target_in (Stores d v) = d
target_in (InsertsElement d k v) = d
target_in (Inserts d es) = d
target_in _ = None

abbrev pub values_in : Effect → Elements
values_in (Stores d v) = (only, v) ∷ []
values_in (InsertsElement d k v) = (k, v) ∷ []
values_in (Inserts d es) = pairs es.items
values_in _ = []

abbrev pub lines_in : Effect → List Scalar
lines_in (Prints v) = v ∷ []
lines_in _ = []

-- the data take what is stored: a scalar target is a scalar; an array may be written, has none of the keys, and takes
-- the elements if it has room
abbrev pub CanStore : Effect → Store → Type 0
CanStore (Stores d v) s = IsScalarTarget d s
CanStore (InsertsElement d k v) s = (n : ℕ) → d ≡ Some n → HasPlacesFor (element k v ∷ []) (array_at s n) → Takes n (element k v ∷ []) s
CanStore (Inserts d es) s = (n : ℕ) → d ≡ Some n → HasPlacesFor es.items (array_at s n) → Takes n es.items s
CanStore _ s = Unit {0}

-- what is stored is what was computed
abbrev pub IsStored : Effect → Computed → Type 0
IsStored (Stores d v) x = x ≡ Gives v
IsStored (InsertsElement d k v) x = x ≡ InsertsAll ((k, v) ∷ [])
IsStored (Inserts d es) x = x ≡ InsertsAll (pairs es.items)
IsStored _ x = Unit {0}

-- the fault that it leaves, with the task that met it
abbrev pub fault_of : Task → Effect → Option (Task × Fault EntryFault)
fault_of t (Fails f) = Some (t, kind_of_fault f.kind)
fault_of t _ = None

-- there is an effect, and not a fault
abbrev pub IsGood : Outcome Task Place Key Scalar EntryFault → Type 0
IsGood o = (e : PureEffect Task Place Key Scalar) × (o ≡ Good e)

module _ (C : Code) where
  -- the outcome of a task that computed this
  abbrev pub outcome_for : Task → Computed → Outcome Task Place Key Scalar EntryFault
  outcome_for Main x = Good (record { writes = []; lines = []; opens = block C (0, []) ∷ [] })
  outcome_for (Item i p c) x = outcome_of x (is_too_deep (entry C i).act p (instances (entry C i).act (entry C i).offset p c x)) (effect_at C i p c x)

  module _ (fs : List (Option Frame)) where
    -- the instance of an item exists, with the table of its entry
    pub record IsAtWork (instance number : ℕ) (e : Entry) (table : EntryTable) : Type 0 where
      pub frame : Frame
      pub there : slot_at fs instance ≡ Some frame
      pub depth : frame.depth ≡ length (path_of fs instance)
      pub few : FewSlots fs
      pub entry_is : e ≡ entry C number
      pub table_is : IsEntryTable C frame.body number table

    -- the statement of a job
    abbrev pub IsStatementOf : Job → StatementInstance → Type 0
    IsStatementOf Script s = ⊥
    IsStatementOf (Does k i c) s = (s.at ≡ (entry C i).at) × (map step_view s.path.items ≡ reverse (path_of fs k))

    -- a name that the entry of a job stores into has this datum
    abbrev pub IsTarget : Job → ℕ → Type 0
    IsTarget Script d = ⊥
    IsTarget (Does k i c) d = (r : Name) × In r (stored_of (entry C i).node (entry C i).act) × (job_slot C (layout_of C) fs (Does k i c) r ≡ DatumOf d)

    -- no block is opened, and no item continues a loop
    pub record OpensNothing (j : Job) (x : Computed) : Type 0 where
      pub none : filter (has_entries C) (opened C (task_of fs j) x) ≡ []
      pub ends : rests C (task_of fs j) x ≡ []

    abbrev pub OpensBy : Job → Computed → Effect → Type 0
    OpensBy j x (Opens openings) = AreOpenings C fs j x openings
    OpensBy j x _ = OpensNothing j x

    module _ (cs : List (Option Counted)) where
      -- an element that it would store is already present
      pub record Clashes (j : Job) (x : Computed) : Type 0 where
        pub key : ℕ
        pub element : Key × Scalar
        pub older : Scalar
        pub elements : Elements
        pub inserts : x ≡ InsertsAll elements
        pub stores : In element (job_stores C (layout_of C) fs j x key)
        pub has : cell_element element.0 (slot_at cs key) ≡ Some older

      -- a fault: one of its own, or an element that is already present
      abbrev pub GoesWrong : Job → Computed → Fault EntryFault → Type 0
      GoesWrong j x (OfTask f) = outcome_for (task_of fs j) x ≡ Bad f
      GoesWrong j x ElementTwice = IsGood (outcome_for (task_of fs j) x) × Clashes j x

      -- there is no fault: this is stored, printed and opened
      pub record GoesWell (j : Job) (x : Computed) (e : Effect) : Type 0 where
        pub good : IsGood (outcome_for (task_of fs j) x)
        pub apart : Clashes j x → ⊥
        pub computed : IsStored e x
        pub leads : (d : ℕ) → target_in e ≡ Some d → IsTarget j d
        pub stored : (d : ℕ) → (if is_place d (target_in e) then values_in e else []) ≡ job_stores C (layout_of C) fs j x d
        pub rises : in_key_order (values_in e) ≡ true
        pub lines : printed C j x ≡ lines_in e
        pub opens : OpensBy j x e

      -- the effect of the item of a job that computed this
      abbrev pub IsEffect : Job → Computed → Effect → Type 0
      IsEffect j x (Fails f) = GoesWrong j x (kind_of_fault f.kind) × IsStatementOf j f.statement
      IsEffect j x e = GoesWell j x e
