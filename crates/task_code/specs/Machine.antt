-- The machine of code: abbreviations for the machine of its system.
use Rattle.std.specs.Prelude.{ℕ, List}
use Rattle.dataflow.specs.System.{Effect}
use Rattle.dataflow.specs.Facts.{Clean}
use Rattle.dataflow.specs.Machine.{Item as MachineItem, State, Event, Enabled as EnabledIn, ClosedByRights as ClosedIn, Free as FreeIn, Step as StepOf, Run as RunOf, Quiet as QuietIn}
use Rattle.dataflow.specs.Events.{CanBegin as CanBeginIn, RunsOn as RunsIn, Newly as NewlyOf}
use Rattle.dataflow.specs.Promises.{Agrees as AgreesWith, Complete as CompleteIn, GoesOn as GoesOnIn, HasSteps as HasStepsIn, SameEnd as SameEndIn}
use Rattle.dataflow.specs.History.{log_of, LeadsTo as LeadsToIn}
use Rattle.dataflow.specs.Data.{AnswersAreOne as AnswersIn, DataAreKept as KeptIn, IsTidy as TidyIn, DataAreExact as ExactIn, SameButFree as SameIn}
use Rattle.values.specs.declared.key.Key.{Key}
use Rattle.values.specs.declared.value.Scalar.{Scalar}
use Rattle.task_code.specs.Code.{Code}
use Rattle.task_code.specs.Compute.{EntryFault}
use Rattle.task_code.specs.Places.{Place}
use Rattle.task_code.specs.Effects.{Task}
use Rattle.task_code.specs.System.{code_system}

-- an item of code, and a state
abbrev pub CodeItem : Type 0
CodeItem = MachineItem Task

abbrev pub CodeState : Type 0
CodeState = State Task Place Key Scalar EntryFault

-- the effects of the items of a run, the latest first
abbrev pub CodeLog : Type 0
CodeLog = List (Task × Effect Task Place Key Scalar)

module _ (C : Code) where
  -- no key of an array has two writers in any round
  abbrev pub CleanCode : Type 0
  CleanCode = Clean (code_system C)

  -- all inputs of the task are known
  abbrev pub Enabled : CodeState → Task → Type 0
  Enabled s t = EnabledIn (code_system C) s t

  -- the array exists, and no item that has not ended may write it
  abbrev pub ClosedByRights : CodeState → Place → Type 0
  ClosedByRights s a = ClosedIn (code_system C) s a

  -- no item that has not ended may read or write the datum
  abbrev pub Free : CodeState → Place → Type 0
  Free s a = FreeIn (code_system C) s a

  -- one step of the machine
  abbrev pub CodeStep : CodeState → Event → CodeState → Type 0
  CodeStep old event new = StepOf (code_system C) old event new

  -- steps along the events, from the state in which item 1 alone is enabled
  abbrev pub Run : List Event → CodeState → Type 0
  Run events s = RunOf (code_system C) events s

  -- an item of this number is enabled and does not run
  abbrev pub CanBegin : CodeState → ℕ → Type 0
  CanBegin s number = CanBeginIn (code_system C) s number

  -- an item of this number runs on the worker
  abbrev pub RunsOn : CodeState → ℕ → ℕ → Type 0
  RunsOn s worker number = RunsIn (code_system C) s worker number

  -- there is no fault, and no item is enabled or runs
  abbrev pub Quiet : CodeState → Type 0
  Quiet s = QuietIn (code_system C) s

  -- the number of times, in a run of these events, that an item becomes able to begin: enabled and not running after an
  -- event, but not before it
  abbrev pub Newly : List Event → ℕ → Type 0
  Newly events n = NewlyOf (code_system C) events n

  -- everything stored, closed, printed and reported agrees with the meaning
  abbrev pub Agrees : CodeState → Type 0
  Agrees s = AgreesWith (code_system C) s

  -- the state has the whole meaning
  abbrev pub Complete : CodeState → Type 0
  Complete s = CompleteIn (code_system C) s

  -- no item is ever stuck, and each exists once
  abbrev pub GoesOn : CodeState → Type 0
  GoesOn s = GoesOnIn (code_system C) s

  -- an enabled item has one list of answers, a closed array one content
  abbrev pub AnswersAreOne : CodeState → Type 0
  AnswersAreOne s = AnswersIn (code_system C) s

  -- the log of a run, and its relation to the state
  abbrev pub run_log : (events : List Event) (s : CodeState) → Run events s → CodeLog
  run_log events s run = log_of (code_system C) events s run

  abbrev pub LeadsTo : CodeLog → CodeState → Type 0
  LeadsTo log s = LeadsToIn (code_system C) log s

  -- each datum that was made still exists or is free
  abbrev pub DataAreKept : CodeState → CodeLog → Type 0
  DataAreKept s log = KeptIn (code_system C) s log

  -- no free datum exists
  abbrev pub IsTidy : CodeState → Type 0
  IsTidy s = TidyIn (code_system C) s

  -- the data are exactly those made that are not free
  abbrev pub DataAreExact : CodeState → CodeLog → Type 0
  DataAreExact s log = ExactIn (code_system C) s log

  -- the states differ only in free data
  abbrev pub SameButFree : CodeState → CodeState → Type 0
  SameButFree s t = SameIn (code_system C) s t

  -- the events that have a step
  abbrev pub HasSteps : CodeState → Type 0
  HasSteps s = HasStepsIn (code_system C) s

  -- two ends of runs that agree, except for the order of the lines and for free data
  abbrev pub SameEnd : CodeState → CodeState → Type 0
  SameEnd s t = SameEndIn (code_system C) s t
