-- The agreement of every run of a script's code with the script's meaning.
use Rattle.std.specs.Prelude.{◌≡◌, ℕ, Bool, true, false, List, map, Some}
use Rattle.dataflow.specs.System.{In, Write}
use Rattle.dataflow.specs.Machine.{Event, Fault as MachineFault, OfTask, ElementTwice}
use Rattle.values.specs.declared.key.Key.{Key}
use Rattle.values.specs.declared.value.Scalar.{Scalar}
use Rattle.values.specs.declared.value.Scalar.TheVariants.{Text}
use Rattle.language.specs.Core.{Core}
use Rattle.language.specs.Facts.{Fault, operation, no_element, element_twice, too_deep, element, line, Knowledge}
use Rattle.language.specs.Meaning.{HasValue, Closed, Meaning}
use Rattle.language.specs.Members.{◌∈◌}
use Rattle.language.specs.Outcomes.{Written, texts, OnceEach, Lines, Faults, Blocked, Clean}
use Rattle.language.specs.Places.{Path, Place}
use Rattle.task_code.specs.Code.{Variable, Code, entry}
use Rattle.task_code.specs.Compute.{EntryFault, InOperation, NoElement, TooDeep}
use Rattle.task_code.specs.Effects.{Task, Main, Item}
use Rattle.task_code.specs.Machine.{CodeState, ClosedByRights, Run, Quiet}
use Rattle.task_code.specs.Places.{Step, Datum, Constant, Nowhere}
use Rattle.task_code.specs.Places as CodePlaces
use Rattle.task_code.specs.Runs.{Blocked as CodeBlocked}

-- a path of the code, as a path of the script
abbrev pub script_path : List Step → Path
script_path path = map (λ step. (step.offset, step.key)) path

-- the place of a variable in a block instance, as a place of the script
abbrev pub script_place : List Step → Variable → Place
script_place path v = (script_path path, v.node)

-- a fault of the machine, as a fault of the script
abbrev pub script_fault : MachineFault EntryFault → Fault
script_fault (OfTask (InOperation f)) = operation f
script_fault (OfTask NoElement) = no_element
script_fault (OfTask TooDeep) = too_deep
script_fault ElementTwice = element_twice

-- a stored value is meant: a scalar has that value, or an array has that element by some writer
abbrev pub IsMeantIn : Core → Bool → Place → Key → Scalar → Type 0
IsMeantIn s false at k v = HasValue s (Meaning s) at v
IsMeantIn s true at k v = (writer : Place) × Meaning s (element at k writer v)

-- a stored value is meant, and only data store values
abbrev pub IsMeant : Core → CodePlaces.Place → Key → Scalar → Type 0
IsMeant s (Datum path v) k x = IsMeantIn s v.array (script_place path v) k x
IsMeant s (Constant c) k x = ⊥
IsMeant s Nowhere k x = ⊥

-- a fault is one of the script's, at the statement and path of its item; opening the script has none
abbrev pub IsMeantFault : Core → Code → Task → MachineFault EntryFault → Type 0
IsMeantFault s C Main f = ⊥
IsMeantFault s C (Item number path chunk) f = Faults (Meaning s) (script_fault f) (entry C number).at (script_path path)

-- some of the known lines, none used twice
pub record PartOfLines (K : Knowledge) (lines : List (List ℕ)) : Type 0 where
  pub listing : List Written
  pub once : OnceEach listing
  pub known : (w : Place) (bytes : List ℕ) → ◌∈◌ {X = Written} (w, bytes) listing → K (line w bytes)
  pub is : texts listing ≡ lines

module _ (s : Core) (C : Code) where
  -- what a state has stored, closed, printed and reported is the script's
  pub record Agrees (st : CodeState) : Type 0 where
    -- each stored value is the script's at its place
    pub stored : (w : Write CodePlaces.Place Key Scalar) → In w st.stored → IsMeant s w.place w.key w.value
    -- each array that is closed by rights is closed in the script
    pub closed : (path : List Step) (v : Variable) → v.array ≡ true → ClosedByRights C st (Datum path v) → Closed s (Meaning s) (script_place path v)
    -- the lines are texts, and a part of the script's lines
    pub printed : List (List ℕ)
    pub printed_is : st.lines ≡ map Text printed
    pub lines : PartOfLines (Meaning s) printed
    -- a fault is among the script's
    pub fault : (t : Task) (f : MachineFault EntryFault) → st.fault ≡ Some (t, f) → IsMeantFault s C t f

  -- a state has all of the script's meaning, and its blocked statements are the script's
  pub record IsAll (st : CodeState) : Type 0 where
    -- the script has no fault
    pub no_fault : (f : Fault) (at : ℕ) (path : Path) → Faults (Meaning s) f at path → ⊥
    -- the lines are the script's, in some order
    pub printed : List (List ℕ)
    pub printed_is : st.lines ≡ map Text printed
    pub lines : Lines (Meaning s) printed
    -- a statement with a remaining item is blocked in the script, and each blocked statement has a remaining item
    pub blocked : (at : ℕ) (path : List Step) → CodeBlocked C st at path → Blocked s (Meaning s) at (script_path path)
    pub blocked_all : (at : ℕ) (path : List Step) → Blocked s (Meaning s) at (script_path path) → CodeBlocked C st at path

  -- every state that a run reaches agrees with a script that writes no key twice; every quiet state without fault has
  -- all of the script's meaning, whatever the script writes
  pub record Headline : Type 0 where
    pub agrees : Clean s → (events : List Event) (st : CodeState) → Run C events st → Agrees st
    pub all : (events : List Event) (st : CodeState) → Run C events st → Quiet C st → IsAll st
