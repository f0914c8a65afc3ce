-- The lemmas between the two meanings, for knowledge K of the script and the facts of the code that the script's
-- answers yield.
use Rattle.std.specs.Prelude.{◌≡◌, ℕ, Bool, true, false, List}
use Rattle.dataflow.specs.System.{In, Input, StoredScalar, ClosedArray, ElementOf, ElementAt, Effect, Bad}
use Rattle.dataflow.specs.Facts as Fa
use Rattle.dataflow.specs.Facts.{Live, Written, OneWriter, Comes}
use Rattle.values.specs.declared.key.Key.{Key}
use Rattle.values.specs.declared.value.Scalar.{Scalar}
use Rattle.values.specs.declared.value.Scalar.TheVariants.{Text}
use Rattle.language.specs.Core.{Core}
use Rattle.language.specs.Facts.{element, line, Knowledge}
use Rattle.language.specs.Meaning.{Closed, HasValue}
use Rattle.language.specs.Outcomes.{Faults}
use Rattle.language.specs.Places.{Path, Place}
use Rattle.task_code.specs.Code.{Variable, Code, entry}
use Rattle.task_code.specs.Compute.{EntryFault}
use Rattle.task_code.specs.Effects.{Task, Item, only}
use Rattle.task_code.specs.Places.{Step, Datum, Constant, Nowhere}
use Rattle.task_code.specs.Places as CodePlaces
use Rattle.task_code.specs.System.{code_system}
use Rattle.headline.specs.Headline.{script_path, script_place, script_fault}
use Rattle.dataflow.specs.Machine.{OfTask}
use Rattle.headline.specs.Answered.{Reading, Shown}
use Rattle.headline.specs.Chains.{Answers}

module _ (s : Core) (C : Code) (K : Knowledge) where
  -- the facts of the code, given what is known of the script
  abbrev pub Facts : Task → Effect Task CodePlaces.Place Key Scalar → Type 0
  Facts t e = Shown (code_system C) (Answers s K) t e

  abbrev pub LiveTask : Task → Type 0
  LiveTask t = Live (code_system C) (Reading (code_system C) (Answers s K)) t

  -- the value at a key of a datum, as it is known of the script
  abbrev pub Knows : Bool → Place → Key → Scalar → Type 0
  Knows false at key x = (key ≡ only) × HasValue s K at x
  Knows true at key x = (writer : Place) × K (element at key writer x)

  -- some live task may read it
  abbrev pub IsRead : CodePlaces.Place → Type 0
  IsRead a = (t : Task) × LiveTask t × In a ((code_system C).may_read t)

  -- what is written is known, and what is known is written
  abbrev pub WrittenTo : Type 0
  WrittenTo = (a : CodePlaces.Place) (key : Key) (x : Scalar) → Written (code_system C) Facts a key x → (p : List Step) × (v : Variable) × (a ≡ Datum p v) × Knows v.array (script_place p v) key x

  abbrev pub WrittenFrom : Type 0
  WrittenFrom = (p : List Step) (v : Variable) (key : Key) (x : Scalar) → IsRead (Datum p v) → Knows v.array (script_place p v) key x → Written (code_system C) Facts (Datum p v) key x

  -- what is closed in the code is closed in the script, and the converse
  abbrev pub ClosedTo : Type 0
  ClosedTo = (p : List Step) (v : Variable) → v.array ≡ true → Fa.Closed (code_system C) Facts (Datum p v) → Closed s K (script_place p v)

  abbrev pub ClosedFrom : Type 0
  ClosedFrom = (p : List Step) (v : Variable) → v.array ≡ true → IsRead (Datum p v) → Closed s K (script_place p v) → Fa.Closed (code_system C) Facts (Datum p v)

  -- the inputs of a live task are data, each a scalar or an array as required
  abbrev pub IsDatumOf : Bool → CodePlaces.Place → Type 0
  IsDatumOf b d = (p : List Step) × (v : Variable) × (d ≡ Datum p v) × (v.array ≡ b)

  abbrev pub FitsKind : Input CodePlaces.Place Key → Type 0
  FitsKind (StoredScalar d) = IsDatumOf false d
  FitsKind (ClosedArray a) = IsDatumOf true a
  FitsKind (ElementOf a k) = IsDatumOf true a
  FitsKind (ElementAt a d) = IsDatumOf true a × IsDatumOf false d

  abbrev pub InputsFit : Type 0
  InputsFit = (t : Task) (i : Input CodePlaces.Place Key) → LiveTask t → In i ((code_system C).inputs t) → FitsKind i

  -- a key of an array is written by one task, for a clean script
  abbrev pub ArraysOnce : Type 0
  ArraysOnce = (p : List Step) (v : Variable) → v.array ≡ true → OneWriter (code_system C) Facts (Datum p v)

  -- lines and faults
  abbrev pub LinesTo : Type 0
  LinesTo = (i c : ℕ) (p : List Step) (e : Effect Task CodePlaces.Place Key Scalar) (x : Scalar) → Facts (Item i p c) e → In x e.lines
      → (bytes : List ℕ) × (x ≡ Text bytes) × K (line (script_path p, (entry C i).node) bytes)

  abbrev pub LinesFrom : Type 0
  LinesFrom = (path : Path) (n : ℕ) (bytes : List ℕ) → K (line (path, n) bytes)
      → (i : ℕ) × (p : List Step) × (e : Effect Task CodePlaces.Place Key Scalar) × Facts (Item i p 0) e × In (Text bytes) e.lines × (script_path p ≡ path) × ((entry C i).node ≡ n)

  abbrev pub FaultsTo : Type 0
  FaultsTo = (i c : ℕ) (p : List Step) (f : EntryFault) → Comes (code_system C) Facts (Item i p c) (Bad f) → Faults K (script_fault (OfTask f)) (entry C i).at (script_path p)

  -- the facts of K's next round are among other facts of the code, which are complete; for the rounds of a script whose
  -- code is clean
  abbrev pub RoundIn : (Task → Effect Task CodePlaces.Place Key Scalar → Type 0) → Type 0
  RoundIn F = (t : Task) (e : Effect Task CodePlaces.Place Key Scalar) → Facts t e → F t e
