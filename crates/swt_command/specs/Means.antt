-- The contract of `mean`: the text of the meaning of a script.
use Rattle.std.specs.Prelude.{◌≡◌, ◌⊎◌, ℕ, ◌≤◌, Bool, true, false, ◌&&◌, ◌||◌, nat_eq, nat_lt, List, [], ◌∷◌, ◌++◌, Result, Ok, Err, IsSorted}
use Rattle.std.specs.Cmp.Lexicographic.{slice_cmp}
use Rattle.std.specs.List.{flat_map}
use Rattle.std.specs.Ordering.{nat_cmp}
use Rattle.dataflow.specs.System.{In}
use Rattle.language.specs.Core.{Core}
use Rattle.language.specs.Facts as Facts
use Rattle.language.specs.Facts.{Knowledge}
use Rattle.language.specs.Meaning.{IsFinished, Known, Meaning}
use Rattle.language.specs.Outcomes.{Blocked, Faults, Lines}
use Rattle.language.specs.Places.{Path}
use Rattle.headline.specs.Headline.{script_fault, script_path}
use Rattle.board.specs.Blocked.{InTextOrder, path_of}
use Rattle.board_effects.specs.Effects.{kind_of_fault}
use Rattle.paths.specs.Order.{fault_number, path_below}
use Rattle.paths.specs.declared.faults.Fault.{Fault}
use Rattle.paths.specs.declared.statements.StatementInstance.{StatementInstance}
use Rattle.swt_trace.specs.Report.{blocked_line, fault_line, limit_line, text_line}
use Rattle.swt_status.specs.declared.status.Status.{Status}
use Rattle.swt_status.specs.declared.status.Status.TheVariants as Ends
use Rattle.swt_status.specs.declared.stop.CommandStop.{CommandStop}
use Rattle.swt_status.specs.declared.failure.CommandFailure.{CommandFailure}
use Rattle.swt_status.specs.declared.failure.CommandFailure.TheVariants.{Unprinted}
use Rattle.swt_command.specs.declared.meaning_summary.MeaningSummary.{MeaningSummary}
use Rattle.swt_command.specs.Files.{Files, HasScript, StopsAt}
use Rattle.swt_command.specs.Sinks.{Held, Kept, Took, Lost}

-- THE TEXT

-- the lines, then the blocked statements
abbrev pub known_text : MeaningSummary → List ℕ
known_text t = flat_map text_line t.lines.items ++ flat_map blocked_line t.blocked.items

-- `swt: limit N` if the rounds were not enough
abbrev pub cut_line : Bool → ℕ → List ℕ
cut_line true limit = []
cut_line false limit = limit_line limit

abbrev pub mean_text : MeaningSummary → ℕ → List ℕ
mean_text t limit = (known_text t ++ flat_map fault_line t.faults.items) ++ cut_line t.enough limit

abbrev pub status_by : List StatementInstance → List Fault → Bool → Status
status_by bs fs false = Ends.Limit
status_by bs (f ∷ fs) true = Ends.Fault
status_by (b ∷ bs) [] true = Ends.Blocked
status_by [] [] true = Ends.Done

abbrev pub mean_status : MeaningSummary → Status
mean_status t = status_by t.blocked.items t.faults.items t.enough

-- THE SUMMARY

-- order of faults of one path: by the offset of the statement, then by number
abbrev pub behind_it : Fault → Fault → Bool
behind_it f g = nat_lt f.statement.at g.statement.at || (nat_eq f.statement.at g.statement.at && nat_lt (fault_number f.kind) (fault_number g.kind))

-- order of faults: by path, then by offset and number
abbrev pub fault_before : Fault → Fault → Type 0
fault_before f g = (path_below f.statement.path.items g.statement.path.items ≡ true) ⊎ ((path_of f.statement ≡ path_of g.statement) × (behind_it f g ≡ true))

-- each fault precedes the following ones
abbrev pub InFaultOrder : List Fault → Type 0
InFaultOrder [] = Unit {0}
InFaultOrder (f ∷ fs) = ((g : Fault) → In g fs → fault_before f g) × InFaultOrder fs

-- the outcomes of a script by these facts, without duplicates: lines by their bytes, blocked statements by path and
-- offset, faults by path, offset and number
pub record AreOutcomes (s : Core) (K : Knowledge) (lines : List (List ℕ)) (blocked : List StatementInstance) (faults : List Fault) : Type 0 where
  pub lines_are : Lines K lines
  pub lines_in_order : IsSorted (slice_cmp nat_cmp) lines
  pub blocked_in_order : InTextOrder blocked
  pub each_blocked : (b : StatementInstance) → In b blocked → Blocked s K b.at (script_path (path_of b))
  pub all_blocked : (at : ℕ) (path : Path) → Blocked s K at path → (b : StatementInstance) × In b blocked × (b.at ≡ at) × (script_path (path_of b) ≡ path)
  pub faults_in_order : InFaultOrder faults
  pub each_fault : (f : Fault) → In f faults → Faults K (script_fault (kind_of_fault f.kind)) f.statement.at (script_path (path_of f.statement))
  pub all_faults : (kind : Facts.Fault) (at : ℕ) (path : Path) → Faults K kind at path → (f : Fault) × In f faults × (script_fault (kind_of_fault f.kind) ≡ kind) × (f.statement.at ≡ at) × (script_path (path_of f.statement) ≡ path)

-- the outcomes known after this number of rounds
abbrev pub AreKnown : Core → (rounds : ℕ) → List (List ℕ) → List StatementInstance → List Fault → Type 0
AreKnown s rounds lines blocked faults = AreOutcomes s (Known s rounds) lines blocked faults

-- the summary has all that the script means
abbrev pub IsMeaning : Core → MeaningSummary → Type 0
IsMeaning s t = AreOutcomes s (Meaning s) t.lines.items t.blocked.items t.faults.items

-- the rounds were enough and within the limit, or were not enough and equal the limit
abbrev pub AreEnough : Core → (rounds limit : ℕ) → Bool → Type 0
AreEnough s rounds limit true = IsFinished s rounds × (rounds ≤ limit)
AreEnough s rounds limit false = (¬ IsFinished s rounds) × (rounds ≡ limit)

-- the summary of the script after enough rounds, or after the limit of rounds
pub record IsTold (s : Core) (limit : ℕ) (t : MeaningSummary) : Type 0 where
  pub rounds : ℕ
  pub are_enough : AreEnough s rounds limit t.enough
  pub are_known : AreKnown s rounds t.lines.items t.blocked.items t.faults.items

-- the text of a summary, and its status
pub record IsMeanText (s : Core) (limit : ℕ) (status : Status) (text : List ℕ) : Type 0 where
  pub told : MeaningSummary
  pub is_told : IsTold s limit told
  pub text_is : text ≡ mean_text told limit
  pub status_is : status ≡ mean_status told

-- WHAT THE COMMAND DOES

-- the summary of the first file's script
abbrev pub ToldOf : Files → (limit : ℕ) → MeaningSummary → Type 0
ToldOf files limit t = (s : Core) × HasScript files 0 s × IsTold s limit t

-- the script of the first file has this text
abbrev pub Tells : Files → (limit : ℕ) → Status → (text : List ℕ) → Type 0
Tells files limit status text = (s : Core) × HasScript files 0 s × IsMeanText s limit status text

-- a write of the text failed, or the command stopped at the file with nothing written
abbrev pub StopsMean : Files → ℕ → CommandFailure → Held → Held → Type 0
StopsMean files limit Unprinted out new = (status : Status) × (text : List ℕ) × Tells files limit status text × Lost out text new
StopsMean files limit trouble out new = StopsAt files 0 trouble × Kept out new

-- the text was printed, or the command stops
abbrev pub Means : Files → ℕ → Result Status CommandStop → Held → Held → Type 0
Means files limit (Ok status) out new = (text : List ℕ) × Tells files limit status text × Took out text new
Means files limit (Err stop) out new = (stop.place ≡ 0) × StopsMean files limit stop.trouble out new

-- the text of the whole meaning of the first file's script was printed
abbrev pub PrintsMeaning : Files → (limit : ℕ) → (out new : Held) → Type 0
PrintsMeaning files limit out new = (s : Core) × HasScript files 0 s × ((t : MeaningSummary) × IsMeaning s t × (t.enough ≡ true) × Took out (mean_text t limit) new)
