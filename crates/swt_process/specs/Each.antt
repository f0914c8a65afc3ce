-- Files that are checked one after another, with one in memory at a time.
use Rattle.std.specs.Prelude.{◌≡◌, ◌⊎◌, ℕ, List, [], ◌∷◌, reverse, Result, Ok, Err}
use Rattle.host.specs.Events.{Read}
use Rattle.swt_arguments.specs.declared.line.Line.TheVariants.{Check}
use Rattle.swt_status.specs.Statuses.{number_of}
use Rattle.swt_status.specs.Troubles.{trouble_status}
use Rattle.swt_status.specs.Verdicts.{Verdict}
use Rattle.swt_status.specs.declared.status.Status.{Status}
use Rattle.swt_status.specs.declared.stop.CommandStop.{CommandStop}
use Rattle.swt_status.specs.declared.failure.CommandFailure.{CommandFailure}
use Rattle.swt_command.specs.Checks.{Checks, IsSaid, StopsBy}
use Rattle.swt_command.specs.Files.{Files}
use Rattle.swt_command.specs.Sinks.{Held}
use Rattle.swt_process.specs.Reads.{AreRead, EndsReading, IsEnough, max_source}

-- the status number of a process stopped by this failure
abbrev pub number_by : CommandFailure → ℕ
number_by trouble = number_of (trouble_status trouble)

-- the file of this name was read and its line written, or the check stops there
abbrev pub IsChecked : List ℕ → (before now : List Read) → Result Verdict CommandFailure → (out new : Held) → Type 0
IsChecked name before now (Ok v) out new =
    (r : Read) × (now ≡ r ∷ before) × (r.name ≡ name) × IsEnough max_source r.bytes r.ended × IsSaid name (r.bytes ∷ []) 0 v out new
IsChecked name before now (Err trouble) out new =
    (r : Read) × (now ≡ r ∷ before) × (r.name ≡ name) × ((number_by trouble ≡ 6) ⊎ IsEnough max_source r.bytes r.ended) × StopsBy name r.bytes trouble out new

-- all files were read and have their lines, or those up to the file at which the check stops
abbrev pub ChecksEach : (names : List (List ℕ)) → List Read → Result Status CommandStop → (out new : Held) → Type 0
ChecksEach names rs (Ok status) out new = (files : Files) × AreRead (Check names) names files (reverse rs) × Checks names files (Ok status) out new
ChecksEach names rs (Err stop) out new = (files : Files) × EndsReading names files (number_by stop.trouble) rs × Checks names files (Err stop) out new
