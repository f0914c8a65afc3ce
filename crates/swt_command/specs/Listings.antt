-- The contract of `code`: its printed text.
use Rattle.std.specs.Prelude.{◌≡◌, ℕ, List, Result, Ok, Err, Some}
use Rattle.compile.specs.Accepted.{IsScript}
use Rattle.swt_status.specs.declared.status.Status.{Status}
use Rattle.swt_status.specs.declared.status.Status.TheVariants.{Done}
use Rattle.swt_status.specs.declared.stop.CommandStop.{CommandStop}
use Rattle.swt_status.specs.declared.failure.CommandFailure.{CommandFailure}
use Rattle.swt_status.specs.declared.failure.CommandFailure.TheVariants.{Unprinted}
use Rattle.swt_command.specs.Files.{Files, StopsAt, source_of}
use Rattle.swt_command.specs.Sinks.{Held, Kept, Lost, Took}

-- the file at this index is an accepted script
abbrev pub IsAcceptedAt : Files → ℕ → Type 0
IsAcceptedAt files place = (src : List ℕ) × (source_of files place ≡ Some src) × IsScript src

-- a write of the text failed, or the command stopped at the file with nothing written
abbrev pub StopsListing : Files → CommandFailure → Held → Held → Type 0
StopsListing files Unprinted out new = IsAcceptedAt files 0 × ((text : List ℕ) × Lost out text new)
StopsListing files trouble out new = StopsAt files 0 trouble × Kept out new

-- for an accepted script a text was printed whole, or the command stops
abbrev pub Lists : Files → Result Status CommandStop → Held → Held → Type 0
Lists files (Ok status) out new = (status ≡ Done) × (IsAcceptedAt files 0 × ((text : List ℕ) × Took out text new))
Lists files (Err stop) out new = (stop.place ≡ 0) × StopsListing files stop.trouble out new
