-- The reasons why a command stops at a trace.
use Rattle.std.specs.Prelude.{ℕ, List, Option, Some, None}
use Rattle.task_code.specs.Code.{Code}
use Rattle.swt_trace.specs.Replay.{IsFirstNoStep, IsWrongEnd}
use Rattle.swt_trace.specs.Trace.{IsFirstBad}
use Rattle.swt_trace.specs.declared.fault.ReplayFault.{ReplayFault}
use Rattle.swt_trace.specs.declared.fault.ReplayFault.TheVariants as Replay
use Rattle.swt_status.specs.declared.failure.CommandFailure.{CommandFailure}
use Rattle.swt_status.specs.declared.failure.CommandFailure.TheVariants as Is

-- the trace cannot be read, or violates the grammar, or has an event that is not a step of the code, or names a
-- different end than its run has; or an allocation failed
abbrev pub StopsAtTrace : Option (List ℕ) → Code → CommandFailure → Type 0
StopsAtTrace None code Is.Unread = Unit {0}
StopsAtTrace (Some bytes) code (Is.BadLine n) = IsFirstBad bytes n
StopsAtTrace (Some bytes) code (Is.NotARun n) = IsFirstNoStep code bytes n
StopsAtTrace (Some bytes) code (Is.WrongEnd n) = IsWrongEnd code bytes n
StopsAtTrace (Some bytes) code Is.Memory = Unit {0}
StopsAtTrace _ code _ = ⊥

-- the fault of a replay as the failure of a command
abbrev pub replay_failure : ReplayFault → CommandFailure
replay_failure (Replay.BadLine n) = Is.BadLine n
replay_failure (Replay.NotARun n) = Is.NotARun n
replay_failure (Replay.WrongEnd n) = Is.WrongEnd n
replay_failure Replay.Memory = Is.Memory
