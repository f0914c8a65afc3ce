-- The failure of a trace that is replayed.
use Rattle.std.proofs.Common.{◌≡◌, refl, ℕ, List, Some}
use Rattle.task_code.specs.Code.{Code}
use Rattle.swt_trace.specs.Replay.{IsFirstNoStep, IsWrongEnd}
use Rattle.swt_trace.specs.Trace.{IsFirstBad}
use Rattle.swt_trace.specs.declared.fault.ReplayFault.{ReplayFault}
use Rattle.swt_trace.specs.declared.fault.ReplayFault.TheVariants as Replay
use Rattle.swt_status.specs.Traces.{StopsAtTrace, replay_failure}

pub stops_at : (bytes : List ℕ) (code : Code) (fault : ReplayFault) → ((n : ℕ) → fault ≡ Replay.BadLine n → IsFirstBad bytes n) → ((n : ℕ) → fault ≡ Replay.NotARun n → IsFirstNoStep code bytes n)
    → ((n : ℕ) → fault ≡ Replay.WrongEnd n → IsWrongEnd code bytes n) → StopsAtTrace (Some bytes) code (replay_failure fault)
stops_at bytes code (Replay.BadLine n) bad no_step wrong = bad n refl
stops_at bytes code (Replay.NotARun n) bad no_step wrong = no_step n refl
stops_at bytes code (Replay.WrongEnd n) bad no_step wrong = wrong n refl
stops_at bytes code Replay.Memory bad no_step wrong = tt
