-- A completed run whose board may be kept.
use Rattle.std.specs.Prelude.{◌≡◌, ◌↔◌, Bool, true, IfSome, IsSome}
use Rattle.board_runs.specs.Report.{Tells}
use Rattle.board_runs.specs.declared.stopped.StoppedRun.{StoppedRun}

-- the board was kept exactly if that was wanted, and the report agrees with it: its history is the report's, and its
-- state is the one that this history leads to
pub record IsStopped (keeps : Bool) (run : StoppedRun) : Type 0 where
  pub kept : IsSome run.board ↔ (keeps ≡ true)
  pub tells : IfSome run.board (λ board. Tells board run.report)
