-- The report of a run on threads.
use Rattle.std.specs.Prelude.{◌≡◌, ◌≤◌, ◌<◌, ℕ, ◌+◌, All, List, if◌then◌else◌, length, nat_eq, slice_index, sum_by}
use Rattle.dataflow.specs.Events.{backs, tally}
use Rattle.task_code.specs.Code.{Code}
use Rattle.task_code.specs.Machine.{Newly, Run}
use Rattle.board.specs.Board.{Seen}
use Rattle.board_runs.specs.Report.{Tells}
use Rattle.board_runs.specs.declared.report.Report.{Report}
use Rattle.workers.specs.declared.run.PoolCount.{PoolCount}
use Rattle.workers.specs.Threads.{IsRunWorker, RunsTo}
use Rattle.values.specs.Limits.{max_threads}

-- What the state of one engine or worker counted: its number, and the events that it caused.
pub record OwnCount : Type 0 where
  pub worker : ℕ
  pub events : ℕ

-- the events that were counted under the number
abbrev pub counted_under : ℕ → List OwnCount → ℕ
counted_under w counts = sum_by (λ o. if nat_eq o.worker w then o.events else 0) counts

-- The tallies are what `n` states of engines and workers counted themselves, each under its number.
pub record AreCounted (engines workers n : ℕ) (tallies : List ℕ) : Type 0 where
  pub counts : List OwnCount
  pub states : length counts ≡ n
  pub theirs : All (λ o. IsRunWorker engines workers o.worker) counts
  pub each : (w : ℕ) → w < max_threads → slice_index tallies w ≡ counted_under w counts

-- The report describes a board whose history is a run of the code within the limit. Each item is begun by a worker of
-- its kind, and none is given back. The tally of each worker is its number of events, and is what the states of all
-- engines and workers counted under its number. Each newly ready item was offered to the pool or found no hole. Each
-- offered item was drawn, or is left in one of the pool's 96 holes.
pub record IsReport (C : Code) (limit engines workers : ℕ) (r : Report) (p : PoolCount) : Type 0 where
  pub board : Seen
  pub code : board.code ≡ C
  pub limit_is : board.limit ≡ limit
  pub within : length board.history ≤ limit
  pub steps : Run C board.history board.state
  pub run : RunsTo C engines workers board.history (p.offered + p.full) board.state
  pub newly : Newly C board.history (p.offered + p.full)
  pub no_back : backs board.history ≡ 0
  pub tells : Tells board r
  pub tallies : (w : ℕ) → w < max_threads → slice_index r.tallies w ≡ tally board.history w
  pub own : AreCounted engines workers (engines + workers) r.tallies
  pub drawn : p.offered ≡ p.drawn + p.left
  pub few_left : p.left ≤ 96
