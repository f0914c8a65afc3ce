use Rattle.std.proofs.Common.{◌-◌}
use Rattle.pool.specs.Seats.{pool_id}
use Rattle.workers.proofs.run.run_threads_to_stop.Given as goal

abbrev pub ghosts-run-J-RunParams : goal.ghosts-run-J-RunParams
ghosts-run-J-RunParams g a = record { code = a.board.code; limit = a.board.limit; engines = a.engines; workers = a.count - a.engines; pool = pool_id a.pool; book = a.opened.seen.book }

abbrev pub ghosts-run-E-Ledger : goal.ghosts-run-E-Ledger
ghosts-run-E-Ledger g a = record { name = a.events.name; parts = a.events.parts }

abbrev pub ghosts-run-N-Ledger : goal.ghosts-run-N-Ledger
ghosts-run-N-Ledger g a = record { name = a.enabled.name; parts = a.enabled.parts }
