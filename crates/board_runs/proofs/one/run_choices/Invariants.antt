use Rattle.std.proofs.Common.{◌≡◌, ◌≤◌, length}
use Rattle.board_runs.specs.Turns.{Turns}
use Rattle.board_runs.proofs.one.run_choices.Given as goal

abbrev pub invariant-loop-k : goal.invariant-loop-k
invariant-loop-k l = record {
  turns : Turns l.k l.choices l.fn.board l.board;
  many : l.k ≤ length l.board.history;
  limit : l.board.limit ≡ l.fn.board.limit;
}
