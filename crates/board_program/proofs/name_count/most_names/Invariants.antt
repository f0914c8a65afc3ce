use Rattle.std.proofs.Common.{ℕ, ◌≤◌, ◌<◌, length}
use Rattle.task_code.specs.Code.{entry as entry_at}
use Rattle.board_program.proofs.name_count.most_names.Given as goal

abbrev pub invariant-loop-number : goal.invariant-loop-number
invariant-loop-number l =
    ((i : ℕ) → i < l.number → length (entry_at l.code i).reads ≤ l.most)
    × ((i : ℕ) → i < l.number → length (entry_at l.code i).writes ≤ l.most)
