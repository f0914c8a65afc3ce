-- The invariant of `Code`.
use Rattle.std.specs.Prelude.{◌≤◌, length}
use Rattle.task_code.specs.Code.{Code}
use Rattle.task_code.specs.Whole.{IsCode}
use Rattle.values.specs.Limits.{max_entries}

-- the code is whole, and its number of entries is bounded
pub record IsSound (C : Code) : Type 0 where
  pub whole : IsCode C
  pub few : length C.entries ≤ max_entries
