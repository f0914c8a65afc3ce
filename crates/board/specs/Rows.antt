-- Ready and running items, by their rows.
use Rattle.std.specs.Prelude.{◌≡◌, ℕ, List, Some}
use Rattle.board_history.specs.Fields as Pure
use Rattle.board_history.specs.Fields.{row_of}

-- the item of the number is ready, or runs on the worker, and has this job
abbrev pub IsReady : List Pure.Row → ℕ → Pure.Job → Type 0
IsReady rows n j = row_of rows n ≡ Some (record { job = j; status = Pure.Ready })

abbrev pub RunsOn : List Pure.Row → (worker number : ℕ) → Pure.Job → Type 0
RunsOn rows w n j = row_of rows n ≡ Some (record { job = j; status = Pure.Running w })
