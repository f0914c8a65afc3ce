-- The same entry's job.
use Rattle.std.proofs.Common.{◌≡◌, ap}
use Rattle.std.specs.Bool.{Decides}
use Rattle.task_code.specs.Code.{Entry}
use Rattle.board_work.specs.Same.{entry_eq}
use Rattle.board_work.proofs.Comparisons.{same_entry}
use Rattle.board_work.specs.Assigned.{runs}

pub same_job : (e f : Entry) → Decides (entry_eq f e) (runs f ≡ runs e)
same_job e f = (λ h. ap runs ((same_entry f e).0 h), λ p. (same_entry f e).1 (by p))
  where
    by : runs f ≡ runs e → f ≡ e
    by p = cc
