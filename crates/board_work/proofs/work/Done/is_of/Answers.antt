use Rattle.board_work.proofs.Jobs.{same_job}
use Rattle.board_work.proofs.work.Done.is_of.Goals as goal

pub returns-in-Entry : goal.returns-in-Entry
returns-in-Entry c = rw (← c.self.view_is, c.in-Entry.is, c.is_same_entry.ensures, c.deref.ensures) (same_job _ _)
