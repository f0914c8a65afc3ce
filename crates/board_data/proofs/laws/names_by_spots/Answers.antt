use Rattle.board_data.proofs.Named.{all_added, all_named, job_by}
use Rattle.board_data.proofs.laws.names_by_spots.Goals as goal

pub returns : goal.returns
returns c = record {
  missed = job_by;
  given = λ C fs k b d rs few. all_named C fs k b few d rs;
  added = λ C fs k b d hs few. all_added C fs k b few d hs;
}
