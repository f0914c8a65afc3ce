use Rattle.board_changes.proofs.Frames.{are_made, frames_open, nested, rows_are}
use Rattle.board_changes.proofs.MadeData.{makes_data}
use Rattle.board_changes.proofs.laws.opened_blocks.Goals as goal

pub returns : goal.returns
returns c = record {
  made = are_made;
  rows = rows_are;
  opens = frames_open;
  nested = λ C j x o fs gs old new s t b w fits n. nested C j x o fs gs old new s t b w fits n;
  makes = makes_data;
}
