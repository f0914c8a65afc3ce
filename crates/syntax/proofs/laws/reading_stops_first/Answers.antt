use Rattle.syntax.proofs.stopping.Viable.{stops_first}
use Rattle.syntax.proofs.laws.reading_stops_first.Goals as goal

pub returns : goal.returns
returns c = stops_first
