use Rattle.std.proofs.Common.{map}
use Rattle.meaning_facts.specs.Paths.{step_view}
use Rattle.meaning_outcomes.proofs.Steps.{turned_back}
use Rattle.meaning_outcomes.proofs.results.reversed.Goals as goal

pub returns : goal.returns
returns c = turned_back step_view c.in_ok-steps.steps.items c.reverse.new.self.items (map step_view c.args.path.now) c.reverse.ensures.items c.in_ok-steps.ensures
