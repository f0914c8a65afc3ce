use Rattle.std.proofs.Common.{◌≡◌, map, take}
use Rattle.meaning_facts.specs.Paths.{step_view}
use Rattle.meaning_outcomes.proofs.results.copied.Given as goal

abbrev pub invariant-loop-step : goal.invariant-loop-step
invariant-loop-step l = map step_view l.steps.items ≡ map step_view (take l.step-index l.path)
