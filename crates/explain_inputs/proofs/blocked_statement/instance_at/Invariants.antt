use Rattle.std.proofs.Common.{◌≡◌, map, take}
use Rattle.std.specs.Prelude.{reverse, Some}
use Rattle.meaning_facts.specs.Paths.{at_path, step_view}
use Rattle.explain_inputs.proofs.blocked_statement.instance_at.Given as goal

abbrev pub invariant-loop-step : goal.invariant-loop-step
invariant-loop-step l = at_path l.instances (reverse (map step_view (take l.step-index l.path))) ≡ Some l.instance
