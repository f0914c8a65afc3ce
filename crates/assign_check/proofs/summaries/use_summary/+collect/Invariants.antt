use Rattle.std.proofs.Common.{◌≡◌, ◌++◌, map, drop}
use Rattle.assign_check.specs.Faults.{uses_in, declared_in}
use Rattle.assign_check.specs.View.{use_view, declared_view, outline_view}
use Rattle.assign_check.proofs.summaries.use_summary.+collect.Given as goal

abbrev pub invariant-collect-loop-step : goal.invariant-collect-loop-step
invariant-collect-loop-step l = record {
  uses : map use_view l.fn.uses.items ++ uses_in (outline_view l.steps.items) ≡ map use_view l.uses.items ++ uses_in (outline_view (drop l.step-index l.steps.items));
  declared : map declared_view l.fn.declared.items ++ declared_in (outline_view l.steps.items) ≡ map declared_view l.declared.items ++ declared_in (outline_view (drop l.step-index l.steps.items));
}
