use Rattle.std.proofs.Common.{◌≡◌, ◌++◌, drop}
use Rattle.explain_warnings.specs.View.{uses_of}
use Rattle.explain_warnings.specs.Warnings.{warnings_at}
use Rattle.explain_warnings.proofs.warning.write_all.Given as goal

abbrev pub invariant-loop-name_use : goal.invariant-loop-name_use
invariant-loop-name_use l =
    l.fn.found.items ++ warnings_at (uses_of l.uses) l.name_uses ≡ l.found.items ++ warnings_at (uses_of l.uses) (drop l.name_use-index l.name_uses)
