use Rattle.std.proofs.Common.{◌≡◌, drop}
use Rattle.syntax_trees.specs.View.{form_view}
use Rattle.explain_warnings.specs.Repeats.{some_writes}
use Rattle.explain_warnings.specs.View.{statements_in}
use Rattle.explain_warnings.proofs.mistakes.repeats.some_writes.Given as goal

abbrev pub invariant-loop-stmt : goal.invariant-loop-stmt
invariant-loop-stmt g l =
    some_writes l.name (form_view l.key) (statements_in l.before)
    ≡ some_writes l.name (form_view l.key) (statements_in (drop l.stmt-index l.before))
