use Rattle.std.proofs.Common.{◌≡◌, ◌++◌, drop}
use Rattle.explain_warnings.specs.Cycles.{cycles, cycles_from}
use Rattle.explain_warnings.specs.View.{statements_in}
use Rattle.explain_warnings.proofs.mistakes.cycles.cycles.Given as goal

abbrev pub invariant-loop-i : goal.invariant-loop-i
invariant-loop-i g l =
    l.fn.name_uses.items ++ cycles (statements_in l.before)
    ≡ l.name_uses.items ++ cycles_from (statements_in l.before) l.i (statements_in (drop l.i l.before))
