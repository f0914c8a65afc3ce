use Rattle.std.proofs.Common.{◌≡◌, ℕ, drop}
use Rattle.std.specs.Prelude.{◌||◌}
use Rattle.types.specs.Typed.{table_of}
use Rattle.explain_warnings.specs.Marks.{is_marked, calls_other}
use Rattle.explain_warnings.proofs.sets.calls.mark_others.Given as goal

abbrev pub invariant-loop-name_use : goal.invariant-loop-name_use
invariant-loop-name_use l = (k : ℕ)
    → (is_marked l.fn.marks.items k || calls_other (table_of l.typed) l.own l.name_uses k)
    ≡ (is_marked l.marks.items k || calls_other (table_of l.typed) l.own (drop l.name_use-index l.name_uses) k)
