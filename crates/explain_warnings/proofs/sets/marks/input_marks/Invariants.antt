use Rattle.std.proofs.Common.{◌≡◌, ℕ, drop}
use Rattle.std.specs.Prelude.{◌||◌}
use Rattle.types.specs.Typed.{table_of}
use Rattle.explain_warnings.specs.Marks.{is_marked, uses_input}
use Rattle.explain_warnings.proofs.sets.marks.input_marks.Given as goal

abbrev pub invariant-loop-name_use : goal.invariant-loop-name_use
invariant-loop-name_use l = (k : ℕ)
    → uses_input (table_of l.typed) l.kind l.name_uses k ≡ (is_marked l.marks.items k || uses_input (table_of l.typed) l.kind (drop l.name_use-index l.name_uses) k)
