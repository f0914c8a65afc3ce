use Rattle.std.proofs.Common.{◌≡◌, drop}
use Rattle.types.specs.Typed.{table_of}
use Rattle.explain_warnings.specs.Endless.{first_call}
use Rattle.explain_warnings.proofs.mistakes.endless.first_call.Given as goal

abbrev pub invariant-loop-name_use : goal.invariant-loop-name_use
invariant-loop-name_use l =
    first_call (table_of l.typed) l.position l.name_uses ≡ first_call (table_of l.typed) l.position (drop l.name_use-index l.name_uses)
