use Rattle.std.proofs.Common.{◌≡◌, List, map, drop}
use Rattle.types.specs.declared.typed.NameEntry.{NameEntry}
use Rattle.types.specs.Known.{type_of}
use Rattle.types.specs.Statements as steps
use Rattle.types.proofs.statements.same_types.Given as goal

abbrev pub invariant-loop-i : goal.invariant-loop-i
invariant-loop-i l =
    (settled : List NameEntry) → steps.same_types (map type_of l.found) (map type_of l.wanted) l.at settled ≡ steps.same_types (map type_of (drop l.i l.found)) (map type_of (drop l.i l.wanted)) l.at settled
