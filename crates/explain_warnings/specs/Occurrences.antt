-- Occurrences by the nodes at which they stand.
use Rattle.std.specs.Prelude.{Bool, List, [], ◌∷◌, if◌then◌else◌}
use Rattle.language.specs.Tree.{Word, Expression, expression}
use Rattle.explain_warnings.specs.declared.name_use.NameUseKind.{NameUseKind}
use Rattle.explain_warnings.specs.declared.name_use.NameUse.{NameUse}

abbrev pub name_use : NameUseKind → Word → NameUse
name_use k w = record { kind = k; number = w.number; at = w.span }

abbrev pub at_expression : NameUseKind → Expression → NameUse
at_expression k (expression nd f) = record { kind = k; number = nd.number; at = nd.first }

-- an occurrence, if the condition holds
abbrev pub noted : Bool → NameUse → List NameUse
noted holds m = if holds then m ∷ [] else []
