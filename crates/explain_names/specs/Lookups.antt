-- Lookups among the occurrences of names.
use Rattle.std.specs.Prelude.{ℕ, Bool, true, false, List, [], ◌∷◌, take, drop, length, ◌-◌, ◌&&◌, nat_le, Option, Some, None, if◌then◌else◌}
use Rattle.std.specs.Str.{bytes_eq}
use Rattle.lexer.specs.declared.token.Span.{Span}
use Rattle.language.specs.Tree.{Composite, Tree, import, function, single}
use Rattle.explain_names.specs.declared.occurrence.OccurrenceKind.{OccurrenceKind}
use Rattle.explain_names.specs.declared.occurrence.OccurrenceKind.TheVariants as Is
use Rattle.explain_names.specs.declared.occurrence.Occurrence.{Occurrence}
use Rattle.explain_names.specs.declared.lookup.LookupKind.{LookupKind}
use Rattle.explain_names.specs.declared.lookup.LookupKind.TheVariants as Want

-- the bytes of a span; none if the text has no such span
abbrev pub bytes_at : List ℕ → Span → List ℕ
bytes_at text at = if nat_le at.from at.to && nat_le at.to (length text) then take (at.to - at.from) (drop at.from text) else []

-- a variable is declared by a statement, as an output, as an input or as a loop variable; the last two also assign it
abbrev pub wants : LookupKind → OccurrenceKind → Bool
wants Want.Declaration Is.Declared = true
wants Want.Declaration Is.Output = true
wants Want.Declaration Is.Given = true
wants Want.Declaration _ = false
wants Want.Assignment Is.Assigned = true
wants Want.Assignment Is.Given = true
wants Want.Assignment _ = false
wants Want.Element Is.Written = true
wants Want.Element _ = false

-- the occurrence is of the wanted kind, of this name, and ends at or before the offset
abbrev pub fits : List ℕ → LookupKind → List ℕ → ℕ → Occurrence → Bool
fits text wanted name before m = wants wanted m.kind && nat_le m.at.to before && bytes_eq (bytes_at text m.at) name

-- the last occurrence of a list that fits, or `found` if none does
abbrev pub last_behind : Option Occurrence → (Occurrence → Bool) → List Occurrence → Option Occurrence
last_behind found p [] = found
last_behind found p (m ∷ ms) = last_behind (if p m then Some m else found) p ms

abbrev pub last_fitting : (Occurrence → Bool) → List Occurrence → Option Occurrence
last_fitting p ms = last_behind None p ms

-- the first function with this name
abbrev pub function_named : List ℕ → Tree → Option Composite
function_named name [] = None
function_named name (import sp ∷ ps) = function_named name ps
function_named name (function f ∷ ps) = if bytes_eq f.name.text name then Some f else function_named name ps
function_named name (single s ∷ ps) = function_named name ps
