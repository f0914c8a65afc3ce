-- The variables that are used and the functions that are called, by the names of a script.
use Rattle.std.specs.Prelude.{ℕ, ◌+◌, Bool, true, false, List, [], ◌∷◌, Option, Some, None, nat_eq, slice_get, ◌||◌, if◌then◌else◌}
use denote.Enum.Bare.{sameb}
use Rattle.language.specs.Core.{Owned, local, input, output}
use Rattle.language.specs.Table.{Table, Callee, composite, built_in}
use Rattle.language.specs.Tree.{Part, Tree, import, function, single}
use Rattle.explain_warnings.specs.contracts.name_use.NameUseKind as kinds
use Rattle.explain_warnings.specs.declared.name_use.NameUseKind.TheVariants as Is
use Rattle.explain_warnings.specs.declared.name_use.NameUseKind.{NameUseKind}
use Rattle.explain_warnings.specs.declared.name_use.NameUse.{NameUse}
use Rattle.explain_warnings.specs.Mentions.{part_mentions}

abbrev pub same : NameUseKind → NameUseKind → Bool
same a b = sameb kinds.the_type a b

abbrev pub number_in : Owned → Option ℕ
number_in (local n) = Some n
number_in (input i) = None
number_in (output i) = None

abbrev pub place_in : Owned → Option ℕ
place_in (local n) = None
place_in (input i) = Some i
place_in (output i) = None

-- the number of the local variable that an occurrence of this kind refers to
abbrev pub local_number : Table → NameUseKind → NameUse → Option ℕ
local_number t kind m = if same m.kind kind then number_in (t.name_of m.number).what else None

-- the position of the input that an occurrence of this kind refers to
abbrev pub input_place : Table → NameUseKind → NameUse → Option ℕ
input_place t kind m = if same m.kind kind then place_in (t.name_of m.number).what else None

abbrev pub is_number : ℕ → Option ℕ → Bool
is_number k None = false
is_number k (Some n) = nat_eq n k

-- an occurrence of this kind refers to the variable that is declared at node k
abbrev pub uses_local : Table → NameUseKind → List NameUse → ℕ → Bool
uses_local t kind [] k = false
uses_local t kind (m ∷ ms) k = is_number k (local_number t kind m) || uses_local t kind ms k

-- an occurrence of this kind refers to the input at position k
abbrev pub uses_input : Table → NameUseKind → List NameUse → ℕ → Bool
uses_input t kind [] k = false
uses_input t kind (m ∷ ms) k = is_number k (input_place t kind m) || uses_input t kind ms k

-- CALLS

abbrev pub function_in : Callee → Option ℕ
function_in (composite i) = Some i
function_in (built_in b) = None

-- the position of the function of the script that an occurrence calls
abbrev pub called_function : Table → NameUse → Option ℕ
called_function t m = if same m.kind Is.Called then function_in (t.callee_of m.number) else None

-- the called function, unless it is the one in which the call stands
abbrev pub other_than : (own called : Option ℕ) → Option ℕ
other_than own None = None
other_than own (Some n) = if is_number n own then None else Some n

-- an occurrence calls the function at position k, in another one than that
abbrev pub calls_other : Table → (own : Option ℕ) → List NameUse → ℕ → Bool
calls_other t own [] k = false
calls_other t own (m ∷ ms) k = is_number k (other_than own (called_function t m)) || calls_other t own ms k

-- the position of a part among the functions, if `i` functions precede it
abbrev pub position_of : ℕ → Part → Option ℕ
position_of i (import sp) = None
position_of i (function f) = Some i
position_of i (single s) = None

abbrev pub is_function : Part → Bool
is_function (import sp) = false
is_function (function f) = true
is_function (single s) = false

-- the number of functions up to this part, if `i` functions precede it
abbrev pub counted : ℕ → Part → ℕ
counted i p = if is_function p then i + 1 else i

-- The function at position k is called outside of its own body: by another function, or by a statement outside of all functions. `i` functions
-- precede these parts.
abbrev pub is_called : Table → (i : ℕ) → Tree → ℕ → Bool
is_called t i [] k = false
is_called t i (p ∷ ps) k = calls_other t (position_of i p) (part_mentions p) k || is_called t (counted i p) ps k

-- BITS

-- a bit vector with a mark for each number
abbrev pub mark_in : Option Bool → Bool
mark_in None = false
mark_in (Some b) = b

abbrev pub is_marked : List Bool → ℕ → Bool
is_marked marks k = mark_in (slice_get marks k)
