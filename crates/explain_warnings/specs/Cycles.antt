-- Cycles of plain statements of one list: each of them waits for the variable that the next one assigns, so none of them is ever done.
use Rattle.std.specs.Prelude.{ℕ, ◌+◌, Bool, false, List, [], ◌∷◌, ◌++◌, length, Option, Some, None, is_some, slice_get, nat_le, if◌then◌else◌, ◌&&◌}
use Rattle.language.specs.Tree.{Word, RightSide, Statement, statement, Command, declare, assign, write, assign_all, calls, choice, choice_else, loop, waits, Statements, no_statements, and_statement, Part, Tree, import, function, single}
use Rattle.explain_warnings.specs.declared.name_use.NameUse.{NameUse}
use Rattle.explain_warnings.specs.declared.name_use.NameUseKind.TheVariants.{CircularWait}
use Rattle.explain_warnings.specs.Forms.{right_needs}
use Rattle.explain_warnings.specs.Occurrences.{name_use}
use Rattle.explain_warnings.specs.Ways.{leads, meets_first}

-- PLAIN STATEMENTS

abbrev pub valued : Word → Option RightSide → Option Word
valued w None = None
valued w (Some r) = Some w

-- the variable that an assignment, or a declaration with a right side, assigns
abbrev pub command_target : Command → Option Word
command_target (declare d r) = valued d.name r
command_target (assign w r) = Some w
command_target (write w i e) = None
command_target (assign_all ws c) = None
command_target (calls p c) = None
command_target (choice e b) = None
command_target (choice_else e b d) = None
command_target (loop v k o b) = None
command_target (waits ws b) = None

abbrev pub target : Statement → Option Word
target (statement nd c) = command_target c

-- the first 64 such statements of a list are kept
abbrev pub kept : (before : List Statement) → Statement → List Statement
kept before s = if nat_le (length before) 63 && is_some (target s) then before ++ s ∷ [] else before

abbrev pub plain : (before : List Statement) → Statements → List Statement
plain before no_statements = before
plain before (and_statement s ss) = plain (kept before s) ss

-- the same of the statements outside of all functions
abbrev pub part_kept : (before : List Statement) → Part → List Statement
part_kept before (import sp) = before
part_kept before (function f) = before
part_kept before (single s) = kept before s

abbrev pub tree_plain : (before : List Statement) → Tree → List Statement
tree_plain before [] = before
tree_plain before (p ∷ ps) = tree_plain (part_kept before p) ps

-- WAITING

abbrev pub initial_needs : (name : List ℕ) → Option RightSide → Bool
initial_needs name None = false
initial_needs name (Some r) = right_needs name r

abbrev pub command_needs : (name : List ℕ) → Command → Bool
command_needs name (declare d r) = initial_needs name r
command_needs name (assign w r) = right_needs name r
command_needs name (write w i e) = false
command_needs name (assign_all ws c) = false
command_needs name (calls p c) = false
command_needs name (choice e b) = false
command_needs name (choice_else e b d) = false
command_needs name (loop v k o b) = false
command_needs name (waits ws b) = false

-- the right side of a statement needs this variable
abbrev pub needs_target : Statement → Option Word → Bool
needs_target s None = false
needs_target (statement nd c) (Some w) = command_needs w.text c

abbrev pub both_wait : Option Statement → Option Statement → Bool
both_wait (Some s) (Some t) = needs_target s (target t)
both_wait _ _ = false

-- statement i of a list waits for the variable that statement k assigns
abbrev pub awaits : List Statement → (i k : ℕ) → Bool
awaits ss i k = both_wait (slice_get ss i) (slice_get ss k)

-- CYCLES

-- statement i of a list is the first one of a cycle
abbrev pub opens_cycle : List Statement → (i : ℕ) → Bool
opens_cycle ss i = meets_first (leads (awaits ss) (length ss)) (length ss) i

abbrev pub named : Option Word → List NameUse
named None = []
named (Some w) = name_use CircularWait w ∷ []

abbrev pub cycle_at : (opens : Bool) → Statement → List NameUse
cycle_at opens s = if opens then named (target s) else []

-- the occurrences at the statements of a list from place i on
abbrev pub cycles_from : List Statement → (i : ℕ) → List Statement → List NameUse
cycles_from ss i [] = []
cycles_from ss i (s ∷ rest) = cycle_at (opens_cycle ss i) s ++ cycles_from ss (i + 1) rest

abbrev pub cycles : List Statement → List NameUse
cycles ss = cycles_from ss 0 ss
