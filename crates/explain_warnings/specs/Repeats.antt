-- Writes of one key of an array by two statements of one list, each under a literal.
use Rattle.std.specs.Prelude.{ℕ, ℤ, Bool, true, false, List, [], ◌∷◌, ◌++◌, length, nat_le, if◌then◌else◌, ◌&&◌, ◌||◌}
use Rattle.std.specs.Ordering.{int_eq}
use Rattle.std.specs.Str.{bytes_eq}
use Rattle.language.specs.Tree.{Word, Expression, expression, Form, number, text, truth, variable, element, call, prefixed, chain, Statement, statement, Command, declare, assign, write, assign_all, calls, choice, choice_else, loop, waits, Statements, no_statements, and_statement, Part, Tree, import, function, single}
use Rattle.explain_warnings.specs.declared.name_use.NameUse.{NameUse}
use Rattle.explain_warnings.specs.declared.name_use.NameUseKind.TheVariants.{KeyTwice}
use Rattle.explain_warnings.specs.Occurrences.{name_use, noted}

abbrev pub form_of : Expression → Form
form_of (expression nd f) = f

-- KEYS

-- a number literal or a string literal
abbrev pub is_literal : Form → Bool
is_literal (number z) = true
is_literal (text bytes) = true
is_literal (truth b) = false
is_literal (variable w) = false
is_literal (element w i) = false
is_literal (call w es) = false
is_literal (prefixed p e) = false
is_literal (chain os es) = false

abbrev pub is_number : ℤ → Form → Bool
is_number z (number y) = int_eq y z
is_number z (text bytes) = false
is_number z (truth b) = false
is_number z (variable w) = false
is_number z (element w i) = false
is_number z (call w es) = false
is_number z (prefixed p e) = false
is_number z (chain os es) = false

abbrev pub is_text : List ℕ → Form → Bool
is_text key (number y) = false
is_text key (text bytes) = bytes_eq bytes key
is_text key (truth b) = false
is_text key (variable w) = false
is_text key (element w i) = false
is_text key (call w es) = false
is_text key (prefixed p e) = false
is_text key (chain os es) = false

-- two literals that are one key
abbrev pub same_key : (key other : Form) → Bool
same_key (number z) f = is_number z f
same_key (text bytes) f = is_text bytes f
same_key (truth b) f = false
same_key (variable w) f = false
same_key (element w i) f = false
same_key (call w es) f = false
same_key (prefixed p e) f = false
same_key (chain os es) f = false

-- WRITES

abbrev pub command_writes : (name : List ℕ) (key : Form) → Command → Bool
command_writes name key (declare d r) = false
command_writes name key (assign w r) = false
command_writes name key (write w i e) = bytes_eq w.text name && same_key key (form_of i)
command_writes name key (assign_all ws c) = false
command_writes name key (calls p c) = false
command_writes name key (choice e b) = false
command_writes name key (choice_else e b d) = false
command_writes name key (loop v k o b) = false
command_writes name key (waits ws b) = false

-- a statement writes this key of the array of this name
abbrev pub writes_key : (name : List ℕ) (key : Form) → Statement → Bool
writes_key name key (statement nd c) = command_writes name key c

abbrev pub some_writes : (name : List ℕ) (key : Form) → List Statement → Bool
some_writes name key [] = false
some_writes name key (s ∷ ss) = writes_key name key s || some_writes name key ss

-- the occurrence at a write of an element under this key
abbrev pub write_again : (before : List Statement) → Word → Expression → List NameUse
write_again before w i = noted (some_writes w.text (form_of i) before) (name_use KeyTwice w)

abbrev pub command_again : (before : List Statement) → Command → List NameUse
command_again before (declare d r) = []
command_again before (assign w r) = []
command_again before (write w i e) = write_again before w i
command_again before (assign_all ws c) = []
command_again before (calls p c) = []
command_again before (choice e b) = []
command_again before (choice_else e b d) = []
command_again before (loop v k o b) = []
command_again before (waits ws b) = []

-- the occurrence at a statement that writes a key that one of these statements writes
abbrev pub again : (before : List Statement) → Statement → List NameUse
again before (statement nd c) = command_again before c

abbrev pub command_is_plain : Command → Bool
command_is_plain (declare d r) = false
command_is_plain (assign w r) = false
command_is_plain (write w i e) = is_literal (form_of i)
command_is_plain (assign_all ws c) = false
command_is_plain (calls p c) = false
command_is_plain (choice e b) = false
command_is_plain (choice_else e b d) = false
command_is_plain (loop v k o b) = false
command_is_plain (waits ws b) = false

-- a statement that writes an element under a literal
abbrev pub is_plain : Statement → Bool
is_plain (statement nd c) = command_is_plain c

-- the first 64 such statements of a list are compared with the later ones
abbrev pub kept : (before : List Statement) → Statement → List Statement
kept before s = if nat_le (length before) 63 && is_plain s then before ++ s ∷ [] else before

-- LISTS

-- the occurrences in a list of statements, behind those that are kept
abbrev pub repeats : (before : List Statement) → Statements → List NameUse
repeats before no_statements = []
repeats before (and_statement s ss) = again before s ++ repeats (kept before s) ss

-- the same of the statements outside of all functions
abbrev pub part_again : (before : List Statement) → Part → List NameUse
part_again before (import sp) = []
part_again before (function f) = []
part_again before (single s) = again before s

abbrev pub part_kept : (before : List Statement) → Part → List Statement
part_kept before (import sp) = before
part_kept before (function f) = before
part_kept before (single s) = kept before s

abbrev pub tree_repeats : (before : List Statement) → Tree → List NameUse
tree_repeats before [] = []
tree_repeats before (p ∷ ps) = part_again before p ++ tree_repeats (part_kept before p) ps
