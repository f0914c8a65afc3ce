-- Forms of expressions, calls and blocks that are certainly mistakes, whatever the values of a run are.
use Rattle.std.specs.Prelude.{ℕ, ◌-◌, ℤ, pos, Bool, true, false, List, length, Option, Some, None, is_some, codes, nat_eq, int_lt, slice_get, ◌&&◌, ◌||◌}
use Rattle.std.specs.Str.{bytes_eq}
use Rattle.language.specs.declared.tree.Prefix.{Prefix}
use Rattle.language.specs.declared.tree.Prefix.TheVariants as Prefixes
use Rattle.language.specs.Tree.{Expression, expression, Form, number, text, truth, variable, element, call, prefixed, chain, Expressions, no_expressions, and_expression, expressions_of, RightSide, value, list, Statements, no_statements, and_statement}

-- NUMBERS

-- the value of a number literal
abbrev pub form_literal : Form → Option ℤ
form_literal (number z) = Some z
form_literal (text bytes) = None
form_literal (truth b) = None
form_literal (variable w) = None
form_literal (element w i) = None
form_literal (call w es) = None
form_literal (prefixed p e) = None
form_literal (chain os es) = None

abbrev pub literal : Expression → Option ℤ
literal (expression nd f) = form_literal f

abbrev pub is_below : Option ℤ → Option ℤ → Bool
is_below (Some high) (Some low) = int_lt high low
is_below _ _ = false

-- RANGES

-- a step that is missing, or a number above 0
abbrev pub goes_up : Option Expression → Bool
goes_up None = true
goes_up (Some e) = is_below (Some (pos 0)) (literal e)

-- the range of a loop that has no turn
abbrev pub is_empty : (low high : Expression) → Option Expression → Bool
is_empty low high step = is_below (literal high) (literal low) && goes_up step

abbrev pub is_negative : Prefix → Bool
is_negative Prefixes.Not = false
is_negative Prefixes.Negative = true

-- a number literal below 1, or one with a minus sign
abbrev pub form_below_one : Form → Bool
form_below_one (number z) = int_lt z (pos 1)
form_below_one (text bytes) = false
form_below_one (truth b) = false
form_below_one (variable w) = false
form_below_one (element w i) = false
form_below_one (call w es) = false
form_below_one (prefixed p e) = is_negative p && is_some (literal e)
form_below_one (chain os es) = false

abbrev pub below_one : Expression → Bool
below_one (expression nd f) = form_below_one f

-- ARGUMENTS

abbrev pub is_byte : ℕ → Option ℕ → Bool
is_byte b None = false
is_byte b (Some c) = nat_eq c b

-- the last byte is a line end
abbrev pub ends_line : List ℕ → Bool
ends_line bytes = is_byte 10 (slice_get bytes (length bytes - 1))

-- a string literal whose last byte is a line end
abbrev pub form_ends_line : Form → Bool
form_ends_line (number z) = false
form_ends_line (text bytes) = ends_line bytes
form_ends_line (truth b) = false
form_ends_line (variable w) = false
form_ends_line (element w i) = false
form_ends_line (call w es) = false
form_ends_line (prefixed p e) = false
form_ends_line (chain os es) = false

-- a `printf` of this format prints an empty line after its line
abbrev pub is_extra_line : (called : List ℕ) → Expression → Bool
is_extra_line called (expression nd f) = bytes_eq called (codes "printf") && form_ends_line f

-- the literal `true`
abbrev pub form_is_true : Form → Bool
form_is_true (number z) = false
form_is_true (text bytes) = false
form_is_true (truth b) = b
form_is_true (variable w) = false
form_is_true (element w i) = false
form_is_true (call w es) = false
form_is_true (prefixed p e) = false
form_is_true (chain os es) = false

-- an `assert` of this condition always holds
abbrev pub always_holds : (called : List ℕ) → Expression → Bool
always_holds called (expression nd f) = bytes_eq called (codes "assert") && form_is_true f

-- BLOCKS

abbrev pub is_without : Statements → Bool
is_without no_statements = true
is_without (and_statement s ss) = false

-- NEEDS

-- a built-in function with a value: an operator, which waits for its arguments
abbrev pub is_operator : (called : List ℕ) → Bool
is_operator called = bytes_eq called (codes "strcat") || (bytes_eq called (codes "fromint") || (bytes_eq called (codes "toint") || bytes_eq called (codes "size")))

-- An expression has no value before the variable of this name, or an element of it, has one. The argument of a function of the script is not needed:
-- the function runs without it.
abbrev mutual
  pub needs : (name : List ℕ) → Expression → Bool
  needs name (expression nd f) = form_needs name f

  pub form_needs : (name : List ℕ) → Form → Bool
  form_needs name (number z) = false
  form_needs name (text bytes) = false
  form_needs name (truth b) = false
  form_needs name (variable w) = bytes_eq w.text name
  form_needs name (element w i) = bytes_eq w.text name || needs name i
  form_needs name (call w es) = is_operator w.text && some_needs name es
  form_needs name (prefixed p e) = needs name e
  form_needs name (chain os es) = some_needs name es

  pub some_needs : (name : List ℕ) → Expressions → Bool
  some_needs name no_expressions = false
  some_needs name (and_expression e es) = needs name e || some_needs name es

abbrev pub right_needs : (name : List ℕ) → RightSide → Bool
right_needs name (value e) = needs name e
right_needs name (list nd es) = some_needs name (expressions_of es)
