-- Forms that end every run which computes them with a fault, whatever the values of the run are.
use Rattle.std.specs.Prelude.{ℕ, zero, suc, ℤ, ◌+ℤ◌, ◌-ℤ◌, ◌*ℤ◌, neg_ℤ, Bool, false, List, Option, Some, None, is_err, not, codes, slice_get, ◌&&◌}
use Rattle.std.specs.Result.{result_ok}
use Rattle.std.specs.Str.{bytes_eq}
use Rattle.values.specs.Numbers.{in_range, number_in}
use Rattle.language.specs.declared.tree.Operator.{Operator}
use Rattle.language.specs.declared.tree.Operator.TheVariants as Is
use Rattle.language.specs.declared.tree.Prefix.{Prefix}
use Rattle.language.specs.declared.tree.Prefix.TheVariants as Prefixes
use Rattle.language.specs.Tree.{Expression, expression, Form, number, text, truth, variable, element, call, prefixed, chain, Expressions, no_expressions, and_expression}
use Rattle.explain_warnings.specs.Forms.{literal}
use Rattle.explain_warnings.specs.Guards.{is_division, is_zero}

-- OVERFLOWS

abbrev pub prefixed_value : Prefix → Option ℤ → Option ℤ
prefixed_value Prefixes.Not z = None
prefixed_value Prefixes.Negative None = None
prefixed_value Prefixes.Negative (Some z) = result_ok (in_range (neg_ℤ z))

-- the value of a number literal, or of one with a minus sign
abbrev pub form_integer : Form → Option ℤ
form_integer (number z) = Some z
form_integer (text bytes) = None
form_integer (truth b) = None
form_integer (variable w) = None
form_integer (element w i) = None
form_integer (call w es) = None
form_integer (prefixed p e) = prefixed_value p (literal e)
form_integer (chain os es) = None

abbrev pub integer : Expression → Option ℤ
integer (expression nd f) = form_integer f

-- an operation without a result in range
abbrev pub overflows : Operator → (left right : ℤ) → Bool
overflows Is.Or left right = false
overflows Is.And left right = false
overflows Is.Equal left right = false
overflows Is.NotEqual left right = false
overflows Is.Less left right = false
overflows Is.AtMost left right = false
overflows Is.Greater left right = false
overflows Is.AtLeast left right = false
overflows Is.Plus left right = is_err (in_range (left +ℤ right))
overflows Is.Minus left right = is_err (in_range (left -ℤ right))
overflows Is.Times left right = is_err (in_range (left *ℤ right))
overflows Is.Quotient left right = false
overflows Is.Remainder left right = false

abbrev pub some_overflow : Option Operator → (left right : Option ℤ) → Bool
some_overflow (Some o) (Some left) (Some right) = overflows o left right
some_overflow _ _ _ = false

abbrev pub both_overflow : Option Operator → (left right : Expression) → Bool
both_overflow o left right = some_overflow o (integer left) (integer right)

abbrev pub right_overflows : Option Operator → (left : Expression) → Expressions → Bool
right_overflows o left no_expressions = false
right_overflows o left (and_expression right es) = both_overflow o left right

-- the first operation on these operands overflows by its literals
abbrev pub operands_overflow : Option Operator → Expressions → Bool
operands_overflow o no_expressions = false
operands_overflow o (and_expression left es) = right_overflows o left es

-- a chain whose first operation overflows
abbrev pub form_overflows : Form → Bool
form_overflows (number z) = false
form_overflows (text bytes) = false
form_overflows (truth b) = false
form_overflows (variable w) = false
form_overflows (element w i) = false
form_overflows (call w es) = false
form_overflows (prefixed p e) = false
form_overflows (chain os es) = operands_overflow (slice_get os 0) es

-- DIVISORS

abbrev pub some_division : Option Operator → Bool
some_division None = false
some_division (Some o) = is_division o

-- the operator before the operand at place i of a chain divides; the first operand has none
abbrev pub divides_at : List Operator → (i : ℕ) → Bool
divides_at os zero = false
divides_at os (suc i) = some_division (slice_get os i)

-- the operand at place i of a chain is a divisor and the literal 0
abbrev pub is_zero_divisor : List Operator → (i : ℕ) → Expression → Bool
is_zero_divisor os i e = divides_at os i && is_zero e

-- ARGUMENTS

abbrev pub form_is_no_number : Form → Bool
form_is_no_number (number z) = false
form_is_no_number (text bytes) = is_err (number_in bytes)
form_is_no_number (truth b) = false
form_is_no_number (variable w) = false
form_is_no_number (element w i) = false
form_is_no_number (call w es) = false
form_is_no_number (prefixed p e) = false
form_is_no_number (chain os es) = false

-- `toint` of a string literal that is no number
abbrev pub is_no_number : (called : List ℕ) → Expression → Bool
is_no_number called (expression nd f) = bytes_eq called (codes "toint") && form_is_no_number f

abbrev pub form_is_false : Form → Bool
form_is_false (number z) = false
form_is_false (text bytes) = false
form_is_false (truth b) = not b
form_is_false (variable w) = false
form_is_false (element w i) = false
form_is_false (call w es) = false
form_is_false (prefixed p e) = false
form_is_false (chain os es) = false

-- an `assert` of the literal `false`
abbrev pub never_holds : (called : List ℕ) → Expression → Bool
never_holds called (expression nd f) = bytes_eq called (codes "assert") && form_is_false f
