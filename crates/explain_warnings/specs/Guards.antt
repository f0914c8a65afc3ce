-- Tests that are to guard a division and do not: both operands of `&&` and of `||` are computed, whatever the first is.
use Rattle.std.specs.Prelude.{ℕ, ◌+◌, pos, Bool, true, false, List, Option, Some, None, slice_get, ◌&&◌, ◌||◌}
use Rattle.std.specs.Ordering.{int_eq}
use Rattle.std.specs.Str.{bytes_eq}
use Rattle.language.specs.declared.tree.Operator.{Operator}
use Rattle.language.specs.declared.tree.Operator.TheVariants as Is
use Rattle.language.specs.Tree.{Expression, expression, Form, number, text, truth, variable, element, call, prefixed, chain, Expressions, no_expressions, and_expression}

-- DIVISIONS

abbrev pub is_division : Operator → Bool
is_division Is.Or = false
is_division Is.And = false
is_division Is.Equal = false
is_division Is.NotEqual = false
is_division Is.Less = false
is_division Is.AtMost = false
is_division Is.Greater = false
is_division Is.AtLeast = false
is_division Is.Plus = false
is_division Is.Minus = false
is_division Is.Times = false
is_division Is.Quotient = true
is_division Is.Remainder = true

abbrev pub form_is_variable : (name : List ℕ) → Form → Bool
form_is_variable name (number z) = false
form_is_variable name (text bytes) = false
form_is_variable name (truth b) = false
form_is_variable name (variable w) = bytes_eq w.text name
form_is_variable name (element w i) = false
form_is_variable name (call w es) = false
form_is_variable name (prefixed p e) = false
form_is_variable name (chain os es) = false

-- the variable of this name
abbrev pub is_variable : (name : List ℕ) → Expression → Bool
is_variable name (expression nd f) = form_is_variable name f

-- the operand of this operator, if there is one, is a divisor and the variable of this name
abbrev pub is_divisor : (name : List ℕ) → Option Operator → Expression → Bool
is_divisor name None e = false
is_divisor name (Some o) e = is_division o && is_variable name e

-- one of these operands is a divisor and the variable of this name; the operator of the first is at place i
abbrev pub divided_from : (name : List ℕ) → List Operator → (i : ℕ) → Expressions → Bool
divided_from name os i no_expressions = false
divided_from name os i (and_expression e es) = is_divisor name (slice_get os i) e || divided_from name os (i + 1) es

-- the first operand of a chain has no operator
abbrev pub divided_by : (name : List ℕ) → List Operator → Expressions → Bool
divided_by name os no_expressions = false
divided_by name os (and_expression e es) = divided_from name os 0 es

-- an expression divides by the variable of this name
abbrev mutual
  pub divides : (name : List ℕ) → Expression → Bool
  divides name (expression nd f) = form_divides name f

  pub form_divides : (name : List ℕ) → Form → Bool
  form_divides name (number z) = false
  form_divides name (text bytes) = false
  form_divides name (truth b) = false
  form_divides name (variable w) = false
  form_divides name (element w i) = divides name i
  form_divides name (call w es) = some_divides name es
  form_divides name (prefixed p e) = divides name e
  form_divides name (chain os es) = divided_by name os es || some_divides name es

  pub some_divides : (name : List ℕ) → Expressions → Bool
  some_divides name no_expressions = false
  some_divides name (and_expression e es) = divides name e || some_divides name es

-- GUARDS

abbrev pub form_is_zero : Form → Bool
form_is_zero (number z) = int_eq z (pos 0)
form_is_zero (text bytes) = false
form_is_zero (truth b) = false
form_is_zero (variable w) = false
form_is_zero (element w i) = false
form_is_zero (call w es) = false
form_is_zero (prefixed p e) = false
form_is_zero (chain os es) = false

abbrev pub is_zero : Expression → Bool
is_zero (expression nd f) = form_is_zero f

-- the next operand divides by this variable
abbrev pub form_divides_next : (next : Expression) → Form → Bool
form_divides_next next (number z) = false
form_divides_next next (text bytes) = false
form_divides_next next (truth b) = false
form_divides_next next (variable w) = divides w.text next
form_divides_next next (element w i) = false
form_divides_next next (call w es) = false
form_divides_next next (prefixed p e) = false
form_divides_next next (chain os es) = false

abbrev pub divides_next : (next : Expression) → Expression → Bool
divides_next next (expression nd f) = form_divides_next next f

-- of these two operands of a comparison one is 0, and the next operand divides by the other one
abbrev pub compares : (next left right : Expression) → Bool
compares next left right = (is_zero right && divides_next next left) || (is_zero left && divides_next next right)

-- `!=` in a chain of `&&`, and `==` in one of `||`
abbrev pub fits : (connective comparison : Operator) → Bool
fits Is.And Is.NotEqual = true
fits Is.Or Is.Equal = true
fits _ _ = false

abbrev pub some_fits : (connective : Operator) → Option Operator → Bool
some_fits connective None = false
some_fits connective (Some o) = fits connective o

abbrev pub right_compares : (next left : Expression) → Expressions → Bool
right_compares next left no_expressions = false
right_compares next left (and_expression right es) = compares next left right

abbrev pub operands_compare : (next : Expression) → Expressions → Bool
operands_compare next no_expressions = false
operands_compare next (and_expression left es) = right_compares next left es

-- a comparison that is to guard the next operand of a chain
abbrev pub form_is_guard : (connective : Operator) (next : Expression) → Form → Bool
form_is_guard connective next (number z) = false
form_is_guard connective next (text bytes) = false
form_is_guard connective next (truth b) = false
form_is_guard connective next (variable w) = false
form_is_guard connective next (element w i) = false
form_is_guard connective next (call w es) = false
form_is_guard connective next (prefixed p e) = false
form_is_guard connective next (chain os es) = some_fits connective (slice_get os 0) && operands_compare next es

abbrev pub is_guard : (connective : Operator) (next : Expression) → Expression → Bool
is_guard connective next (expression nd f) = form_is_guard connective next f

-- the operand before, if there is one, is to guard this one
abbrev pub guarded_by : (connective : Operator) → Option Expression → Expression → Bool
guarded_by connective None e = false
guarded_by connective (Some before) e = is_guard connective e before

-- one of these operands is to be guarded by the operand before it
abbrev pub some_guarded : (connective : Operator) (before : Option Expression) → Expressions → Bool
some_guarded connective before no_expressions = false
some_guarded connective before (and_expression e es) = guarded_by connective before e || some_guarded connective (Some e) es

abbrev pub chain_guards : Option Operator → Expressions → Bool
chain_guards None es = false
chain_guards (Some connective) es = some_guarded connective None es

-- a chain of which one operand is to guard the next
abbrev pub guards_nothing : Form → Bool
guards_nothing (number z) = false
guards_nothing (text bytes) = false
guards_nothing (truth b) = false
guards_nothing (variable w) = false
guards_nothing (element w i) = false
guards_nothing (call w es) = false
guards_nothing (prefixed p e) = false
guards_nothing (chain os es) = chain_guards (slice_get os 0) es
