-- The core of a script, from its tree and the table of its names. States docs/LANGUAGE.md: Cells; Calls.
use Rattle.std.specs.Prelude.{ℕ, ℤ, pos, false, List, [], ◌∷◌, ◌++◌, map, length, Option, Some, None, option_map}
use Rattle.values.specs.declared.op.Sign.{Sign}
use Rattle.values.specs.declared.op.Factor.{Factor}
use Rattle.values.specs.declared.op.Order.TheVariants as Order
use Rattle.values.specs.declared.value.Scalar.TheVariants as Scalar
use Rattle.values.specs.declared.format.FormatPiece.{FormatPiece}
use Rattle.values.specs.Formats.{pieces}
use Rattle.values.specs.Operators as op
use Rattle.values.specs.Operators.{Operation}
use Rattle.language.specs.declared.tree.Operator.{Operator}
use Rattle.language.specs.declared.tree.Prefix.{Prefix}
use Rattle.language.specs.declared.tree.Shape.{Shape}
use Rattle.language.specs.Tree as T
use Rattle.language.specs.Tree.{Word, Node, Expression, expression, number, text, truth, variable, element, call, prefixed, chain, Expressions, no_expressions, and_expression, expressions_of, RightSide, value, list, Calling, Over, Statement, statement, Command, choice, choice_else, loop, waits, Body, body, Statements, no_statements, and_statement, Tree, import, function, single}
use Rattle.language.specs.Core.{Name, here, Expr, literal, name, whole, operator, Exprs, none, also, Form, compute, read, Call, Part, inner, calls, Outer, Awaited, Action, declare, call_alone, assign, fill, insert, print, assert, when, choose, range, each, wait, Stmt, stmt, Block, no_stmts, stmts, Function, Core}
use Rattle.language.specs.Table as table
use Rattle.language.specs.Table.{Table, Builtin, Callee, composite, built_in}

abbrev pub refers : Table → Word → Name
refers t w = t.name_of w.number

abbrev pub number_of : Expression → ℕ
number_of (expression nd f) = nd.number

-- OPERATORS

abbrev pub signs : List Operator → List Sign
signs [] = []
signs (Operator.Minus ∷ os) = Sign.Minus ∷ signs os
signs (_ ∷ os) = Sign.Plus ∷ signs os

abbrev pub factors : List Operator → List Factor
factors [] = []
factors (Operator.Quotient ∷ os) = Factor.Divide ∷ factors os
factors (Operator.Remainder ∷ os) = Factor.Remainder ∷ factors os
factors (_ ∷ os) = Factor.Times ∷ factors os

-- the operation of a chain, whose operators are of one level
abbrev pub chain_operation : List Operator → Operation
chain_operation (Operator.Or ∷ os) = op.any_true
chain_operation (Operator.And ∷ os) = op.all_true
chain_operation (Operator.Equal ∷ os) = op.equal
chain_operation (Operator.NotEqual ∷ os) = op.unequal
chain_operation (Operator.Less ∷ os) = op.compare Order.Less
chain_operation (Operator.AtMost ∷ os) = op.compare Order.LessOrEqual
chain_operation (Operator.Greater ∷ os) = op.compare Order.Greater
chain_operation (Operator.AtLeast ∷ os) = op.compare Order.GreaterOrEqual
chain_operation (Operator.Times ∷ os) = op.product_of (factors (Operator.Times ∷ os))
chain_operation (Operator.Quotient ∷ os) = op.product_of (factors (Operator.Quotient ∷ os))
chain_operation (Operator.Remainder ∷ os) = op.product_of (factors (Operator.Remainder ∷ os))
chain_operation os = op.sum_of (signs os)

abbrev pub prefix_operation : Prefix → Operation
prefix_operation Prefix.Not = op.not_true
prefix_operation Prefix.Negative = op.negate

abbrev pub pieces_or_none : Option (List FormatPiece) → List FormatPiece
pieces_or_none None = []
pieces_or_none (Some ps) = ps

-- the pieces of the format that is the first argument
abbrev pub format_of : Expressions → List FormatPiece
format_of (and_expression (expression nd (text bytes)) es) = pieces_or_none (pieces false bytes)
format_of _ = []

abbrev pub builtin_operation : Builtin → Expressions → Operation
builtin_operation table.strcat es = op.join
builtin_operation table.fromint es = op.from_int
builtin_operation table.toint es = op.to_int
builtin_operation table.size es = op.size
builtin_operation table.printf es = op.printf (format_of es)
builtin_operation table.assert es = op.assert

-- EXPRESSIONS

-- the form of an expression's cell, with the preceding parts
abbrev pub Formed : Type 0
Formed = List Part × Form

-- operands, with the preceding parts
abbrev pub Operands : Type 0
Operands = List Part × Exprs

-- the names bound to the inputs of a call, with the preceding parts
abbrev pub Arguments : Type 0
Arguments = List Part × List Name

-- a cell of its own is a part
abbrev pub as_cell : ℕ → Formed → List Part
as_cell n f = f.0 ++ inner (record { node = n; form = f.1 }) ∷ []

-- an operand: a read element becomes a cell of its own, an expression stays in place
abbrev pub as_operand : ℕ → Formed → List Part × Expr
as_operand n (ps, compute e) = (ps, e)
as_operand n (ps, read a i) = (as_cell n (ps, read a i), name (here n))

abbrev pub one_operand : List Part × Expr → Operands
one_operand (ps, e) = (ps, also e none)

abbrev pub with_operand : List Part × Expr → Operands → Operands
with_operand (ps, e) (qs, es) = (ps ++ qs, also e es)

abbrev pub variable_or_cell : Shape → Table → Word → ℕ → Formed → List Part × Name
variable_or_cell (Shape.Array κ) t w n f = ([], refers t w)
variable_or_cell Shape.Scalar t w n f = (as_cell n f, here n)

-- an argument of a composite call: an array's name, otherwise a cell
abbrev pub as_argument : Table → Expression → Formed → List Part × Name
as_argument t (expression nd (variable w)) f = variable_or_cell (t.shape_of w.number) t w nd.number f
as_argument t (expression nd form) f = (as_cell nd.number f, here nd.number)

abbrev pub with_argument : List Part × Name → Arguments → Arguments
with_argument (ps, x) (qs, xs) = (ps ++ qs, x ∷ xs)

abbrev pub computes : Operation → Operands → Formed
computes o (ps, es) = (ps, compute (operator o es))

-- the array whose size is computed
abbrev pub sized : Table → Expressions → Exprs
sized t (and_expression (expression nd (variable w)) es) = also (whole (refers t w)) none
sized t _ = none

-- a composite call with the names bound to its inputs and outputs
abbrev pub call_to : Word → ℕ → List Name → List Name → Call
call_to w i xs os = record { at = w.span.from; function = i; inputs = xs; outputs = os }

-- a call in an expression; the output of a composite one is a variable of the statement, at the called name's node
abbrev pub call_form : Table → Word → Callee → Expressions → Arguments → Operands → Formed
call_form t w (composite i) es (ps, xs) os = (ps ++ calls (call_to w i xs (here w.number ∷ [])) ∷ [], compute (name (here w.number)))
call_form t w (built_in table.size) es xs os = computes op.size ([], sized t es)
call_form t w (built_in b) es xs os = computes (builtin_operation b es) os

abbrev mutual
  pub form_of : Table → Expression → Formed
  form_of t (expression nd f) = form_in t f

  pub form_in : Table → T.Form → Formed
  form_in t (number z) = ([], compute (literal (Scalar.Number z)))
  form_in t (text bytes) = ([], compute (literal (Scalar.Text bytes)))
  form_in t (truth b) = ([], compute (literal (Scalar.Truth b)))
  form_in t (variable w) = ([], compute (name (refers t w)))
  form_in t (element w i) = (as_cell (number_of i) (form_of t i), read (refers t w) (number_of i))
  form_in t (call w es) = call_form t w (t.callee_of w.number) es (arguments_of t es) (operands_of t es)
  form_in t (prefixed p e) = computes (prefix_operation p) (one_operand (as_operand (number_of e) (form_of t e)))
  form_in t (chain os es) = computes (chain_operation os) (operands_of t es)

  pub operands_of : Table → Expressions → Operands
  operands_of t no_expressions = ([], none)
  operands_of t (and_expression e es) = with_operand (as_operand (number_of e) (form_of t e)) (operands_of t es)

  pub arguments_of : Table → Expressions → Arguments
  arguments_of t no_expressions = ([], [])
  arguments_of t (and_expression e es) = with_argument (as_argument t e (form_of t e)) (arguments_of t es)

-- STATEMENTS

abbrev pub outer_of : ℕ → Formed → Outer
outer_of n (ps, f) = record { parts = ps; cell = record { node = n; form = f } }

-- an expression as an outermost cell
abbrev pub outer : Table → Expression → Outer
outer t e = outer_of (number_of e) (form_of t e)

abbrev pub after_first : Expressions → Expressions
after_first no_expressions = no_expressions
after_first (and_expression e es) = es

-- a call alone, whose outputs are variables
abbrev pub composite_call : ℤ → Word → ℕ → Arguments → List Name → Action
composite_call p w i (ps, xs) os = call_alone p ps (call_to w i xs os)

-- a scalar is assigned a value, an array the elements of another
abbrev pub plain_right : Table → Name → Shape → Expression → Action
plain_right t x (Shape.Array κ) (expression nd (variable w)) = fill x (outer_of nd.number ([], compute (whole (refers t w))))
plain_right t x a e = assign x (outer t e)

-- a composite call as a right side becomes a call alone
abbrev pub call_right : Table → Name → Expression → Word → Expressions → Callee → Action
call_right t x e w es (composite i) = composite_call (pos 0) w i (arguments_of t es) (x ∷ [])
call_right t x e w es (built_in b) = assign x (outer t e)

abbrev pub right_of : Table → Name → Shape → RightSide → Action
right_of t x a (value (expression nd (call w es))) = call_right t x (expression nd (call w es)) w es (t.callee_of w.number)
right_of t x a (value e) = plain_right t x a e
right_of t x a (list nd es) = fill x (outer_of nd.number (computes op.literal (operands_of t (expressions_of es))))

-- a statement that is a call: of a function without outputs, of printf or of assert
abbrev pub call_action : Table → ℤ → ℕ → Word → Expressions → Callee → Action
call_action t p n w es (composite i) = composite_call p w i (arguments_of t es) []
call_action t p n w es (built_in table.printf) = print p (outer_of n (computes (op.printf (format_of es)) (operands_of t (after_first es))))
call_action t p n w es (built_in b) = assert p (outer_of n (computes op.assert (operands_of t es)))

abbrev pub first_name : List Name → Name
first_name [] = here 0
first_name (x ∷ xs) = x

-- several names are assigned the outputs of a call, or one name the result of a built-in function
abbrev pub several : Table → ℕ → Word → Expressions → List Name → Callee → Action
several t n w es xs (composite i) = composite_call (pos 0) w i (arguments_of t es) xs
several t n w es xs (built_in b) = assign (first_name xs) (outer_of n (call_form t w (built_in b) es ([], []) (operands_of t es)))

abbrev pub awaited_as : Shape → Name → Awaited
awaited_as (Shape.Array κ) x = Awaited.array x
awaited_as Shape.Scalar x = Awaited.scalar x

abbrev pub awaited : Table → Word → Awaited
awaited t w = awaited_as (t.shape_of w.number) (refers t w)

abbrev pub loop_action : Table → Word → Option Word → Over → Block → Action
loop_action t v k (T.array w) b = each (refers t w) v.number (option_map (λ x. x.number) k) b
loop_action t v k (T.range low high step) b = range (outer t low) (outer t high) (option_map (outer t) step) v.number (option_map (λ x. x.number) k) b

abbrev pub stmt_of : Node → Action → Stmt
stmt_of nd a = stmt nd.first.from nd.number a

-- a declaration with a right side becomes a declaration and an assignment
abbrev mutual
  pub block_of : Table → Body → Block
  block_of t (body from ss) = block_in t ss

  pub block_in : Table → Statements → Block
  block_in t no_statements = no_stmts
  block_in t (and_statement s ss) = with_statement t s (block_in t ss)

  pub with_statement : Table → Statement → Block → Block
  with_statement t (statement nd c) b = with_command t nd c b

  pub with_command : Table → Node → Command → Block → Block
  with_command t nd (T.declare d None) b = stmts (stmt_of nd (declare d.name.number)) b
  with_command t nd (T.declare d (Some r)) b =
      stmts (stmt_of nd (declare d.name.number)) (stmts (stmt_of nd (right_of t (here d.name.number) d.shape r)) b)
  with_command t nd (T.assign w r) b = stmts (stmt_of nd (right_of t (refers t w) (t.shape_of w.number) r)) b
  with_command t nd (T.write w i e) b = stmts (stmt_of nd (insert (refers t w) (outer t i) (outer t e))) b
  with_command t nd (T.assign_all ws c) b =
      stmts (stmt_of nd (several t c.node.number c.name (expressions_of c.arguments) (map (refers t) ws) (t.callee_of c.name.number))) b
  with_command t nd (T.calls p c) b =
      stmts (stmt_of nd (call_action t p c.node.number c.name (expressions_of c.arguments) (t.callee_of c.name.number))) b
  with_command t nd (choice e d) b = stmts (stmt_of nd (when (outer t e) (block_of t d))) b
  with_command t nd (choice_else e d other) b = stmts (stmt_of nd (choose (outer t e) (block_of t d) (block_of t other))) b
  with_command t nd (loop v k o d) b = stmts (stmt_of nd (loop_action t v k o (block_of t d))) b
  with_command t nd (waits ws d) b = stmts (stmt_of nd (wait (map (awaited t) ws) (block_of t d))) b

-- the script's own block: its statements, without its imports and functions
abbrev pub script_block : Table → Tree → Block
script_block t [] = no_stmts
script_block t (import sp ∷ ps) = script_block t ps
script_block t (function f ∷ ps) = script_block t ps
script_block t (single s ∷ ps) = with_statement t s (script_block t ps)

abbrev pub functions_of : Table → Tree → List Function
functions_of t [] = []
functions_of t (import sp ∷ ps) = functions_of t ps
functions_of t (function f ∷ ps) = record { inputs = length f.inputs; outputs = length f.outputs; body = block_of t f.body } ∷ functions_of t ps
functions_of t (single s ∷ ps) = functions_of t ps

-- the core of a script
abbrev pub core : Table → Tree → Core
core t tree = record { body = script_block t tree; functions = functions_of t tree }
