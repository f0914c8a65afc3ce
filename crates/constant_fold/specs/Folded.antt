-- The fold of a tree: an expression of literals, operators, strcat, fromint and toint whose evaluation has no fault
-- becomes its literal.
use Rattle.std.specs.Prelude.{ℕ, List, [], ◌∷◌, map, Option, Some, None, option_map, Result, Ok, Err, bytes_eq, if◌then◌else◌}
use Rattle.values.specs.declared.fault.OpFault.{OpFault}
use Rattle.values.specs.declared.value.Scalar.{Scalar}
use Rattle.values.specs.declared.value.Scalar.TheVariants.{Number, Truth, Text}
use Rattle.values.specs.declared.value.Value.{Value}
use Rattle.values.specs.declared.value.Value.TheVariants.{One, Many}
use Rattle.values.specs.Operators as op
use Rattle.values.specs.Operators.{Operation, evaluated}
use Rattle.constant_fold.specs.Literals.{scalar_of, literal_or}
use Rattle.language.specs.Resolved.{chain_operation, prefix_operation}
use Rattle.language.specs.Table.{builtin_text, strcat, fromint, toint}
use Rattle.language.specs.Tree.{Expression, expression, Form, number, text, truth, variable, element, call, prefixed, chain, Expressions, no_expressions, and_expression, RightSide, value, list, Calling, Over, array, range, Statement, statement, Command, declare, assign, write, assign_all, calls, choice, choice_else, loop, waits, Body, body, Statements, no_statements, and_statement, Composite, Part, import, function, single, Tree}

-- the scalars of expressions, if all are literals
abbrev pub also_scalar : Option Scalar → Option (List Scalar) → Option (List Scalar)
also_scalar (Some v) (Some vs) = Some (v ∷ vs)
also_scalar _ _ = None

abbrev pub scalars_of : Expressions → Option (List Scalar)
scalars_of no_expressions = Some []
scalars_of (and_expression e es) = also_scalar (scalar_of e) (scalars_of es)

-- the literal result of an operation on literals, if it has no fault, otherwise the unchanged form
abbrev pub collapsed : Operation → Option (List Scalar) → Form → Form
collapsed o None f = f
collapsed o (Some vs) f = literal_or f (evaluated o (map (λ v. Ok (One v)) vs))

-- the operation of a call that is folded, by its name
abbrev pub called_operation : List ℕ → Option Operation
called_operation w = if bytes_eq w (builtin_text strcat) then Some op.join else (if bytes_eq w (builtin_text fromint) then Some op.from_int else (if bytes_eq w (builtin_text toint) then Some op.to_int else None))

abbrev pub called : Option Operation → Option (List Scalar) → Form → Form
called None vs f = f
called (Some o) vs f = collapsed o vs f

-- EXPRESSIONS

abbrev mutual
  pub folded : Expression → Expression
  folded (expression nd f) = expression nd (folded_form f)

  pub folded_form : Form → Form
  folded_form (number z) = number z
  folded_form (text bytes) = text bytes
  folded_form (truth b) = truth b
  folded_form (variable w) = variable w
  folded_form (element w i) = element w (folded i)
  folded_form (call w es) = called (called_operation w.text) (scalars_of (folded_all es)) (call w (folded_all es))
  folded_form (prefixed p e) = collapsed (prefix_operation p) (scalars_of (and_expression (folded e) no_expressions)) (prefixed p (folded e))
  folded_form (chain os es) = collapsed (chain_operation os) (scalars_of (folded_all es)) (chain os (folded_all es))

  pub folded_all : Expressions → Expressions
  folded_all no_expressions = no_expressions
  folded_all (and_expression e es) = and_expression (folded e) (folded_all es)

-- STATEMENTS

abbrev pub folded_right : RightSide → RightSide
folded_right (value e) = value (folded e)
folded_right (list nd es) = list nd (map folded es)

abbrev pub folded_calling : Calling → Calling
folded_calling c = record { node = c.node; name = c.name; arguments = map folded c.arguments }

abbrev pub folded_over : Over → Over
folded_over (array w) = array w
folded_over (range low high step) = range (folded low) (folded high) (option_map folded step)

abbrev mutual
  pub folded_statement : Statement → Statement
  folded_statement (statement nd c) = statement nd (folded_command c)

  pub folded_command : Command → Command
  folded_command (declare d r) = declare d (option_map folded_right r)
  folded_command (assign w r) = assign w (folded_right r)
  folded_command (write w i e) = write w (folded i) (folded e)
  folded_command (assign_all ws c) = assign_all ws (folded_calling c)
  folded_command (calls p c) = calls p (folded_calling c)
  folded_command (choice e b) = choice (folded e) (folded_body b)
  folded_command (choice_else e b d) = choice_else (folded e) (folded_body b) (folded_body d)
  folded_command (loop v k o b) = loop v k (folded_over o) (folded_body b)
  folded_command (waits ws b) = waits ws (folded_body b)

  pub folded_body : Body → Body
  folded_body (body from ss) = body from (folded_statements ss)

  pub folded_statements : Statements → Statements
  folded_statements no_statements = no_statements
  folded_statements (and_statement s ss) = and_statement (folded_statement s) (folded_statements ss)

-- SCRIPTS

abbrev pub folded_composite : Composite → Composite
folded_composite f = record { node = f.node; outputs = f.outputs; name = f.name; inputs = f.inputs; body = folded_body f.body }

abbrev pub folded_part : Part → Part
folded_part (import span) = import span
folded_part (function f) = function (folded_composite f)
folded_part (single s) = single (folded_statement s)

abbrev pub folded_tree : Tree → Tree
folded_tree tree = map folded_part tree
