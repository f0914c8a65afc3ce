-- Results of lowering, apart from their place in memory.
use Rattle.std.specs.Prelude.{◌≡◌, ℕ, false, List, ◌++◌, length, Option, Some, None}
use Rattle.values.specs.declared.format.FormatPiece.{FormatPiece}
use Rattle.values.specs.declared.op.Sign.{Sign}
use Rattle.values.specs.declared.op.Sign.TheVariants as Signs
use Rattle.values.specs.declared.op.Factor.{Factor}
use Rattle.values.specs.declared.op.Factor.TheVariants as Factors
use Rattle.values.specs.Formats.{pieces}
use Rattle.language.specs.declared.tree.Operator.{Operator}
use Rattle.language.specs.declared.tree.Operator.TheVariants.{Minus, Quotient, Remainder}
use Rattle.language.specs.declared.tree.Shape.{Shape}
use Rattle.language.specs.Core as core
use Rattle.language.specs.Core.{Name, Stmt, no_stmts}
use Rattle.language.specs.Parts.{block_list}
use Rattle.language.specs.Tree.{Word, Node, Declaration, Form, variable, Command, Statement, statements_of, Composite, Tree}
use Rattle.language.specs.Table.{Table}
use Rattle.language.specs.Resolved.{Arguments, call_to, pieces_or_none, refers, with_command, with_statement, block_of, block_in, script_block}
use Rattle.flow.specs.declared.cell.CellPart.{CellPart}
pub use Rattle.flow.specs.Listed.{Declared, declared}
use Rattle.flow.specs.View.{parts_view}

-- the result is the expected one, and the expected parts are appended to those that were there
abbrev pub Leaves : {A Y : Type 0} → List (CellPart A) → List (CellPart A) → Y → List core.Part × Y → Type 0
Leaves before after found wanted = (parts_view after ≡ parts_view before ++ wanted.0) × (found ≡ wanted.1)

-- the call of a function with arguments, whose outputs are bound to these names, with the preceding parts
abbrev pub calling : Arguments → Word → ℕ → List Name → List core.Part × core.Call
calling (ps, xs) w i os = (ps, call_to w i xs os)

abbrev pub array_if : Shape → Name → Option Name
array_if (Shape.Array κ) x = Some x
array_if Shape.Scalar x = None

-- the variable that an expression names; and the same only if it is an array
abbrev pub variable_named : Table → Form → Option Name
variable_named t (variable w) = Some (refers t w)
variable_named t _ = None

abbrev pub array_named : Table → Form → Option Name
array_named t (variable w) = array_if (t.shape_of w.number) (refers t w)
array_named t _ = None

-- the sign of an operator of a sum, and the factor of an operator of a product
abbrev pub sign_of : Operator → Sign
sign_of Minus = Signs.Minus
sign_of _ = Signs.Plus

abbrev pub factor_of : Operator → Factor
factor_of Quotient = Factors.Divide
factor_of Remainder = Factors.Remainder
factor_of _ = Factors.Times

-- the pieces of a format of these bytes
abbrev pub format_read : List ℕ → List FormatPiece
format_read bytes = pieces_or_none (pieces false bytes)

-- a declared variable
abbrev pub as_declared : Shape → Word → Declared
as_declared s w = record { node = w.number; shape = s; name = w.text }

-- the variable of a declaration
abbrev pub variable_of : Declaration → Declared
variable_of d = as_declared d.shape d.name

-- STATEMENTS AND FUNCTIONS

-- the statements of a core for a form of statement at a node: two for a declaration with a right side, otherwise one
abbrev pub command_alone : Table → Node → Command → List Stmt
command_alone t nd c = block_list (with_command t nd c no_stmts)

-- the statements of a core for a statement
abbrev pub statement_alone : Table → Statement → List Stmt
statement_alone t s = block_list (with_statement t s no_stmts)

-- the statements of a core for several statements, one after another
abbrev pub statements_among : Table → List Statement → List Stmt
statements_among t ss = block_list (block_in t (statements_of ss))

-- the statements of a core for a script's statements outside functions
abbrev pub own_statements : Table → Tree → List Stmt
own_statements t ps = block_list (script_block t ps)

-- the core of a function
abbrev pub function_core : Table → Composite → core.Function
function_core t f = record { inputs = length f.inputs; outputs = length f.outputs; body = block_of t f.body }
