-- The core of the script that a flow is of.
use Rattle.std.specs.Prelude.{List, [], ◌∷◌, map, length, option_map, false}
use Rattle.values.specs.declared.value.Scalar.TheVariants as Scalar
use Rattle.values.specs.Formats.{pieces}
use Rattle.values.specs.Operators as op
use Rattle.language.specs.Core as core
use Rattle.language.specs.Core.{Core, Stmt, stmt, stmts, no_stmts}
use Rattle.language.specs.Resolved.{pieces_or_none, awaited_as}
use Rattle.flow.specs.declared.name.NameBinding.{NameBinding}
use Rattle.flow.specs.declared.name.NameBinding.TheVariants as Own
use Rattle.flow.specs.declared.name.Name.{Name}
use Rattle.flow.specs.declared.expression.Operation.{Operation}
use Rattle.flow.specs.declared.expression.Operation.TheVariants as Op
use Rattle.flow.specs.declared.expression.Expr.{Expr, Expr-F, fold-Expr}
use Rattle.flow.specs.declared.expression.Expr.TheOpen as Has
use Rattle.flow.specs.declared.cell.CellForm.{CellForm}
use Rattle.flow.specs.declared.cell.CellForm.TheVariants as Is
use Rattle.flow.specs.declared.cell.Cell.{Cell}
use Rattle.flow.specs.declared.cell.Call.{Call}
use Rattle.flow.specs.declared.cell.CellPart.{CellPart}
use Rattle.flow.specs.declared.cell.CellPart.TheVariants as Stands
use Rattle.flow.specs.declared.cell.OuterCell.{OuterCell}
use Rattle.flow.specs.declared.statement.Header.{Header}
use Rattle.flow.specs.declared.statement.Action.{Action, Action-F, fold-Action}
use Rattle.flow.specs.declared.statement.Action.TheOpen as Does
use Rattle.flow.specs.declared.statement.Block.{Block, Block-F, fold-Block}
use Rattle.flow.specs.declared.statement.Statement.{Statement, Statement-F, fold-Statement}
use Rattle.flow.specs.declared.script.Function.{Function}
use Rattle.flow.specs.declared.script.Flow.{Flow}

-- NAMES

abbrev pub owned_view : NameBinding → core.Owned
owned_view (Own.Local n) = core.local n
owned_view (Own.Input i) = core.input i
owned_view (Own.Output i) = core.output i

abbrev pub name_view : Name → core.Name
name_view n = record { up = n.up; what = owned_view n.what }

abbrev pub names_view : List Name → List core.Name
names_view ns = map name_view ns

-- the awaited value or array of a name of a `wait`
abbrev pub awaited_view : Name → core.Awaited
awaited_view n = awaited_as n.shape (name_view n)

-- EXPRESSIONS

abbrev pub operation_view : {A : Type 0} → Operation A → op.Operation
operation_view (Op.Sum signs) = op.sum_of signs.items
operation_view (Op.Product factors) = op.product_of factors.items
operation_view (Op.Compare order) = op.compare order
operation_view Op.Equal = op.equal
operation_view Op.Unequal = op.unequal
operation_view Op.And = op.all_true
operation_view Op.Or = op.any_true
operation_view Op.Not = op.not_true
operation_view Op.Negate = op.negate
operation_view Op.Join = op.join
operation_view Op.FromInt = op.from_int
operation_view Op.ToInt = op.to_int
operation_view Op.Size = op.size
operation_view (Op.Printf format) = op.printf (pieces_or_none (pieces false format.items))
operation_view Op.Assert = op.assert
operation_view Op.Literal = op.literal

-- operands, one after another
abbrev pub operands : List core.Expr → core.Exprs
operands [] = core.none
operands (e ∷ es) = core.also e (operands es)

-- an expression whose nested expressions are views already
abbrev pub expr_step : {A : Type 0} → Expr-F A core.Expr → core.Expr
expr_step (Has.Number n) = core.literal (Scalar.Number n)
expr_step (Has.Text v) = core.literal (Scalar.Text v.items)
expr_step (Has.Truth b) = core.literal (Scalar.Truth b)
expr_step (Has.Name n) = core.name (name_view n)
expr_step (Has.Whole n) = core.whole (name_view n)
expr_step (Has.Operation o es) = core.operator (operation_view o) (operands es.items)

abbrev pub expr_view : {A : Type 0} → Expr A → core.Expr
expr_view {A} = fold-Expr A core.Expr expr_step

abbrev pub exprs_view : {A : Type 0} → List (Expr A) → core.Exprs
exprs_view es = operands (map expr_view es)

-- CELLS AND CALLS

abbrev pub form_view : {A : Type 0} → CellForm A → core.Form
form_view (Is.Compute e) = core.compute (expr_view e)
form_view (Is.Read array index) = core.read (name_view array) index

abbrev pub cell_view : {A : Type 0} → Cell A → core.Cell
cell_view c = record { node = c.node; form = form_view c.form }

abbrev pub call_view : {A : Type 0} → Call A → core.Call
call_view c = record { at = c.at; function = c.function; inputs = names_view c.inputs.items; outputs = names_view c.outputs.items }

abbrev pub part_view : {A : Type 0} → CellPart A → core.Part
part_view (Stands.Inner c) = core.inner (cell_view c)
part_view (Stands.Calls c) = core.calls (call_view c)

abbrev pub parts_view : {A : Type 0} → List (CellPart A) → List core.Part
parts_view ps = map part_view ps

abbrev pub outer_view : {A : Type 0} → OuterCell A → core.Outer
outer_view o = record { parts = parts_view o.parts.items; cell = cell_view o.cell }

-- STATEMENTS

-- statements as a block
abbrev pub block_of : List Stmt → core.Block
block_of [] = no_stmts
block_of (s ∷ ss) = stmts s (block_of ss)

-- a block of nested waits, outermost first, with a content in the innermost
abbrev pub waits_around : {A : Type 0} → List (Header A) → core.Block → core.Block
waits_around [] b = b
waits_around (h ∷ hs) b = stmts (stmt h.at h.node (core.wait (map awaited_view h.names.items) (waits_around hs b))) no_stmts

-- the action of a statement whose blocks are views already
abbrev pub action_step : {A : Type 0} → Action-F A core.Action core.Block Stmt → core.Action
action_step (Does.Declare v) = core.declare v.node
action_step (Does.Call p ps c) = core.call_alone p (parts_view ps.items) (call_view c.value)
action_step (Does.Assign x e) = core.assign (name_view x) (outer_view e.value)
action_step (Does.Fill a e) = core.fill (name_view a) (outer_view e.value)
action_step (Does.Insert a i e) = core.insert (name_view a) (outer_view i.value) (outer_view e.value)
action_step (Does.Print p e) = core.print p (outer_view e.value)
action_step (Does.Assert p e) = core.assert p (outer_view e.value)
action_step (Does.When e b) = core.when (outer_view e.value) b.value
action_step (Does.Choose e b d) = core.choose (outer_view e.value) b.value d.value
action_step (Does.Range r v k b) = core.range (outer_view r.value.low) (outer_view r.value.high) (option_map outer_view r.value.step) v.node (option_map (λ x. x.node) k) b.value
action_step (Does.Each a v k b) = core.each (name_view a) v.node (option_map (λ x. x.node) k) b.value
action_step (Does.Wait ns hs b) = core.wait (map awaited_view ns.items) (waits_around hs.items b.value)

abbrev pub block_step : {A : Type 0} → Block-F A core.Action core.Block Stmt → core.Block
block_step b = block_of b.statements.items

abbrev pub statement_step : {A : Type 0} → Statement-F A core.Action core.Block Stmt → Stmt
statement_step s = stmt s.at s.node s.action

abbrev pub action_view : {A : Type 0} → Action A → core.Action
action_view {A} = fold-Action A core.Action core.Block Stmt action_step block_step statement_step

abbrev pub block_view : {A : Type 0} → Block A → core.Block
block_view {A} = fold-Block A core.Action core.Block Stmt action_step block_step statement_step

abbrev pub statement_view : {A : Type 0} → Statement A → Stmt
statement_view {A} = fold-Statement A core.Action core.Block Stmt action_step block_step statement_step

abbrev pub statements_view : {A : Type 0} → List (Statement A) → List Stmt
statements_view ss = map statement_view ss

-- SCRIPTS

abbrev pub function_view : {A : Type 0} → Function A → core.Function
function_view f = record { inputs = length f.inputs.items; outputs = length f.outputs.items; body = block_view f.body }

-- the core of the script that a flow is of
abbrev pub core_of : {A : Type 0} → Flow A → Core
core_of f = record { body = block_view f.body; functions = map function_view f.functions.items }
