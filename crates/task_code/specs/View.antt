-- The code that a runtime value represents, independent of its memory layout.
use Rattle.std.specs.Prelude.{List, [], ◌∷◌, map}
use Rattle.values.specs.Operators.{Operation, sum_of, product_of, compare, equal, unequal, all_true, any_true, not_true, negate, join, from_int, to_int, size, printf, assert, literal}
use Rattle.task_code.specs.declared.expr.Operator.{Operator}
use Rattle.task_code.specs.declared.expr.Operator.TheVariants as Op
use Rattle.task_code.specs.declared.expr.Expr.{Expr, Expr-F, fold-Expr}
use Rattle.task_code.specs.declared.expr.Expr.TheOpen as Form
use Rattle.task_code.specs.declared.entry.Variable.{Variable}
use Rattle.task_code.specs.declared.entry.Owned.{Owned}
use Rattle.task_code.specs.declared.entry.Owned.TheVariants as Own
use Rattle.task_code.specs.declared.entry.Name.{Name}
use Rattle.task_code.specs.declared.entry.Need.{Need}
use Rattle.task_code.specs.declared.entry.Need.TheVariants as Wants
use Rattle.task_code.specs.declared.entry.Argument.{Argument}
use Rattle.task_code.specs.declared.entry.Argument.TheVariants as Passed
use Rattle.task_code.specs.declared.entry.Loop.{Loop}
use Rattle.task_code.specs.declared.entry.Header.{Header}
use Rattle.task_code.specs.declared.entry.Act.{Act}
use Rattle.task_code.specs.declared.entry.Act.TheVariants as Does
use Rattle.task_code.specs.declared.entry.Entry.{Entry}
use Rattle.task_code.specs.declared.code.Opener.{Opener}
use Rattle.task_code.specs.declared.code.Opener.TheVariants as Opens
use Rattle.task_code.specs.declared.code.Body.{Body}
use Rattle.task_code.specs.declared.event.Event.{Event}
use Rattle.task_code.specs.declared.event.Event.TheVariants as Happens
use Rattle.dataflow.specs.Machine as Machine
use Rattle.task_code.specs.Code as Pure

-- the operation of an operator
abbrev pub operation_view : Operator → Operation
operation_view (Op.Sum signs) = sum_of signs.items
operation_view (Op.Product factors) = product_of factors.items
operation_view (Op.Compare order) = compare order
operation_view Op.Equal = equal
operation_view Op.Unequal = unequal
operation_view Op.And = all_true
operation_view Op.Or = any_true
operation_view Op.Not = not_true
operation_view Op.Negate = negate
operation_view Op.Join = join
operation_view Op.FromInt = from_int
operation_view Op.ToInt = to_int
operation_view Op.Size = size
operation_view (Op.Printf format) = printf format
operation_view Op.Assert = assert
operation_view Op.Literal = literal

-- a list of operands
abbrev pub operands_of : List Pure.Expr → Pure.Exprs
operands_of [] = Pure.no_operand
operands_of (e ∷ es) = Pure.operand e (operands_of es)

-- an expression, from its subexpressions
abbrev pub expr_step : Expr-F Pure.Expr → Pure.Expr
expr_step (Form.Constant v) = Pure.constant v
expr_step (Form.Need n) = Pure.need n
expr_step (Form.Operation o es) = Pure.operation (operation_view o) (operands_of es.items)

abbrev pub expr_view : Expr → Pure.Expr
expr_view = fold-Expr Pure.Expr expr_step

abbrev pub exprs_view : List Expr → Pure.Exprs
exprs_view es = operands_of (map expr_view es)

-- names
abbrev pub variable_view : Variable → Pure.Variable
variable_view v = record { node = v.node; array = v.array }

abbrev pub owned_view : Owned → Pure.Owned
owned_view (Own.Local v) = Pure.Local (variable_view v)
owned_view (Own.Parameter k b) = Pure.Parameter k b

abbrev pub name_view : Name → Pure.Name
name_view r = record { up = r.up; owned = owned_view r.owned }

-- a need
abbrev pub need_view : Need → Pure.Need
need_view (Wants.Stored r) = Pure.Stored (name_view r)
need_view (Wants.Closed r) = Pure.Closed (name_view r)
need_view (Wants.At a r) = Pure.At (name_view a) (name_view r)
need_view (Wants.AtKey a k) = Pure.AtKey (name_view a) k

-- an argument
abbrev pub argument_view : Argument → Pure.Argument
argument_view (Passed.Named r) = Pure.Named (name_view r)
argument_view (Passed.Fixed v) = Pure.Fixed v

abbrev pub loop_view : Loop → Pure.Loop
loop_view w = record { body = w.body; value = w.value; turn = w.turn }

abbrev pub header_view : Header → Pure.Header
header_view h = record { at = h.at; needs = map need_view h.needs.items }

-- an act
abbrev pub act_view : Act → Pure.Act
act_view (Does.Cell e) = Pure.Cell (expr_view e)
act_view Does.Read = Pure.Read
act_view (Does.Call b rs os) = Pure.Call b (map argument_view rs.items) (map name_view os.items)
act_view (Does.Set r e) = Pure.Set (name_view r) (expr_view e)
act_view (Does.Fill r es) = Pure.Fill (name_view r) (exprs_view es.items)
act_view (Does.Copy r) = Pure.Copy (name_view r)
act_view (Does.InsertElement r i e) = Pure.InsertElement (name_view r) (expr_view i) (expr_view e)
act_view (Does.Print e) = Pure.Print (expr_view e)
act_view (Does.Assert e) = Pure.Assert (expr_view e)
act_view (Does.If e b d) = Pure.If (expr_view e) b d
act_view (Does.Range l h s w) = Pure.Range (expr_view l) (expr_view h) (expr_view s) (loop_view w)
act_view (Does.Each w) = Pure.Each (loop_view w)
act_view (Does.Wait hs b) = Pure.Wait (map header_view hs.items) b

-- an entry
abbrev pub entry_view : Entry → Pure.Entry
entry_view e =
    record {
      node = e.node;
      at = e.at;
      offset = e.offset;
      priority = e.priority;
      needs = map need_view e.needs.items;
      act = act_view e.act;
      reads = map name_view e.reads.items;
      writes = map name_view e.writes.items;
    }

-- the opener of a body
abbrev pub opener_view : Opener → Pure.Opener
opener_view Opens.ByMain = Pure.ByMain
opener_view (Opens.ByWait i) = Pure.ByWait i
opener_view (Opens.ByStep i) = Pure.ByStep i
opener_view Opens.ByCalls = Pure.ByCalls

-- a body
abbrev pub body_view : Body → Pure.Body
body_view b = record { opener = opener_view b.opener; makes = map variable_view b.makes.items; entries = b.entries.items }

-- an event of a run
abbrev pub event_view : Event → Machine.Event
event_view (Happens.Begin worker item) = Machine.Begin worker item
event_view (Happens.End worker item) = Machine.End worker item
event_view (Happens.Back worker item) = Machine.Back worker item
