-- A core is the same as itself.
use Rattle.std.specs.Prelude.{List, [], ◌∷◌, Option, Some, None, refl}
use Rattle.language.specs.Core.{Expr, literal, name, whole, operator, Exprs, none, also, Form, compute, read, Cell, Part, inner, calls, Outer, Stmt, stmt, Action, declare, call_alone, assign, fill, insert, print, assert, when, choose, range, each, wait, Block, no_stmts, stmts, Function, Core}
use Rattle.fold_laws.specs.Same.{SameExpr, same_literal, same_name, same_whole, same_operator, SameExprs, same_none, same_also, Pairwise, no_pair, a_pair, SameForm, same_compute, same_read, SameCell, SamePart, same_inner, same_call, SameOuter, SameStep, no_step, a_step, SameStmt, same_stmt, SameAction, same_declare, same_call_alone, same_assign, same_fill, same_insert, same_print, same_assert, same_when, same_choose, same_range, same_each, same_wait, SameBlock, same_end, same_next, SameFunction, SameCore}

mutual
  pub expr_itself : (e : Expr) → SameExpr e e
  expr_itself (literal v) = same_literal
  expr_itself (name x) = same_name
  expr_itself (whole a) = same_whole
  expr_itself (operator o es) = same_operator (exprs_itself es)

  pub exprs_itself : (es : Exprs) → SameExprs es es
  exprs_itself none = same_none
  exprs_itself (also e es) = same_also (expr_itself e) (exprs_itself es)

pub form_itself : (f : Form) → SameForm f f
form_itself (compute e) = same_compute (expr_itself e)
form_itself (read a i) = same_read

cell_itself : (c : Cell) → SameCell c c
cell_itself c = record { node = refl; form = form_itself c.form }

pub part_itself : (p : Part) → SamePart p p
part_itself (inner c) = same_inner (cell_itself c)
part_itself (calls c) = same_call

pub all_itself : {X : Type 0} {R : X → X → Type 0} → ((x : X) → R x x) → (xs : List X) → Pairwise R xs xs
all_itself own [] = no_pair
all_itself own (x ∷ xs) = a_pair (own x) (all_itself own xs)

pub outer_itself : (o : Outer) → SameOuter o o
outer_itself o = record { parts = all_itself part_itself o.parts; cell = cell_itself o.cell }

step_itself : (o : Option Outer) → SameStep o o
step_itself None = no_step
step_itself (Some o) = a_step (outer_itself o)

mutual
  stmt_itself : (s : Stmt) → SameStmt s s
  stmt_itself (stmt at n a) = same_stmt (action_itself a)

  action_itself : (a : Action) → SameAction a a
  action_itself (declare v) = same_declare
  action_itself (call_alone p ps c) = same_call_alone (all_itself part_itself ps)
  action_itself (assign x o) = same_assign (outer_itself o)
  action_itself (fill a o) = same_fill (outer_itself o)
  action_itself (insert a i o) = same_insert (outer_itself i) (outer_itself o)
  action_itself (print p o) = same_print (outer_itself o)
  action_itself (assert p o) = same_assert (outer_itself o)
  action_itself (when o b) = same_when (outer_itself o) (block_itself b)
  action_itself (choose o b d) = same_choose (outer_itself o) (block_itself b) (block_itself d)
  action_itself (range lo hi st x t b) = same_range (outer_itself lo) (outer_itself hi) (step_itself st) (block_itself b)
  action_itself (each a x t b) = same_each (block_itself b)
  action_itself (wait ns b) = same_wait (block_itself b)

  block_itself : (b : Block) → SameBlock b b
  block_itself no_stmts = same_end
  block_itself (stmts s b) = same_next (stmt_itself s) (block_itself b)

function_itself : (f : Function) → SameFunction f f
function_itself f = record { inputs = refl; outputs = refl; body = block_itself f.body }

pub core_itself : (c : Core) → SameCore c c
core_itself c = record { body = block_itself c.body; functions = all_itself function_itself c.functions }
