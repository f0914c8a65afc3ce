-- What is the same is so the other way round.
use Rattle.std.specs.Prelude.{List}
use Rattle.std.proofs.Common.{sym}
use Rattle.language.specs.Core.{Expr, Exprs, Form, Cell, Part, Outer, Stmt, Action, Block, Function, Core}
use Rattle.std.specs.Prelude.{Option}
use Rattle.fold_laws.specs.Same.{SameExpr, same_literal, same_name, same_whole, same_operator, same_constant, SameExprs, same_none, same_also, Pairwise, no_pair, a_pair, SameForm, same_compute, same_read, SameCell, SamePart, same_inner, same_call, SameOuter, SameStep, no_step, a_step, SameStmt, same_stmt, SameAction, same_declare, same_call_alone, same_assign, same_fill, same_insert, same_print, same_assert, same_when, same_choose, same_range, same_each, same_wait, SameBlock, same_end, same_next, SameFunction, SameCore}

mutual
  pub turned_expr : {e d : Expr} → SameExpr e d → SameExpr d e
  turned_expr same_literal = same_literal
  turned_expr same_name = same_name
  turned_expr same_whole = same_whole
  turned_expr (same_operator h) = same_operator (turned_exprs h)
  turned_expr (same_constant x y) = same_constant y x

  pub turned_exprs : {es ds : Exprs} → SameExprs es ds → SameExprs ds es
  turned_exprs same_none = same_none
  turned_exprs (same_also h hs) = same_also (turned_expr h) (turned_exprs hs)

pub turned_form : {f g : Form} → SameForm f g → SameForm g f
turned_form (same_compute h) = same_compute (turned_expr h)
turned_form same_read = same_read

pub turned_cell : {c d : Cell} → SameCell c d → SameCell d c
turned_cell h = record { node = sym h.node; form = turned_form h.form }

pub turned_part : {p q : Part} → SamePart p q → SamePart q p
turned_part (same_inner h) = same_inner (turned_cell h)
turned_part same_call = same_call

pub turned_all : {X : Type 0} {R : X → X → Type 0} → ((x y : X) → R x y → R y x) → {xs ys : List X} → Pairwise R xs ys → Pairwise R ys xs
turned_all turn no_pair = no_pair
turned_all turn (a_pair h hs) = a_pair (turn _ _ h) (turned_all turn hs)

pub turned_outer : {o p : Outer} → SameOuter o p → SameOuter p o
turned_outer h = record { parts = turned_all (λ p q x. turned_part x) h.parts; cell = turned_cell h.cell }

pub turned_step : {o p : Option Outer} → SameStep o p → SameStep p o
turned_step no_step = no_step
turned_step (a_step h) = a_step (turned_outer h)

mutual
  pub turned_stmt : {s t : Stmt} → SameStmt s t → SameStmt t s
  turned_stmt (same_stmt h) = same_stmt (turned_action h)

  pub turned_action : {a b : Action} → SameAction a b → SameAction b a
  turned_action same_declare = same_declare
  turned_action (same_call_alone h) = same_call_alone (turned_all (λ p q x. turned_part x) h)
  turned_action (same_assign h) = same_assign (turned_outer h)
  turned_action (same_fill h) = same_fill (turned_outer h)
  turned_action (same_insert h k) = same_insert (turned_outer h) (turned_outer k)
  turned_action (same_print h) = same_print (turned_outer h)
  turned_action (same_assert h) = same_assert (turned_outer h)
  turned_action (same_when h b) = same_when (turned_outer h) (turned_block b)
  turned_action (same_choose h b d) = same_choose (turned_outer h) (turned_block b) (turned_block d)
  turned_action (same_range h k s b) = same_range (turned_outer h) (turned_outer k) (turned_step s) (turned_block b)
  turned_action (same_each b) = same_each (turned_block b)
  turned_action (same_wait b) = same_wait (turned_block b)

  pub turned_block : {b d : Block} → SameBlock b d → SameBlock d b
  turned_block same_end = same_end
  turned_block (same_next h b) = same_next (turned_stmt h) (turned_block b)

turned_function : {f g : Function} → SameFunction f g → SameFunction g f
turned_function h = record { inputs = sym h.inputs; outputs = sym h.outputs; body = turned_block h.body }

pub turned_core : {c d : Core} → SameCore c d → SameCore d c
turned_core h = record { body = turned_block h.body; functions = turned_all (λ f g x. turned_function x) h.functions }
