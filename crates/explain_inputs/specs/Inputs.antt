-- The inputs of a statement, in the order of its cells.
use Rattle.std.specs.Prelude.{ℕ, List, [], ◌∷◌, ◌++◌, map}
use Rattle.language.specs.Core.{Name, Expr, literal, name, whole, operator, Exprs, none, also, Form, compute, read, Part, inner, calls, Outer, Awaited, scalar, array, Action, each, wait}
use Rattle.language.specs.Parts.{outers}
use Rattle.flow.specs.View.{name_view}
use Rattle.explain_inputs.specs.declared.input.StatementInput.{StatementInput as Told}
use Rattle.explain_inputs.specs.declared.input.StatementInput.TheVariants as Is

-- the scalar of a variable or of a cell; a whole array; the element of an array at the index that is the value of a
-- cell of the statement
pub data Input : Type 0 where
  one_scalar whole_array : Name → Input
  an_element : (array : Name) → (index : ℕ) → Input

abbrev pub input_view : Told → Input
input_view (Is.Scalar x) = one_scalar (name_view x)
input_view (Is.Array a) = whole_array (name_view a)
input_view (Is.Element a i) = an_element (name_view a) i

abbrev pub inputs_view : List Told → List Input
inputs_view xs = map input_view xs

-- the inputs of an expression
abbrev mutual
  pub expr_inputs : Expr → List Input
  expr_inputs (literal v) = []
  expr_inputs (name x) = one_scalar x ∷ []
  expr_inputs (whole a) = whole_array a ∷ []
  expr_inputs (operator o es) = exprs_inputs es

  pub exprs_inputs : Exprs → List Input
  exprs_inputs none = []
  exprs_inputs (also e es) = expr_inputs e ++ exprs_inputs es

-- the inputs of a cell
abbrev pub form_inputs : Form → List Input
form_inputs (compute e) = expr_inputs e
form_inputs (read a i) = an_element a i ∷ []

-- the inputs of the cells inside an outermost one
abbrev pub part_inputs : Part → List Input
part_inputs (inner c) = form_inputs c.form
part_inputs (calls c) = []

abbrev pub parts_inputs : List Part → List Input
parts_inputs [] = []
parts_inputs (p ∷ ps) = part_inputs p ++ parts_inputs ps

abbrev pub outer_inputs : Outer → List Input
outer_inputs o = parts_inputs o.parts ++ form_inputs o.cell.form

abbrev pub outers_inputs : List Outer → List Input
outers_inputs [] = []
outers_inputs (o ∷ os) = outer_inputs o ++ outers_inputs os

-- the input of a `wait` for one name
abbrev pub awaited_input : Awaited → Input
awaited_input (scalar x) = one_scalar x
awaited_input (array a) = whole_array a

-- the inputs of a statement that can be blocked; its own cells are included
abbrev pub inputs_of : Action → List Input
inputs_of (each a x t b) = whole_array a ∷ []
inputs_of (wait ns b) = map awaited_input ns
inputs_of a = outers_inputs (outers a)
