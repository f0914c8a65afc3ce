-- Literals and scalars, and literal results of operations.
use Rattle.std.specs.Prelude.{Option, Some, None, Result, Ok, Err}
use Rattle.values.specs.declared.fault.OpFault.{OpFault}
use Rattle.values.specs.declared.value.Scalar.{Scalar}
use Rattle.values.specs.declared.value.Scalar.TheVariants.{Number, Truth, Text}
use Rattle.values.specs.declared.value.Value.{Value}
use Rattle.values.specs.declared.value.Value.TheVariants.{One, Many}
use Rattle.language.specs.Tree.{Expression, expression, Form, number, text, truth}
use Rattle.syntax_trees.specs.View.{form_view}
use Rattle.syntax_trees.specs.declared.tree.ExprKind.{ExprKind}

-- the scalar of a literal, and the literal of a scalar
abbrev pub scalar_in : Form → Option Scalar
scalar_in (number z) = Some (Number z)
scalar_in (text bytes) = Some (Text bytes)
scalar_in (truth b) = Some (Truth b)
scalar_in _ = None

abbrev pub literal_of : Scalar → Form
literal_of (Number z) = number z
literal_of (Text bytes) = text bytes
literal_of (Truth b) = truth b

abbrev pub scalar_of : Expression → Option Scalar
scalar_of (expression nd f) = scalar_in f

-- a literal for a scalar result, otherwise the unchanged form
abbrev pub literal_or : Form → Result Value OpFault → Form
literal_or f (Ok (One v)) = literal_of v
literal_or f (Ok (Many es)) = f
literal_or f (Err fault) = f

-- a literal in place of a form, if there is one
abbrev pub in_place : {A : Type 0} → Form → Option (ExprKind A) → Form
in_place f None = f
in_place f (Some k) = form_view k
