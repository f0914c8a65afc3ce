-- What statements do.
use Rattle.std.proofs.Common.{rules, ◌≡◌, ℕ, ℤ, ◌++◌, List, [], ◌∷◌, refl, sym, ap, ap₂, ◌∙◌}
use Rattle.std.specs.Prelude.{Vec, Box, pos}
use Rattle.language.specs.declared.tree.Shape.{Shape}
use Rattle.language.specs.Tree.{Word, Node, Form, Expression, expression, Expressions, call, value}
use Rattle.language.specs.Table.{Table, composite}
use Rattle.language.specs.Core as core
use Rattle.language.specs.Core.{Name}
use Rattle.language.specs.Resolved.{Formed, Arguments, outer_of, composite_call, call_to, call_right, right_of, arguments_of}
use Rattle.flow.specs.declared.cell.CellPart.{CellPart}
use Rattle.flow.specs.declared.cell.Call.{Call as Found}
use Rattle.flow.specs.declared.cell.CellForm.{CellForm as FoundForm}
use Rattle.flow.specs.declared.statement.Action.{Call, the_lemmas}
use Rattle.flow.specs.View.{action_view, parts_view, call_view, form_view}
use Rattle.lowering.specs.View.{Leaves, calling}

pub view_call_alone : {A : Type 0} → (p : ℤ) (ps : Vec (CellPart A) A) (c : Box (Found A) A) → action_view (Call p ps c) ≡ core.call_alone p (parts_view ps.items) (call_view c.value)
view_call_alone p ps c = search (rules, the_lemmas)

abbrev made : ℕ → List core.Part → core.Form → core.Outer
made n ps f = record { parts = ps; cell = record { node = n; form = f } }

outer_is : (n : ℕ) (w : Formed) → outer_of n w ≡ made n w.0 w.1
outer_is n (ps, f) = refl

-- an outermost cell, with the parts that were found
pub found_outer : {A : Type 0} → (n : ℕ) (before now : List (CellPart A)) (f : FoundForm A) (w : Formed) → before ≡ [] → Leaves before now (form_view f) w
    → record { parts = parts_view now; cell = record { node = n; form = form_view f } } ≡ outer_of n w
found_outer n before now f w empty leaves = ap₂ (made n) (leaves.0 ∙ ap (λ b. parts_view b ++ w.0) empty) leaves.1 ∙ sym (outer_is n w)

composite_is : (p : ℤ) (w : Word) (i : ℕ) (a : Arguments) (os : List Name) → composite_call p w i a os ≡ core.call_alone p a.0 (call_to w i a.1 os)
composite_is p w i (ps, xs) os = refl

calling_parts : (a : Arguments) (w : Word) (i : ℕ) (os : List Name) → (calling a w i os).0 ≡ a.0
calling_parts (ps, xs) w i os = refl

calling_call : (a : Arguments) (w : Word) (i : ℕ) (os : List Name) → (calling a w i os).1 ≡ call_to w i a.1 os
calling_call (ps, xs) w i os = refl

-- a call alone, with the parts that were found
pub found_call : {A : Type 0} → (p : ℤ) (w : Word) (i : ℕ) (a : Arguments) (os : List Name) (before now : List (CellPart A)) (c : Found A) → before ≡ []
    → Leaves before now (call_view c) (calling a w i os) → core.call_alone p (parts_view now) (call_view c) ≡ composite_call p w i a os
found_call p w i a os before now c empty leaves =
    ap₂ (core.call_alone p) (leaves.0 ∙ ap (λ b. parts_view b ++ (calling a w i os).0) empty ∙ calling_parts a w i os) (leaves.1 ∙ calling_call a w i os)
    ∙ sym (composite_is p w i a os)

-- a composite call as a right side
pub value_called : (t : Table) (x : Name) (s : Shape) (e : Expression) (nd : Node) (f : Form) (w : Word) (es : Expressions) (i : ℕ) → e ≡ expression nd f → f ≡ call w es
    → t.callee_of w.number ≡ composite i → right_of t x s (value e) ≡ composite_call (pos 0) w i (arguments_of t es) (x ∷ [])
value_called t x s e nd f w es i is form callee =
    ap (λ y. right_of t x s (value y)) (is ∙ ap (expression nd) form) ∙ ap (call_right t x (expression nd (call w es)) w es) callee
