-- Calls in expressions have one output, and whole arrays go to arrays, in the core of any tree.
use Rattle.std.specs.Prelude.{◌≡◌, ℕ, ℤ, Bool, true, List, [], ◌∷◌, ◌++◌, Option, Some, None, refl}
use Rattle.std.proofs.Common.{sym, ap, subst}
use Rattle.values.specs.Operators as op
use Rattle.language.specs.declared.tree.Shape.{Shape}
use Rattle.language.specs.Tree as T
use Rattle.language.specs.Tree.{Word, Node, Declaration, Expression, expression, number, text, truth, variable, element, call, prefixed, chain, Expressions, no_expressions, and_expression, expressions_of, RightSide, value, list, Calling, Over, Statement, statement, Command, choice, choice_else, loop, waits, Body, body, Statements, no_statements, and_statement, Composite, Tree, import, function, single}
use Rattle.language.specs.Core.{Name, here, compute, read, Call, Part, inner, calls, Outer, assign, assert, stmt, Block}
use Rattle.language.specs.Parts.{script_stmts, part_calls, outer_parts}
use Rattle.language.specs.Resolved.{Formed, Operands, Arguments, form_of, operands_of, arguments_of, computes, call_form, call_to, number_of, outer_of, outer, after_first, call_right, right_of, call_action, several, loop_action, core, format_of}
use Rattle.language.specs.Table as table
use Rattle.language.specs.Table.{Table, Callee, composite, built_in}
use Rattle.language.proofs.Tested.{every}
use Rattle.language_laws.proofs.TestedNames.{hidden_fine, fill_fine, one_hidden}
use Rattle.language_laws.proofs.TreeEach.{every-append, holds_of_all}
use Rattle.language.specs.Resolved.{form_in, as_cell, as_operand, as_argument, variable_or_cell}

-- WHOLE ARRAYS

fill_right : (at m : ℕ) (t : Table) (x : Name) (sh : Shape) (r : RightSide) → fill_fine (stmt at m (right_of t x sh r)) ≡ true
fill_right at m t x sh (value (expression nd (call w es))) = by (t.callee_of w.number)
  where
    by : (c : Callee) → fill_fine (stmt at m (call_right t x (expression nd (call w es)) w es c)) ≡ true
    by (composite i) = refl
    by (built_in b) = refl
fill_right at m t x (Shape.Array κ) (value (expression nd (variable w))) = refl
fill_right at m t x Shape.Scalar (value (expression nd (variable w))) = refl
fill_right at m t x sh (list nd es) = refl
fill_right at m t x (Shape.Array κ) (value (expression nd (number z))) = refl
fill_right at m t x Shape.Scalar (value (expression nd (number z))) = refl
fill_right at m t x (Shape.Array κ) (value (expression nd (text bytes))) = refl
fill_right at m t x Shape.Scalar (value (expression nd (text bytes))) = refl
fill_right at m t x (Shape.Array κ) (value (expression nd (truth b))) = refl
fill_right at m t x Shape.Scalar (value (expression nd (truth b))) = refl
fill_right at m t x (Shape.Array κ) (value (expression nd (element w i))) = refl
fill_right at m t x Shape.Scalar (value (expression nd (element w i))) = refl
fill_right at m t x (Shape.Array κ) (value (expression nd (prefixed p e))) = refl
fill_right at m t x Shape.Scalar (value (expression nd (prefixed p e))) = refl
fill_right at m t x (Shape.Array κ) (value (expression nd (chain os es))) = refl
fill_right at m t x Shape.Scalar (value (expression nd (chain os es))) = refl

fill_several : (at m k : ℕ) (t : Table) (w : Word) (es : Expressions) (xs : List Name) (c : Callee) → fill_fine (stmt at m (several t k w es xs c)) ≡ true
fill_several at m k t w es xs (composite i) = refl
fill_several at m k t w es xs (built_in b) = refl

fill_called : (at m k : ℕ) (t : Table) (i : ℤ) (w : Word) (es : Expressions) (c : Callee) → fill_fine (stmt at m (call_action t i k w es c)) ≡ true
fill_called at m k t i w es (composite j) = refl
fill_called at m k t i w es (built_in table.printf) = refl
fill_called at m k t i w es (built_in table.assert) = refl
fill_called at m k t i w es (built_in table.strcat) = refl
fill_called at m k t i w es (built_in table.fromint) = refl
fill_called at m k t i w es (built_in table.toint) = refl
fill_called at m k t i w es (built_in table.size) = refl

fill_loop : (at m : ℕ) (t : Table) (v : Word) (k : Option Word) (o : Over) (b : Block) → fill_fine (stmt at m (loop_action t v k o b)) ≡ true
fill_loop at m t v k (T.array w) b = refl
fill_loop at m t v k (T.range low high step) b = refl

-- a whole array is given to an array alone
pub fills : (t : Table) (tree : Tree) → every fill_fine (script_stmts (core t tree)) ≡ true
fills t tree = holds_of_all fill_fine t (record {
  declares = λ at m v. refl;
  rights = λ at m x sh r. fill_right at m t x sh r;
  writes = λ at m x i e. refl;
  severals = λ at m k w es xs c. fill_several at m k t w es xs c;
  calleds = λ at m k i w es c. fill_called at m k t i w es c;
  whens = λ at m e d. refl;
  chooses = λ at m e d f. refl;
  loops = λ at m v k o b. fill_loop at m t v k o b;
  waits = λ at m ws b. refl;
}) tree

-- CALLS IN EXPRESSIONS

abbrev one_output : Call → Bool
one_output c = one_hidden c.outputs

abbrev Fine : List Part → Type 0
Fine ps = every one_output (part_calls ps) ≡ true

pub calls-append : (ps qs : List Part) → part_calls (ps ++ qs) ≡ part_calls ps ++ part_calls qs
calls-append [] qs = refl
calls-append (inner c ∷ ps) qs = calls-append ps qs
calls-append (calls c ∷ ps) qs = ap (λ (cs : List Call). c ∷ cs) (calls-append ps qs)

fine_both : (ps qs : List Part) → Fine ps → Fine qs → Fine (ps ++ qs)
fine_both ps qs h k = subst (λ (cs : List Call). every one_output cs ≡ true) (sym (calls-append ps qs)) (every-append one_output (part_calls ps) (part_calls qs) h k)

fine_cell : (m : ℕ) (f : Formed) → Fine f.0 → Fine (as_cell m f)
fine_cell m f h = fine_both f.0 (inner (record { node = m; form = f.1 }) ∷ []) h refl

fine_operand : (m : ℕ) (f : Formed) → Fine f.0 → Fine (as_operand m f).0
fine_operand m (ps, compute e) h = h
fine_operand m (ps, read a i) h = fine_cell m (ps, read a i) h

fine_shape : (m : ℕ) (sh : Shape) (t : Table) (w : Word) (f : Formed) → Fine f.0 → Fine (variable_or_cell sh t w m f).0
fine_shape m (Shape.Array κ) t w f h = refl
fine_shape m Shape.Scalar t w f h = fine_cell m f h

fine_argument : (t : Table) (e : Expression) (f : Formed) → Fine f.0 → Fine (as_argument t e f).0
fine_argument t (expression nd (variable w)) f h = fine_shape nd.number (t.shape_of w.number) t w f h
fine_argument t (expression nd (number z)) f h = fine_cell nd.number f h
fine_argument t (expression nd (text bytes)) f h = fine_cell nd.number f h
fine_argument t (expression nd (truth b)) f h = fine_cell nd.number f h
fine_argument t (expression nd (element w i)) f h = fine_cell nd.number f h
fine_argument t (expression nd (call w es)) f h = fine_cell nd.number f h
fine_argument t (expression nd (prefixed p x)) f h = fine_cell nd.number f h
fine_argument t (expression nd (chain os es)) f h = fine_cell nd.number f h

fine_call : (t : Table) (w : Word) (c : Callee) (es : Expressions) (xs : Arguments) (os : Operands) → Fine xs.0 → Fine os.0 → Fine (call_form t w c es xs os).0
fine_call t w (composite i) es xs os h k = fine_both xs.0 (calls (call_to w i xs.1 (here w.number ∷ [])) ∷ []) h refl
fine_call t w (built_in table.size) es xs os h k = refl
fine_call t w (built_in table.strcat) es xs os h k = k
fine_call t w (built_in table.fromint) es xs os h k = k
fine_call t w (built_in table.toint) es xs os h k = k
fine_call t w (built_in table.printf) es xs os h k = k
fine_call t w (built_in table.assert) es xs os h k = k

mutual
  fine_expression : (t : Table) (e : Expression) → Fine (form_of t e).0
  fine_expression t (expression nd f) = fine_form t f

  fine_form : (t : Table) (f : T.Form) → Fine (form_in t f).0
  fine_form t (number z) = refl
  fine_form t (text bytes) = refl
  fine_form t (truth b) = refl
  fine_form t (variable w) = refl
  fine_form t (element w i) = fine_cell (number_of i) (form_of t i) (fine_expression t i)
  fine_form t (call w es) = fine_call t w (t.callee_of w.number) es (arguments_of t es) (operands_of t es) (fine_arguments t es) (fine_operands t es)
  fine_form t (prefixed p e) = fine_operand (number_of e) (form_of t e) (fine_expression t e)
  fine_form t (chain os es) = fine_operands t es

  fine_operands : (t : Table) (es : Expressions) → Fine (operands_of t es).0
  fine_operands t no_expressions = refl
  fine_operands t (and_expression e es) = fine_both (as_operand (number_of e) (form_of t e)).0 (operands_of t es).0 (fine_operand (number_of e) (form_of t e) (fine_expression t e)) (fine_operands t es)

  fine_arguments : (t : Table) (es : Expressions) → Fine (arguments_of t es).0
  fine_arguments t no_expressions = refl
  fine_arguments t (and_expression e es) = fine_both (as_argument t e (form_of t e)).0 (arguments_of t es).0 (fine_argument t e (form_of t e) (fine_expression t e)) (fine_arguments t es)

fine_one : (o : Outer) → Fine o.parts → Fine (o.parts ++ inner o.cell ∷ [])
fine_one o h = fine_both o.parts (inner o.cell ∷ []) h refl

fine_more : (o : Outer) (ps : List Part) → Fine o.parts → Fine ps → Fine (o.parts ++ inner o.cell ∷ ps)
fine_more o ps h k = fine_both o.parts (inner o.cell ∷ ps) h k

fine_assign : (at m : ℕ) (t : Table) (x : Name) (e : Expression) → hidden_fine (stmt at m (assign x (outer t e))) ≡ true
fine_assign at m t x e = fine_one (outer t e) (fine_expression t e)

hidden_right : (at m : ℕ) (t : Table) (x : Name) (sh : Shape) (r : RightSide) → hidden_fine (stmt at m (right_of t x sh r)) ≡ true
hidden_right at m t x sh (value (expression nd (call w es))) = by (t.callee_of w.number)
  where
    by : (c : Callee) → hidden_fine (stmt at m (call_right t x (expression nd (call w es)) w es c)) ≡ true
    by (composite i) = fine_arguments t es
    by (built_in b) = fine_assign at m t x (expression nd (call w es))
hidden_right at m t x (Shape.Array κ) (value (expression nd (variable w))) = refl
hidden_right at m t x Shape.Scalar (value (expression nd (variable w))) = fine_assign at m t x (expression nd (variable w))
hidden_right at m t x sh (list nd es) = fine_one (outer_of nd.number (computes op.literal (operands_of t (expressions_of es)))) (fine_operands t (expressions_of es))
hidden_right at m t x (Shape.Array κ) (value (expression nd (number z))) = fine_assign at m t x (expression nd (number z))
hidden_right at m t x Shape.Scalar (value (expression nd (number z))) = fine_assign at m t x (expression nd (number z))
hidden_right at m t x (Shape.Array κ) (value (expression nd (text bytes))) = fine_assign at m t x (expression nd (text bytes))
hidden_right at m t x Shape.Scalar (value (expression nd (text bytes))) = fine_assign at m t x (expression nd (text bytes))
hidden_right at m t x (Shape.Array κ) (value (expression nd (truth b))) = fine_assign at m t x (expression nd (truth b))
hidden_right at m t x Shape.Scalar (value (expression nd (truth b))) = fine_assign at m t x (expression nd (truth b))
hidden_right at m t x (Shape.Array κ) (value (expression nd (element w i))) = fine_assign at m t x (expression nd (element w i))
hidden_right at m t x Shape.Scalar (value (expression nd (element w i))) = fine_assign at m t x (expression nd (element w i))
hidden_right at m t x (Shape.Array κ) (value (expression nd (prefixed p e))) = fine_assign at m t x (expression nd (prefixed p e))
hidden_right at m t x Shape.Scalar (value (expression nd (prefixed p e))) = fine_assign at m t x (expression nd (prefixed p e))
hidden_right at m t x (Shape.Array κ) (value (expression nd (chain os es))) = fine_assign at m t x (expression nd (chain os es))
hidden_right at m t x Shape.Scalar (value (expression nd (chain os es))) = fine_assign at m t x (expression nd (chain os es))

hidden_several : (at m k : ℕ) (t : Table) (w : Word) (es : Expressions) (xs : List Name) (c : Callee) → hidden_fine (stmt at m (several t k w es xs c)) ≡ true
hidden_several at m k t w es xs (composite i) = fine_arguments t es
hidden_several at m k t w es xs (built_in b) = fine_one (outer_of k (call_form t w (built_in b) es ([], []) (operands_of t es))) (fine_call t w (built_in b) es ([], []) (operands_of t es) refl (fine_operands t es))

fine_after : (t : Table) (es : Expressions) → Fine (operands_of t (after_first es)).0
fine_after t no_expressions = refl
fine_after t (and_expression e es) = fine_operands t es

hidden_assert : (at m k : ℕ) (t : Table) (i : ℤ) (es : Expressions) → hidden_fine (stmt at m (assert i (outer_of k (computes op.assert (operands_of t es))))) ≡ true
hidden_assert at m k t i es = fine_one (outer_of k (computes op.assert (operands_of t es))) (fine_operands t es)

hidden_called : (at m k : ℕ) (t : Table) (i : ℤ) (w : Word) (es : Expressions) (c : Callee) → hidden_fine (stmt at m (call_action t i k w es c)) ≡ true
hidden_called at m k t i w es (composite j) = fine_arguments t es
hidden_called at m k t i w es (built_in table.printf) = fine_one (outer_of k (computes (op.printf (format_of es)) (operands_of t (after_first es)))) (fine_after t es)
hidden_called at m k t i w es (built_in table.assert) = hidden_assert at m k t i es
hidden_called at m k t i w es (built_in table.strcat) = hidden_assert at m k t i es
hidden_called at m k t i w es (built_in table.fromint) = hidden_assert at m k t i es
hidden_called at m k t i w es (built_in table.toint) = hidden_assert at m k t i es
hidden_called at m k t i w es (built_in table.size) = hidden_assert at m k t i es

hidden_loop : (at m : ℕ) (t : Table) (v : Word) (k : Option Word) (o : Over) (b : Block) → hidden_fine (stmt at m (loop_action t v k o b)) ≡ true
hidden_loop at m t v k (T.array w) b = refl
hidden_loop at m t v k (T.range low high None) b = fine_more (outer t low) (outer_parts (outer t high ∷ [])) (fine_expression t low) (fine_one (outer t high) (fine_expression t high))
hidden_loop at m t v k (T.range low high (Some step)) b =
    fine_more (outer t low) (outer_parts (outer t high ∷ outer t step ∷ [])) (fine_expression t low)
    (fine_more (outer t high) (outer_parts (outer t step ∷ [])) (fine_expression t high) (fine_one (outer t step) (fine_expression t step)))

-- each call in an expression has one output, a variable of the statement
pub hidden : (t : Table) (tree : Tree) → every hidden_fine (script_stmts (core t tree)) ≡ true
hidden t tree = holds_of_all hidden_fine t (record {
  declares = λ at m v. refl;
  rights = λ at m x sh r. hidden_right at m t x sh r;
  writes = λ at m x i e. fine_more (outer t i) (outer_parts (outer t e ∷ [])) (fine_expression t i) (fine_one (outer t e) (fine_expression t e));
  severals = λ at m k w es xs c. hidden_several at m k t w es xs c;
  calleds = λ at m k i w es c. hidden_called at m k t i w es c;
  whens = λ at m e d. fine_one (outer t e) (fine_expression t e);
  chooses = λ at m e d f. fine_one (outer t e) (fine_expression t e);
  loops = λ at m v k o b. hidden_loop at m t v k o b;
  waits = λ at m ws b. refl;
}) tree
