-- The fold of a well typed script is the same in the core.
use Rattle.std.specs.Prelude.{◌≡◌, ℕ, zero, suc, ℤ, pos, List, [], ◌∷◌, map, Option, Some, option_map, slice_get, refl}
use Rattle.std.proofs.Common.{sym, ap, subst, ◌∙◌}
use Rattle.std.proofs.lemmas.Option.{none-some, same_Some}
use Rattle.values.specs.Operators as op
use Rattle.values.specs.Operators.{Operation}
use Rattle.language.specs.declared.tree.Base.{Base}
use Rattle.language.specs.declared.tree.Keys.TheVariants.{Numbers}
use Rattle.language.specs.declared.tree.Shape.{Shape}
use Rattle.language.specs.Core.{Name, here, Outer, Block}
use Rattle.language.specs.Resolved.{refers, computes, call_right, composite_call, outer, outer_of, right_of, call_action, several, loop_action, block_of, block_in, with_statement, script_block, functions_of, core, operands_of, arguments_of, format_of}
use Rattle.language.specs.Scopes.{Typ, Scope, Signature, signature_of, signatures, Calls, CallsBuiltin, IsBuiltinName}
use Rattle.language.specs.Table as table
use Rattle.language.specs.Table.{Table, Builtin, Callee, composite, built_in}
use Rattle.language.specs.Tree.{Word, Node, Expression, expression, text, call, Expressions, no_expressions, and_expression, expressions_of, RightSide, value, list, Calling, Over, Statement, Body, Statements, Tree}
use Rattle.language.specs.Typing.{HasType, ArgumentTypes, BuiltinType, of_strcat, of_fromint, of_toint, of_size, AllHaveType, RightType, of_scalar, of_copy, of_list, of_array_call, StepType, no_step, a_step, SourceType, of_elements, of_range, CallTyped, function_called, printf_called, assert_called, StatementTyped, declaration, definition, assignment, element_write, several as several_functions, several_builtin, call_statement, if_statement, if_else_statement, loop_statement, wait_statement, StatementsTyped, no_more_statements, next_statement, BodyTyped, in_braces, function_typed, PartsTyped, no_parts, an_import, a_function, a_statement, WellTyped}
use Rattle.fold_laws.specs.Same.{Pairwise, no_pair, a_pair, SameForm, same_compute, same_operator, SamePart, SameOuter, SameStep, SameStmt, same_stmt, SameAction, same_declare, same_assign, same_fill, same_insert, same_print, same_assert, same_when, same_choose, same_range, same_each, same_wait, SameBlock, same_end, same_next, SameFunction, SameCore}
use Rattle.fold_laws.specs.Same as same
use Rattle.constant_fold.specs.Folded.{called, scalars_of, folded, folded_form, folded_all, folded_right, folded_over, folded_statement, folded_body, folded_statements, folded_tree}
use Rattle.constant_fold.proofs.Forms.{form_itself, parts_itself, FoldsExpression, FoldsAll, not_called}
use Rattle.constant_fold.proofs.Expressions.{folds, argument_folds, all_folds, same_composite, also_folds, none_fold}

pub all_of : (es : List Expression) → expressions_of (map folded es) ≡ folded_all (expressions_of es)
all_of [] = refl
all_of (e ∷ es) = ap (and_expression (folded e)) (all_of es)

outer_same : (t : Table) (e : Expression) → FoldsExpression t e → SameOuter (outer t e) (outer t (folded e))
outer_same t (expression nd f) h = record { parts = h.same.parts; cell = record { node = refl; form = h.same.form } }

-- an outermost cell of an operation
operation_same : (t : Table) (n : ℕ) (o : Operation) (es ds : Expressions) → FoldsAll t es ds → SameOuter (outer_of n (computes o (operands_of t es))) (outer_of n (computes o (operands_of t ds)))
operation_same t n o es ds h = record { parts = h.parts; cell = record { node = refl; form = same_compute (same_operator h.exprs) } }

outer_itself : (o : Outer) → SameOuter o o
outer_itself o = record { parts = parts_itself o.parts; cell = record { node = refl; form = form_itself o.cell.form } }

module _ (t : Table) (fs : List Signature) (unnamed : (n : ℕ) (f : Signature) → slice_get fs n ≡ Some f → IsBuiltinName f.text → ⊥) where
  scalar_right : {g : Scope} {b : Base} (e : Expression) (x : Name) → HasType fs t g e b → SameAction (right_of t x Shape.Scalar (value e)) (right_of t x Shape.Scalar (value (folded e)))
  scalar_right {g} (expression nd f) x h = (folds t fs g unnamed h).right nd x

  list_right : {g : Scope} {b : Base} (x : Name) (a : Shape) (nd : Node) (es : List Expression) → AllHaveType fs t g (expressions_of es) b → SameAction (right_of t x a (list nd es)) (right_of t x a (list nd (map folded es)))
  list_right {g} x a nd es h = same_fill (subst (λ ds. SameOuter (outer_of nd.number (computes op.literal (operands_of t (expressions_of es)))) (outer_of nd.number (computes op.literal (operands_of t ds)))) (sym (all_of es))
      (operation_same t nd.number op.literal (expressions_of es) (folded_all (expressions_of es)) (all_folds t fs g unnamed h)))

  -- a composite call
  composite_same : {g : Scope} {τs : List Typ} (p : ℤ) (w : Word) (i : ℕ) (es : Expressions) (xs : List Name) → ArgumentTypes fs t g es τs → SameAction (composite_call p w i (arguments_of t es) xs) (composite_call p w i (arguments_of t (folded_all es)) xs)
  composite_same {g} p w i es xs h = let a = argument_folds t fs g unnamed h in same_composite t p w i (arguments_of t es) (arguments_of t (folded_all es)) xs a.argument_parts a.names

  call_right_same : {g : Scope} {f : Signature} (x : Name) (a : Shape) (nd : Node) (w : Word) (es : Expressions) → Calls fs t w f → ArgumentTypes fs t g es f.inputs → SameAction (right_of t x a (value (expression nd (call w es)))) (right_of t x a (value (expression nd (folded_form (call w es)))))
  call_right_same x a nd w es c h =
      let unfolded = not_called w.text (λ b. unnamed c.place _ c.there (b.0, c.same ∙ b.1)) in
      subst (λ o. SameAction (right_of t x a (value (expression nd (call w es)))) (right_of t x a (value (expression nd (called o (scalars_of (folded_all es)) (call w (folded_all es))))))) (sym unfolded)
      (subst (λ y. SameAction y (right_of t x a (value (expression nd (call w (folded_all es)))))) (sym (ap (call_right t x (expression nd (call w es)) w es) c.named))
      (subst (λ y. SameAction (composite_call (pos 0) w c.place (arguments_of t es) (x ∷ [])) y) (sym (ap (call_right t x (expression nd (call w (folded_all es))) w (folded_all es)) c.named)) (composite_same (pos 0) w c.place es (x ∷ []) h)))

  right_same : {g : Scope} {r : RightSide} {τ : Typ} (x : Name) → RightType fs t g r τ → SameAction (right_of t x τ.shape r) (right_of t x τ.shape (folded_right r))
  right_same x (of_scalar {e} h) = scalar_right e x h
  right_same x (of_copy {nd} {w} r) = same_fill (outer_itself _)
  right_same x (of_list {nd} {es} h) = list_right x (Shape.Array Numbers) nd es h
  right_same x (of_array_call {nd} {w} {es} {κ} c h e) = call_right_same x (Shape.Array κ) nd w es c h

  -- STATEMENTS

  number_same : {g : Scope} {f : Builtin} {b : Base} (n : ℕ) (w : Word) (es : Expressions) (xs : List Name) → CallsBuiltin t w f → BuiltinType fs t g f es b
      → SameAction (several t n w es xs (built_in f)) (several t n w (folded_all es) xs (built_in f))
  number_same {g} n w es xs c (of_strcat h) = same_assign (operation_same t n op.join es (folded_all es) (all_folds t fs g unnamed h))
  number_same {g} n w es xs c (of_fromint {e} h) = same_assign (operation_same t n op.from_int es (folded_all es) (also_folds t e no_expressions no_expressions (folds t fs g unnamed h) (none_fold t)))
  number_same {g} n w es xs c (of_toint {e} h) = same_assign (operation_same t n op.to_int es (folded_all es) (also_folds t e no_expressions no_expressions (folds t fs g unnamed h) (none_fold t)))
  number_same n w es xs c (of_size r) = same_assign (outer_itself _)

  several_same : {g : Scope} {f : Signature} (c : Calling) (n : ℕ) (xs : List Name) → Calls fs t c.name f → ArgumentTypes fs t g (expressions_of c.arguments) f.inputs
      → SameAction (several t n c.name (expressions_of c.arguments) xs (t.callee_of c.name.number)) (several t n c.name (expressions_of (map folded c.arguments)) xs (t.callee_of c.name.number))
  several_same c n xs k h =
      subst (λ ds. SameAction (several t n c.name (expressions_of c.arguments) xs (t.callee_of c.name.number)) (several t n c.name ds xs (t.callee_of c.name.number))) (sym (all_of c.arguments))
      (subst (λ m. SameAction (several t n c.name (expressions_of c.arguments) xs m) (several t n c.name (folded_all (expressions_of c.arguments)) xs m)) (sym k.named)
      (composite_same (pos 0) c.name k.place (expressions_of c.arguments) xs h))

  several_builtin_same : {g : Scope} {f : Builtin} {b : Base} (c : Calling) (n : ℕ) (xs : List Name) → CallsBuiltin t c.name f → BuiltinType fs t g f (expressions_of c.arguments) b
      → SameAction (several t n c.name (expressions_of c.arguments) xs (t.callee_of c.name.number)) (several t n c.name (expressions_of (map folded c.arguments)) xs (t.callee_of c.name.number))
  several_builtin_same c n xs k h =
      subst (λ ds. SameAction (several t n c.name (expressions_of c.arguments) xs (t.callee_of c.name.number)) (several t n c.name ds xs (t.callee_of c.name.number))) (sym (all_of c.arguments))
      (subst (λ m. SameAction (several t n c.name (expressions_of c.arguments) xs m) (several t n c.name (folded_all (expressions_of c.arguments)) xs m)) (sym k.named)
      (number_same n c.name (expressions_of c.arguments) xs k h))

  call_same : {g : Scope} (p : ℤ) (n : ℕ) (w : Word) (es : List Expression) → CallTyped fs t g w es
      → SameAction (call_action t p n w (expressions_of es) (t.callee_of w.number)) (call_action t p n w (expressions_of (map folded es)) (t.callee_of w.number))
  call_same p n w es (function_called k o h) =
      subst (λ ds. SameAction (call_action t p n w (expressions_of es) (t.callee_of w.number)) (call_action t p n w ds (t.callee_of w.number))) (sym (all_of es))
      (subst (λ m. SameAction (call_action t p n w (expressions_of es) m) (call_action t p n w (folded_all (expressions_of es)) m)) (sym k.named) (composite_same p w k.place (expressions_of es) [] h))
  call_same {g} p n w es (printf_called {nd} {bytes} {es = rest} k is h) =
      subst (λ m. SameAction (call_action t p n w (expressions_of es) m) (call_action t p n w (expressions_of (map folded es)) m)) (sym k.named)
      (subst (λ ds. SameAction (call_action t p n w (expressions_of es) (built_in table.printf)) (call_action t p n w (and_expression (expression nd (text bytes)) ds) (built_in table.printf))) (sym (all_of rest))
      (same_print (operation_same t n (op.printf (format_of (expressions_of es))) (expressions_of rest) (folded_all (expressions_of rest)) (folded_arguments h))))
    where
      folded_arguments : {τs : List Typ} {ds : Expressions} → ArgumentTypes fs t g ds τs → FoldsAll t ds (folded_all ds)
      folded_arguments a = argument_folds t fs g unnamed a
  call_same {g} p n w es (assert_called {c} {m} k h l) =
      subst (λ x. SameAction (call_action t p n w (expressions_of es) x) (call_action t p n w (expressions_of (map folded es)) x)) (sym k.named)
      (same_assert (operation_same t n op.assert (expressions_of es) (folded_all (expressions_of es))
      (also_folds t c (and_expression m no_expressions) (folded_all (and_expression m no_expressions)) (folds t fs g unnamed h) (also_folds t m no_expressions no_expressions (folds t fs g unnamed l) (none_fold t)))))

  step_same : {g : Scope} {s : Option Expression} → StepType fs t g s → SameStep (option_map (outer t) s) (option_map (outer t) (option_map folded s))
  step_same no_step = same.no_step
  step_same {g} (a_step {e} h) = same.a_step (outer_same t e (folds t fs g unnamed h))

  loop_same : {g : Scope} {o : Over} {b γ : Base} {c d : Block} (v : Word) (k : Option Word) → SourceType fs t g o b γ → SameBlock c d → SameAction (loop_action t v k o c) (loop_action t v k (folded_over o) d)
  loop_same v k (of_elements r) m = same_each m
  loop_same {g} v k (of_range {low} {high} h l s) m = same_range (outer_same t low (folds t fs g unnamed h)) (outer_same t high (folds t fs g unnamed l)) (step_same s) m

  mutual
    with_same : {g h : Scope} {s : Statement} {b d : Block} → StatementTyped fs t g s h → SameBlock b d → SameBlock (with_statement t s b) (with_statement t (folded_statement s) d)
    with_same (declaration x) m = same_next (same_stmt same_declare) m
    with_same (definition {d = k} x r) m = same_next (same_stmt same_declare) (same_next (same_stmt (right_same (here k.name.number) r)) m)
    with_same (assignment {nd} {w} {r} {τ} x h) m =
        same_next (same_stmt (subst (λ a. SameAction (right_of t (refers t w) a r) (right_of t (refers t w) a (folded_right r))) (sym x.shaped) (right_same (refers t w) h))) m
    with_same {g} (element_write {i} {e} x h k) m = same_next (same_stmt (same_insert (outer_same t i (folds t fs g unnamed h)) (outer_same t e (folds t fs g unnamed k)))) m
    with_same (several_functions {ws} {c} x k h) m = same_next (same_stmt (several_same c c.node.number (map (refers t) ws) k h)) m
    with_same (several_builtin {w} {c} x k h) m = same_next (same_stmt (several_builtin_same c c.node.number (refers t w ∷ []) k h)) m
    with_same (call_statement {p} {c} h) m = same_next (same_stmt (call_same p c.node.number c.name c.arguments h)) m
    with_same {g} (if_statement {c} h b) m = same_next (same_stmt (same_when (outer_same t c (folds t fs g unnamed h)) (body_same b))) m
    with_same {g} (if_else_statement {c} h b d) m = same_next (same_stmt (same_choose (outer_same t c (folds t fs g unnamed h)) (body_same b) (body_same d))) m
    with_same (loop_statement {v} {k} s x b) m = same_next (same_stmt (loop_same v k s (body_same b))) m
    with_same (wait_statement x b) m = same_next (same_stmt (same_wait (body_same b))) m

    statements_same : {g : Scope} {ss : Statements} → StatementsTyped fs t g ss → SameBlock (block_in t ss) (block_in t (folded_statements ss))
    statements_same no_more_statements = same_end
    statements_same (next_statement h hs) = with_same h (statements_same hs)

    pub body_same : {g : Scope} {b : Body} → BodyTyped fs t g b → SameBlock (block_of t b) (block_of t (folded_body b))
    body_same (in_braces hs) = statements_same hs

  -- SCRIPTS

  script_same : {names : List (List ℕ)} {g : Scope} {tree : Tree} → PartsTyped fs t names g tree → SameBlock (script_block t tree) (script_block t (folded_tree tree))
  script_same no_parts = same_end
  script_same (an_import h) = script_same h
  script_same (a_function f h) = script_same h
  script_same (a_statement s h) = with_same s (script_same h)

  functions_same : {names : List (List ℕ)} {g : Scope} {tree : Tree} → PartsTyped fs t names g tree → Pairwise SameFunction (functions_of t tree) (functions_of t (folded_tree tree))
  functions_same no_parts = no_pair
  functions_same (an_import h) = functions_same h
  functions_same (a_function (function_typed a b c d k) h) = a_pair (record { inputs = refl; outputs = refl; body = body_same k }) (functions_same h)
  functions_same (a_statement s h) = functions_same h

pub unnamed_in : {fs : List Signature} {t : Table} {names : List (List ℕ)} {g : Scope} {tree : Tree} → PartsTyped fs t names g tree → (n : ℕ) (f : Signature) → slice_get (signatures tree) n ≡ Some f → IsBuiltinName f.text → ⊥
unnamed_in no_parts n f e b = none-some f e
unnamed_in (an_import h) n f e b = unnamed_in h n f e b
unnamed_in (a_function {f = k} (function_typed a apart c d l) h) zero f e b = apart (b.0, ap (λ (z : Signature). z.text) (same_Some (signature_of k) f e) ∙ b.1)
unnamed_in (a_function k h) (suc n) f e b = unnamed_in h n f e b
unnamed_in (a_statement s h) n f e b = unnamed_in h n f e b

pub core_same : (t : Table) (tree : Tree) → WellTyped tree t → SameCore (core t tree) (core t (folded_tree tree))
core_same t tree w = let u = unnamed_in w in record { body = script_same t (signatures tree) u w; functions = functions_same t (signatures tree) u w }
