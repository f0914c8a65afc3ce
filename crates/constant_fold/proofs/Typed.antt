-- The fold of a well typed script is well typed by the same table.
use Rattle.std.specs.Prelude.{◌≡◌, ℕ, ℤ, List, [], ◌∷◌, map, Option, Some, None, option_map, slice_get, Result, Ok, Err, refl}
use Rattle.std.proofs.Common.{sym, ap, subst, ◌∙◌}
use Rattle.std.proofs.lemmas.Option.{none-some, same_Some}
use Rattle.values.specs.declared.fault.OpFault.{OpFault}
use Rattle.values.specs.declared.value.Scalar.{Scalar}
use Rattle.values.specs.declared.value.Scalar.TheVariants.{Number, Truth, Text}
use Rattle.values.specs.declared.value.Value.{Value}
use Rattle.values.specs.declared.value.Value.TheVariants.{One, Many}
use Rattle.values.specs.Operators as op
use Rattle.values.specs.Operators.{Operation, all_values, applied, evaluated, on_all, whole, with_value}
use Rattle.language.specs.declared.tree.Base.{Base}
use Rattle.language.specs.declared.tree.Operator.{Operator}
use Rattle.language.specs.declared.tree.Prefix.{Prefix}
use Rattle.language.specs.Resolved.{chain_operation, prefix_operation}
use Rattle.language.specs.Scopes.{Typ, Scope, Signature, signature_of, signatures, Calls, CallsBuiltin, IsBuiltinName}
use Rattle.language.specs.Table.{Table, Builtin}
use Rattle.language.specs.Tree.{Word, Node, Form, Expression, expression, text, variable, call, prefixed, chain, Expressions, no_expressions, and_expression, expressions_of, RightSide, Over, Statement, Body, Statements, Tree, import, function, single}
use Rattle.language.specs.Typing.{Operates, sum_of_numbers, sum_of_texts, difference, product, quotient, remainder, less, at_most, greater, at_least, equal, unequal, conjunction, disjunction, Prefixes, negative, inverted, HasType, of_number, of_text, of_truth, of_variable, of_element, of_prefixed, of_chain, of_call, of_builtin, RestType, last_operand, next_operand, ArgumentTypes, no_argument, scalar_argument, array_argument, BuiltinType, of_strcat, of_fromint, of_toint, of_size, AllHaveType, none_left, one_more, RightType, of_scalar, of_copy, of_list, of_array_call, StepType, no_step, a_step, SourceType, of_elements, of_range, CallTyped, function_called, printf_called, assert_called, StatementTyped, declaration, definition, assignment, element_write, several, several_builtin, call_statement, if_statement, if_else_statement, loop_statement, wait_statement, StatementsTyped, no_more_statements, next_statement, BodyTyped, in_braces, function_typed, PartsTyped, no_parts, an_import, a_function, a_statement, WellTyped}
use Rattle.constant_fold.specs.Folded.{scalars_of, collapsed, called, called_operation, folded, folded_all, folded_right, folded_over, folded_statement, folded_body, folded_statements, folded_tree}
use Rattle.constant_fold.specs.Literals.{literal_of, scalar_of, literal_or}
use Rattle.constant_fold.proofs.Expressions.{Both, both}
use Rattle.constant_fold.proofs.Forms.{not_called}
use Rattle.constant_fold.proofs.Scripts.{all_of, unnamed_in}

-- TYPES OF SCALARS

abbrev base_of : Scalar → Base
base_of (Number z) = Base.Int
base_of (Text bytes) = Base.Text
base_of (Truth b) = Base.Boolean

-- the operands of literals
abbrev ones : List Scalar → List (Result Value OpFault)
ones vs = map (λ v. Ok (One v)) vs

values_of_ones : (vs : List Scalar) → all_values (ones vs) ≡ Ok (map One vs)
values_of_ones [] = refl
values_of_ones (v ∷ vs) = ap (with_value (One v)) (values_of_ones vs)

-- what an operation gives for literals
gives : (o : Operation) (vs : List Scalar) {v : Scalar} → evaluated o (ones vs) ≡ Ok (One v) → applied o (map One vs) ≡ Ok (One v)
gives o vs e = ap (on_all o) (sym (values_of_ones vs)) ∙ e

one_is : {u v : Scalar} → ◌≡◌ {A = Result Value OpFault} (Ok (One u)) (Ok (One v)) → base_of v ≡ base_of u
one_is {u} {v} e = let same : u ≡ v = cc (e) in ap base_of (sym same)

whole_base : (r : Result ℤ OpFault) {v : Scalar} → whole r ≡ Ok (One v) → base_of v ≡ Base.Int
whole_base (Ok z) e = one_is e
whole_base (Err f) e = absurd (cc (e))

chain_base : {o : Operator} {b c : Base} (os : List Operator) → Operates o b c → (u : Scalar) (us : List Scalar) → base_of u ≡ b → {v : Scalar} → applied (chain_operation (o ∷ os)) (map One (u ∷ us)) ≡ Ok (One v) → base_of v ≡ c
chain_base os sum_of_numbers (Number z) us h e = whole_base _ e
chain_base os sum_of_numbers (Text bytes) us h e = absurd (cc (h))
chain_base os sum_of_numbers (Truth b) us h e = absurd (cc (h))
chain_base os sum_of_texts (Number z) us h e = absurd (cc (h))
chain_base os sum_of_texts (Text bytes) us h e = one_is e
chain_base os sum_of_texts (Truth b) us h e = absurd (cc (h))
chain_base os difference (Number z) us h e = whole_base _ e
chain_base os difference (Text bytes) us h e = absurd (cc (h))
chain_base os difference (Truth b) us h e = absurd (cc (h))
chain_base os product u us h e = whole_base _ e
chain_base os quotient u us h e = whole_base _ e
chain_base os remainder u us h e = whole_base _ e
chain_base os less u us h e = one_is e
chain_base os at_most u us h e = one_is e
chain_base os greater u us h e = one_is e
chain_base os at_least u us h e = one_is e
chain_base os (equal b) u us h e = one_is e
chain_base os (unequal b) u us h e = one_is e
chain_base os conjunction u us h e = one_is e
chain_base os disjunction u us h e = one_is e

prefix_base : {p : Prefix} {b : Base} → Prefixes p b → (vs : List Scalar) {v : Scalar} → applied (prefix_operation p) (map One vs) ≡ Ok (One v) → base_of v ≡ b
prefix_base negative vs e = whole_base _ e
prefix_base inverted vs e = one_is e

-- EXPRESSIONS

module _ (fs : List Signature) (t : Table) where
  literal_typed : {g : Scope} (nd : Node) (v : Scalar) → HasType fs t g (expression nd (literal_of v)) (base_of v)
  literal_typed nd (Number z) = of_number
  literal_typed nd (Text bytes) = of_text
  literal_typed nd (Truth b) = of_truth

  -- the literal that an expression is has the expression's type
  typed_scalar : {g : Scope} {e : Expression} {b : Base} → HasType fs t g e b → (v : Scalar) → scalar_of e ≡ Some v → base_of v ≡ b
  typed_scalar (of_number {z}) v e = ap base_of (sym (same_Some (Number z) v e))
  typed_scalar (of_text {bytes}) v e = ap base_of (sym (same_Some (Text bytes) v e))
  typed_scalar (of_truth {b}) v e = ap base_of (sym (same_Some (Truth b) v e))
  typed_scalar (of_variable r) v e = absurd (none-some v e)
  typed_scalar (of_element r h) v e = absurd (none-some v e)
  typed_scalar (of_prefixed p h) v e = absurd (none-some v e)
  typed_scalar (of_chain h hs) v e = absurd (none-some v e)
  typed_scalar (of_call c h o) v e = absurd (none-some v e)
  typed_scalar (of_builtin c h) v e = absurd (none-some v e)

  -- what becomes a literal keeps its type
  literal_or_typed : {g : Scope} (nd : Node) (f : Form) {c : Base} (r : Result Value OpFault) → HasType fs t g (expression nd f) c → ((v : Scalar) → r ≡ Ok (One v) → base_of v ≡ c) → HasType fs t g (expression nd (literal_or f r)) c
  literal_or_typed {g} nd f (Ok (One v)) h k = subst (HasType fs t g (expression nd (literal_of v))) (k v refl) (literal_typed nd v)
  literal_or_typed nd f (Ok (Many es)) h k = h
  literal_or_typed nd f (Err x) h k = h

  collapsed_typed : {g : Scope} (nd : Node) (o : Operation) (f : Form) {c : Base} (x : Option (List Scalar)) → HasType fs t g (expression nd f) c
      → ((vs : List Scalar) (v : Scalar) → x ≡ Some vs → applied o (map One vs) ≡ Ok (One v) → base_of v ≡ c) → HasType fs t g (expression nd (collapsed o x f)) c
  collapsed_typed nd o f None h k = h
  collapsed_typed nd o f (Some vs) h k = literal_or_typed nd f (evaluated o (ones vs)) h (λ v e. k vs v refl (gives o vs e))

  -- a chain's operation gives what its first operator gives
  chain_typed : {g : Scope} (nd : Node) {os : List Operator} (e : Expression) (es : Expressions) {b c : Base} → HasType fs t g e b → RestType fs t g os es b c
      → HasType fs t g (expression nd (collapsed (chain_operation os) (scalars_of (and_expression e es)) (chain os (and_expression e es)))) c
  chain_typed {g} nd {os} e es {b} {c} h hs = collapsed_typed nd (chain_operation os) (chain os (and_expression e es)) (scalars_of (and_expression e es)) (of_chain h hs) (λ vs v are is. by hs vs v (both (scalar_of e) (scalars_of es) vs are) is)
    where
      first_base : {o : Operator} (rest : List Operator) → Operates o b c → (vs : List Scalar) (v : Scalar) → Both (scalar_of e) (scalars_of es) vs → applied (chain_operation (o ∷ rest)) (map One vs) ≡ Ok (One v) → base_of v ≡ c
      first_base {o} rest x vs v k is =
          chain_base rest x k.value k.rest (typed_scalar h k.value k.value_is) (ap (λ (us : List Scalar). applied (chain_operation (o ∷ rest)) (map One us)) k.are ∙ is)

      by : {ps : List Operator} {ds : Expressions} → RestType fs t g ps ds b c → (vs : List Scalar) (v : Scalar) → Both (scalar_of e) (scalars_of es) vs → applied (chain_operation ps) (map One vs) ≡ Ok (One v) → base_of v ≡ c
      by (last_operand x l) vs v k is = first_base [] x vs v k is
      by (next_operand {os = rest} x l ls) vs v k is = first_base rest x vs v k is

  prefixed_typed : {g : Scope} (nd : Node) {p : Prefix} (e : Expression) {b : Base} → Prefixes p b → HasType fs t g e b
      → HasType fs t g (expression nd (collapsed (prefix_operation p) (scalars_of (and_expression e no_expressions)) (prefixed p e))) b
  prefixed_typed nd {p} e x h = collapsed_typed nd (prefix_operation p) (prefixed p e) (scalars_of (and_expression e no_expressions)) (of_prefixed x h) (λ vs v are is. prefix_base x vs is)

  -- a call of a built-in function, whose arguments are folded
  builtin_typed : {g : Scope} (nd : Node) (w : Word) {f : Builtin} {es : Expressions} {b : Base} → CallsBuiltin t w f → BuiltinType fs t g f es b
      → HasType fs t g (expression nd (called (called_operation w.text) (scalars_of es) (call w es))) b
  builtin_typed {g} nd w {es} c (of_strcat h) =
      subst (λ o. HasType fs t g (expression nd (called o (scalars_of es) (call w es))) Base.Text) (sym (ap called_operation c.same)) (collapsed_typed nd op.join (call w es) (scalars_of es) (of_builtin c (of_strcat h)) (λ vs v are is. one_is is))
  builtin_typed {g} nd w {es} c (of_fromint h) =
      subst (λ o. HasType fs t g (expression nd (called o (scalars_of es) (call w es))) Base.Text) (sym (ap called_operation c.same)) (collapsed_typed nd op.from_int (call w es) (scalars_of es) (of_builtin c (of_fromint h)) (λ vs v are is. one_is is))
  builtin_typed {g} nd w {es} c (of_toint h) =
      subst (λ o. HasType fs t g (expression nd (called o (scalars_of es) (call w es))) Base.Int) (sym (ap called_operation c.same)) (collapsed_typed nd op.to_int (call w es) (scalars_of es) (of_builtin c (of_toint h)) (λ vs v are is. whole_base _ is))
  builtin_typed {g} nd w {es} c (of_size r) =
      subst (λ o. HasType fs t g (expression nd (called o (scalars_of es) (call w es))) Base.Int) (sym (ap called_operation c.same)) (of_builtin c (of_size r))

  module _ (unnamed : (n : ℕ) (f : Signature) → slice_get fs n ≡ Some f → IsBuiltinName f.text → ⊥) where
    -- a call of a function of the script is not folded
    not_folded : {w : Word} {f : Signature} → Calls fs t w f → called_operation w.text ≡ None
    not_folded {w} c = not_called w.text (λ x. unnamed c.place _ c.there (x.0, c.same ∙ x.1))

    mutual
      typed : {g : Scope} {e : Expression} {b : Base} → HasType fs t g e b → HasType fs t g (folded e) b
      typed of_number = of_number
      typed of_text = of_text
      typed of_truth = of_truth
      typed (of_variable r) = of_variable r
      typed (of_element r h) = of_element r (typed h)
      typed (of_prefixed {nd} {e} x h) = prefixed_typed nd (folded e) x (typed h)
      typed (of_chain {nd} {e} {es} h hs) = chain_typed nd (folded e) (folded_all es) (typed h) (rest_typed hs)
      typed {g} (of_call {nd} {w} {es} {b} c h o) = subst (λ x. HasType fs t g (expression nd (called x (scalars_of (folded_all es)) (call w (folded_all es)))) b) (sym (not_folded c)) (of_call c (arguments_typed h) o)
      typed (of_builtin {nd} {w} c h) = builtin_typed nd w c (parts_typed h)

      rest_typed : {g : Scope} {os : List Operator} {es : Expressions} {b c : Base} → RestType fs t g os es b c → RestType fs t g os (folded_all es) b c
      rest_typed (last_operand x h) = last_operand x (typed h)
      rest_typed (next_operand x h hs) = next_operand x (typed h) (rest_typed hs)

      arguments_typed : {g : Scope} {es : Expressions} {τs : List Typ} → ArgumentTypes fs t g es τs → ArgumentTypes fs t g (folded_all es) τs
      arguments_typed no_argument = no_argument
      arguments_typed (scalar_argument h hs) = scalar_argument (typed h) (arguments_typed hs)
      arguments_typed (array_argument r hs) = array_argument r (arguments_typed hs)

      all_typed : {g : Scope} {es : Expressions} {b : Base} → AllHaveType fs t g es b → AllHaveType fs t g (folded_all es) b
      all_typed none_left = none_left
      all_typed (one_more h hs) = one_more (typed h) (all_typed hs)

      parts_typed : {g : Scope} {f : Builtin} {es : Expressions} {b : Base} → BuiltinType fs t g f es b → BuiltinType fs t g f (folded_all es) b
      parts_typed (of_strcat h) = of_strcat (all_typed h)
      parts_typed (of_fromint h) = of_fromint (typed h)
      parts_typed (of_toint h) = of_toint (typed h)
      parts_typed (of_size r) = of_size r

    -- STATEMENTS

    list_typed : {g : Scope} (es : List Expression) {b : Base} → AllHaveType fs t g (expressions_of es) b → AllHaveType fs t g (expressions_of (map folded es)) b
    list_typed {g} es {b} h = subst (λ ds. AllHaveType fs t g ds b) (sym (all_of es)) (all_typed h)

    call_arguments_typed : {g : Scope} (es : List Expression) {τs : List Typ} → ArgumentTypes fs t g (expressions_of es) τs → ArgumentTypes fs t g (expressions_of (map folded es)) τs
    call_arguments_typed {g} es {τs} h = subst (λ ds. ArgumentTypes fs t g ds τs) (sym (all_of es)) (arguments_typed h)

    right_typed : {g : Scope} {r : RightSide} {τ : Typ} → RightType fs t g r τ → RightType fs t g (folded_right r) τ
    right_typed (of_scalar h) = of_scalar (typed h)
    right_typed (of_copy r) = of_copy r
    right_typed (of_list {es} h) = of_list (list_typed es h)
    right_typed {g} {τ} (of_array_call {nd} {w} {es} c h o) =
        subst (λ x. RightType fs t g (Rattle.language.specs.Tree.value (expression nd (called x (scalars_of (folded_all es)) (call w (folded_all es))))) τ) (sym (not_folded c)) (of_array_call c (arguments_typed h) o)

    call_typed : {g : Scope} {w : Word} {es : List Expression} → CallTyped fs t g w es → CallTyped fs t g w (map folded es)
    call_typed {es} (function_called c o h) = function_called c o (call_arguments_typed es h)
    call_typed (printf_called {es} c p h) = printf_called c p (call_arguments_typed es h)
    call_typed (assert_called c h k) = assert_called c (typed h) (typed k)

    step_typed : {g : Scope} {s : Option Expression} → StepType fs t g s → StepType fs t g (option_map folded s)
    step_typed no_step = no_step
    step_typed (a_step h) = a_step (typed h)

    source_typed : {g : Scope} {o : Over} {b c : Base} → SourceType fs t g o b c → SourceType fs t g (folded_over o) b c
    source_typed (of_elements r) = of_elements r
    source_typed (of_range h k s) = of_range (typed h) (typed k) (step_typed s)

    mutual
      statement_typed : {g h : Scope} {s : Statement} → StatementTyped fs t g s h → StatementTyped fs t g (folded_statement s) h
      statement_typed (declaration d) = declaration d
      statement_typed (definition d r) = definition d (right_typed r)
      statement_typed (assignment x r) = assignment x (right_typed r)
      statement_typed (element_write x h k) = element_write x (typed h) (typed k)
      statement_typed (several {c} x k h) = several x k (call_arguments_typed c.arguments h)
      statement_typed {g} (several_builtin {c} {f} {b} x k h) = several_builtin x k (subst (λ ds. BuiltinType fs t g f ds b) (sym (all_of c.arguments)) (parts_typed h))
      statement_typed (call_statement h) = call_statement (call_typed h)
      statement_typed (if_statement h b) = if_statement (typed h) (body_typed b)
      statement_typed (if_else_statement h b d) = if_else_statement (typed h) (body_typed b) (body_typed d)
      statement_typed (loop_statement s l b) = loop_statement (source_typed s) l (body_typed b)
      statement_typed (wait_statement r b) = wait_statement r (body_typed b)

      statements_typed : {g : Scope} {ss : Statements} → StatementsTyped fs t g ss → StatementsTyped fs t g (folded_statements ss)
      statements_typed no_more_statements = no_more_statements
      statements_typed (next_statement h hs) = next_statement (statement_typed h) (statements_typed hs)

      body_typed : {g : Scope} {b : Body} → BodyTyped fs t g b → BodyTyped fs t g (folded_body b)
      body_typed (in_braces h) = in_braces (statements_typed h)

    -- SCRIPTS

    tree_typed : {names : List (List ℕ)} {g : Scope} {tree : Tree} → PartsTyped fs t names g tree → PartsTyped fs t names g (folded_tree tree)
    tree_typed no_parts = no_parts
    tree_typed (an_import h) = an_import (tree_typed h)
    tree_typed (a_function (function_typed a b c d k) h) = a_function (function_typed a b c d (body_typed k)) (tree_typed h)
    tree_typed (a_statement s h) = a_statement (statement_typed s) (tree_typed h)

-- the fold has the functions of the tree
pub signatures_stay : (tree : Tree) → signatures (folded_tree tree) ≡ signatures tree
signatures_stay [] = refl
signatures_stay (import sp ∷ ps) = signatures_stay ps
signatures_stay (function f ∷ ps) = ap (λ fs. signature_of f ∷ fs) (signatures_stay ps)
signatures_stay (single s ∷ ps) = signatures_stay ps

pub folded_typed : (t : Table) (tree : Tree) → WellTyped tree t → WellTyped (folded_tree tree) t
folded_typed t tree w = subst (λ fs. PartsTyped fs t [] [] (folded_tree tree)) (sym (signatures_stay tree)) (tree_typed (signatures tree) t (unnamed_in w) w)
