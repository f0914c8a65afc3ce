-- Two tables by which a tree is well typed give it one core: names are found by their texts.
use Rattle.std.specs.Prelude.{◌≡◌, ◌⊎◌, ℕ, zero, suc, ◌+◌, nat_eq, ℤ, pos, List, [], ◌∷◌, length, map, Option, Some, slice_get, option_map, if◌then◌else◌, refl}
use Rattle.std.proofs.Common.{inl, inr, sym, ap, ◌∙◌, subst}
use Rattle.values.specs.Operators as op
use Rattle.language.specs.declared.tree.Base.{Base}
use Rattle.language.specs.declared.tree.Operator.{Operator}
use Rattle.language.specs.declared.tree.Shape.{Shape}
use Rattle.language.specs.Kinds.{base_of_keys}
use Rattle.language.specs.Core as C
use Rattle.language.specs.Core.{Owned, input, Name, here, literal, name, whole, none, also, compute, read, Part, Outer, Block, no_stmts, stmts}
use Rattle.language.specs.Members.{◌∈◌, first, later}
use Rattle.language.specs.Resolved.{refers, number_of, format_of, Formed, Operands, Arguments, as_cell, as_operand, one_operand, with_operand, variable_or_cell, as_argument, with_argument, computes, call_form, form_of, operands_of, arguments_of, outer_of, outer, composite_call, call_right, right_of, call_action, several, awaited_as, awaited, loop_action, stmt_of, block_of, block_in, with_statement, script_block, functions_of, core, prefix_operation, chain_operation}
use Rattle.language.specs.Scopes.{Typ, declared_type, Visible, Scope, further, deeper, own, IsVisible, Signature, signature_of, signatures, Refers, Calls, CallsBuiltin, IsBuiltinName}
use Rattle.language.specs.Table as table
use Rattle.language.specs.Table.{Table, Builtin, builtin_text, Callee, composite, built_in}
use Rattle.language.specs.Tree.{Word, Node, Expression, expression, text, variable, call, Expressions, no_expressions, and_expression, expressions_of, Declaration, RightSide, value, Over, Statement, Body, Statements, Composite, Tree, import, function, single}
use Rattle.language.specs.Typing.{HasType, of_number, of_text, of_truth, of_variable, of_element, of_prefixed, of_chain, of_call, of_builtin, RestType, last_operand, next_operand, ArgumentTypes, no_argument, scalar_argument, array_argument, BuiltinType, of_strcat, of_fromint, of_toint, of_size, AllHaveType, none_left, one_more, RightType, of_scalar, of_copy, of_list, of_array_call, ReferAll, no_name, one_name, Declares, fresh, LoopScope, value_only, with_key, StepType, no_step, a_step, SourceType, of_elements, of_range, CallTyped, function_called, printf_called, assert_called, StatementTyped, declaration, definition, assignment, element_write, several as several_functions, several_builtin, call_statement, if_statement, if_else_statement, loop_statement, wait_statement, StatementsTyped, no_more_statements, next_statement, BodyTyped, in_braces, Parameters, no_more, one_parameter, FunctionTyped, function_typed, PartsTyped, no_parts, an_import, a_function, a_statement, WellTyped}
use Rattle.language.proofs.Members.{split_in}

-- VARIABLES

-- one variable of a text is visible
abbrev Apart : Scope → Type 0
Apart g = (v u : Visible) → v ∈ g → u ∈ g → v.text ≡ u.text → v ≡ u

none_apart : Apart []
none_apart v u m n e = elim m [ ]

more_apart : (x : Visible) (g : Scope) → Apart g → ¬ IsVisible g x.text → Apart (x ∷ g)
more_apart x g a h v u m n e = by (split_in m) (split_in n)
  where
    by : ((v ≡ x) ⊎ (v ∈ g)) → ((u ≡ x) ⊎ (u ∈ g)) → v ≡ u
    by (inl p) (inl q) = p ∙ sym q
    by (inl p) (inr j) = absurd (h (u, j, sym e ∙ ap (λ (z : Visible). z.text) p))
    by (inr i) (inl q) = absurd (h (v, i, e ∙ ap (λ (z : Visible). z.text) q))
    by (inr i) (inr j) = a v u i j e

abbrev seen_further : Visible → Visible
seen_further v = record { text = v.text; refers_to = further v.refers_to; type = v.type }

from_deeper : (g : Scope) (v : Visible) → v ∈ deeper g → (u : Visible) × (u ∈ g) × (v ≡ seen_further u)
from_deeper [] v m = elim m [ ]
from_deeper (x ∷ g) v m = elim (split_in m) [
  | inl e ↦ (x, first, e)
  | inr i ↦ (let r = from_deeper g v i in (r.0, later r.1, r.2))
]

deeper_apart : (g : Scope) → Apart g → Apart (deeper g)
deeper_apart g a v u m n e =
    let p = from_deeper g v m in
    let q = from_deeper g u n in
    let same : p.0 ≡ q.0 = a p.0 q.0 p.1 q.1 (sym (ap (λ (z : Visible). z.text) p.2) ∙ e ∙ ap (λ (z : Visible). z.text) q.2) in
    p.2 ∙ ap seen_further same ∙ sym q.2

module _ (g : Scope) (apart : Apart g) (t u : Table) where
  same_variable : {w : Word} {τ σ : Typ} (r : Refers g t w τ) (q : Refers g u w σ) → r.variable ≡ q.variable
  same_variable r q = apart r.variable q.variable r.visible q.visible (r.same ∙ sym q.same)

  refers_same : {w : Word} {τ σ : Typ} → Refers g t w τ → Refers g u w σ → refers t w ≡ refers u w
  refers_same r q = r.named ∙ ap (λ (z : Visible). z.refers_to) (same_variable r q) ∙ sym q.named

  type_same : {w : Word} {τ σ : Typ} → Refers g t w τ → Refers g u w σ → τ ≡ σ
  type_same r q = sym r.typed ∙ ap (λ (z : Visible). z.type) (same_variable r q) ∙ q.typed

  shape_same : {w : Word} {τ σ : Typ} → Refers g t w τ → Refers g u w σ → t.shape_of w.number ≡ u.shape_of w.number
  shape_same r q = r.shaped ∙ ap (λ (z : Typ). z.shape) (type_same r q) ∙ sym q.shaped

-- FUNCTIONS

-- one function of a text, and none of a built-in one's
record Named (fs : List Signature) : Type 0 where
  once : (i j : ℕ) (f h : Signature) → slice_get fs i ≡ Some f → slice_get fs j ≡ Some h → f.text ≡ h.text → i ≡ j
  not_built_in : (i : ℕ) (f : Signature) (b : Builtin) → slice_get fs i ≡ Some f → f.text ≡ builtin_text b → ⊥

-- a built-in function, by the first two letters of its text
abbrev letters : List ℕ → ℕ
letters (a ∷ b ∷ cs) = a + b
letters _ = 0

abbrev by_letters : ℕ → Builtin
by_letters n = if nat_eq n 231 then table.strcat else (if nat_eq n 216 then table.fromint else (if nat_eq n 227 then table.toint else (if nat_eq n 220 then table.size else (if nat_eq n 226 then table.printf else table.assert))))

told : (b : Builtin) → by_letters (letters (builtin_text b)) ≡ b
told table.strcat = refl
told table.fromint = refl
told table.toint = refl
told table.size = refl
told table.printf = refl
told table.assert = refl

builtin_same : (b c : Builtin) → builtin_text b ≡ builtin_text c → b ≡ c
builtin_same b c e = sym (told b) ∙ ap (λ (x : List ℕ). by_letters (letters x)) e ∙ told c

module _ (fs : List Signature) (named : Named fs) (t u : Table) where
  place_same : {w : Word} {f h : Signature} (c : Calls fs t w f) (d : Calls fs u w h) → c.place ≡ d.place
  place_same {f = f} {h = h} c d = named.once c.place d.place f h c.there d.there (c.same ∙ sym d.same)

  no_builtin : {A : Type 0} {w : Word} {f : Signature} {b : Builtin} → Calls fs t w f → CallsBuiltin u w b → A
  no_builtin {f = f} {b = b} c d = absurd (named.not_built_in c.place f b c.there (c.same ∙ d.same))

  no_function : {A : Type 0} {w : Word} {f : Signature} {b : Builtin} → CallsBuiltin t w b → Calls fs u w f → A
  no_function {f = f} {b = b} d c = absurd (named.not_built_in c.place f b c.there (c.same ∙ d.same))

built_same : {t u : Table} {w : Word} {b c : Builtin} → CallsBuiltin t w b → CallsBuiltin u w c → b ≡ c
built_same {b = b} {c = c} p q = builtin_same b c (sym p.same ∙ q.same)

-- EXPRESSIONS

-- a variable's name or its cell
abbrev argument_of : Shape → Name → ℕ → List Part × Name
argument_of (Shape.Array κ) x n = ([], x)
argument_of Shape.Scalar x n = (as_cell n ([], compute (name x)), here n)

argument_is : (h : Shape) (t : Table) (w : Word) (n : ℕ) → variable_or_cell h t w n ([], compute (name (refers t w))) ≡ argument_of h (refers t w) n
argument_is (Shape.Array κ) t w n = refl
argument_is Shape.Scalar t w n = refl

module _ (fs : List Signature) (named : Named fs) (g : Scope) (apart : Apart g) (t u : Table) where
  called : (w : Word) (es : Expressions) {i j : ℕ} → t.callee_of w.number ≡ composite i → u.callee_of w.number ≡ composite j → i ≡ j → arguments_of t es ≡ arguments_of u es
      → call_form t w (t.callee_of w.number) es (arguments_of t es) (operands_of t es) ≡ call_form u w (u.callee_of w.number) es (arguments_of u es) (operands_of u es)
  called w es {i} {j} p q e a =
      ap (λ (c : Callee). call_form t w c es (arguments_of t es) (operands_of t es)) p
      ∙ (λ k. call_form t w (composite (e k)) es (a k) (operands_of t es))
      ∙ sym (ap (λ (c : Callee). call_form u w c es (arguments_of u es) (operands_of u es)) q)

  built : (w : Word) (es : Expressions) {b c : Builtin} → t.callee_of w.number ≡ built_in b → u.callee_of w.number ≡ built_in c → b ≡ c
      → call_form t w (built_in b) es (arguments_of t es) (operands_of t es) ≡ call_form u w (built_in b) es (arguments_of u es) (operands_of u es)
      → call_form t w (t.callee_of w.number) es (arguments_of t es) (operands_of t es) ≡ call_form u w (u.callee_of w.number) es (arguments_of u es) (operands_of u es)
  built w es {b} {c} p q e a =
      ap (λ (x : Callee). call_form t w x es (arguments_of t es) (operands_of t es)) p
      ∙ a
      ∙ sym (ap (λ (x : Callee). call_form u w x es (arguments_of u es) (operands_of u es)) (q ∙ ap built_in (sym e)))

  same_kind : {w : Word} {es : Expressions} {f h : Builtin} {c : Base} → CallsBuiltin t w f → CallsBuiltin u w h → BuiltinType fs u g h es c → BuiltinType fs u g f es c
  same_kind {es = es} {c = c} d d' b = subst (λ (z : Builtin). BuiltinType fs u g z es c) (sym (built_same d d')) b

  variable_argument : {w : Word} {τ σ : Typ} (n : ℕ) → Refers g t w τ → Refers g u w σ
      → variable_or_cell (t.shape_of w.number) t w n ([], compute (name (refers t w))) ≡ variable_or_cell (u.shape_of w.number) u w n ([], compute (name (refers u w)))
  variable_argument {w} n r q =
      argument_is (t.shape_of w.number) t w n ∙ (λ l. argument_of (shape_same g apart t u r q l) (refers_same g apart t u r q l) n) ∙ sym (argument_is (u.shape_of w.number) u w n)

  -- an argument is the same where its cell is
  argument_same : {e : Expression} {b c : Base} → HasType fs t g e b → HasType fs u g e c → form_of t e ≡ form_of u e → as_argument t e (form_of t e) ≡ as_argument u e (form_of u e)
  argument_same (of_variable {nd = nd} r) (of_variable q) z = variable_argument nd.number r q
  argument_same (of_number {nd = nd}) (of_number) z = ap (λ (f : Formed). (as_cell nd.number f, here nd.number)) z
  argument_same (of_text {nd = nd}) (of_text) z = ap (λ (f : Formed). (as_cell nd.number f, here nd.number)) z
  argument_same (of_truth {nd = nd}) (of_truth) z = ap (λ (f : Formed). (as_cell nd.number f, here nd.number)) z
  argument_same (of_element {nd = nd} r h) (of_element q k) z = ap (λ (f : Formed). (as_cell nd.number f, here nd.number)) z
  argument_same (of_prefixed {nd = nd} x h) (of_prefixed y k) z = ap (λ (f : Formed). (as_cell nd.number f, here nd.number)) z
  argument_same (of_chain {nd = nd} h rs) (of_chain k qs) z = ap (λ (f : Formed). (as_cell nd.number f, here nd.number)) z
  argument_same (of_call {nd = nd} x a o) (of_call y b p) z = ap (λ (f : Formed). (as_cell nd.number f, here nd.number)) z
  argument_same (of_call {nd = nd} x a o) (of_builtin y b) z = ap (λ (f : Formed). (as_cell nd.number f, here nd.number)) z
  argument_same (of_builtin {nd = nd} x a) (of_call y b p) z = ap (λ (f : Formed). (as_cell nd.number f, here nd.number)) z
  argument_same (of_builtin {nd = nd} x a) (of_builtin y b) z = ap (λ (f : Formed). (as_cell nd.number f, here nd.number)) z

  mutual
    form_same : {e : Expression} {b c : Base} → HasType fs t g e b → HasType fs u g e c → form_of t e ≡ form_of u e
    form_same of_number of_number = refl
    form_same of_text of_text = refl
    form_same of_truth of_truth = refl
    form_same (of_variable r) (of_variable q) = ap (λ (x : Name). ([], compute (name x))) (refers_same g apart t u r q)
    form_same (of_element {i = i} r h) (of_element q k) = λ l. (as_cell (number_of i) (form_same h k l), read (refers_same g apart t u r q l) (number_of i))
    form_same (of_prefixed {p = p} {e = e} x h) (of_prefixed y k) = ap (λ (f : Formed). computes (prefix_operation p) (one_operand (as_operand (number_of e) f))) (form_same h k)
    form_same (of_chain {os = os} {e = e} h rs) (of_chain k qs) = λ l. computes (chain_operation os) (with_operand (as_operand (number_of e) (form_same h k l)) (rest_same rs qs l))
    form_same (of_call {w = w} {es = es} c a o) (of_call d b p) = called w es c.named d.named (place_same fs named t u c d) (arguments_same a b)
    form_same (of_call c a o) (of_builtin d b) = no_builtin fs named t u c d
    form_same (of_builtin d b) (of_call c a o) = no_function fs named t u d c
    form_same (of_builtin {w = w} {es = es} d b) (of_builtin d' b') = built w es d.named d'.named (built_same d d') (builtin_form w (arguments_of t es) (arguments_of u es) b (same_kind {w = w} d d' b'))

    builtin_form : (w : Word) (xs ys : Arguments) {es : Expressions} {f : Builtin} {b c : Base} → BuiltinType fs t g f es b → BuiltinType fs u g f es c
        → call_form t w (built_in f) es xs (operands_of t es) ≡ call_form u w (built_in f) es ys (operands_of u es)
    builtin_form w xs ys (of_strcat a) (of_strcat a') = ap (λ (x : Operands). computes op.join x) (all_same a a')
    builtin_form w xs ys (of_fromint {e = e} h) (of_fromint k) = ap (λ (x : Formed). computes op.from_int (with_operand (as_operand (number_of e) x) ([], none))) (form_same h k)
    builtin_form w xs ys (of_toint {e = e} h) (of_toint k) = ap (λ (x : Formed). computes op.to_int (with_operand (as_operand (number_of e) x) ([], none))) (form_same h k)
    builtin_form w xs ys (of_size r) (of_size q) = ap (λ (x : Name). computes op.size ([], also (whole x) none)) (refers_same g apart t u r q)

    rest_same : {os : List Operator} {es : Expressions} {b c b' c' : Base} → RestType fs t g os es b c → RestType fs u g os es b' c' → operands_of t es ≡ operands_of u es
    rest_same (last_operand {e = e} o h) (last_operand p k) = ap (λ (f : Formed). with_operand (as_operand (number_of e) f) ([], none)) (form_same h k)
    rest_same (next_operand {e = e} o h rs) (next_operand p k qs) = λ l. with_operand (as_operand (number_of e) (form_same h k l)) (rest_same rs qs l)
    rest_same (last_operand o h) (next_operand p k qs) = elim qs [ ]
    rest_same (next_operand o h rs) (last_operand p k) = elim rs [ ]

    all_same : {es : Expressions} {b c : Base} → AllHaveType fs t g es b → AllHaveType fs u g es c → operands_of t es ≡ operands_of u es
    all_same none_left none_left = refl
    all_same (one_more {e = e} h hs) (one_more k ks) = λ l. with_operand (as_operand (number_of e) (form_same h k l)) (all_same hs ks l)

    arguments_same : {es : Expressions} {τs σs : List Typ} → ArgumentTypes fs t g es τs → ArgumentTypes fs u g es σs → arguments_of t es ≡ arguments_of u es
    arguments_same no_argument no_argument = refl
    arguments_same (scalar_argument h a) (scalar_argument k b) = λ l. with_argument (argument_same h k (form_same h k) l) (arguments_same a b l)
    arguments_same (array_argument {nd = nd} r a) (array_argument q b) = λ l. with_argument (variable_argument nd.number r q l) (arguments_same a b l)
    arguments_same (scalar_argument (of_variable {nd = nd} r) a) (array_argument q b) = λ l. with_argument (variable_argument nd.number r q l) (arguments_same a b l)
    arguments_same (array_argument {nd = nd} r a) (scalar_argument (of_variable q) b) = λ l. with_argument (variable_argument nd.number r q l) (arguments_same a b l)

  -- the operands of a call to printf
  operands_same : {es : Expressions} {τs σs : List Typ} → ArgumentTypes fs t g es τs → ArgumentTypes fs u g es σs → operands_of t es ≡ operands_of u es
  operands_same no_argument no_argument = refl
  operands_same (scalar_argument {e = e} h a) (scalar_argument k b) = λ l. with_operand (as_operand (number_of e) (form_same h k l)) (operands_same a b l)
  operands_same (array_argument r a) (array_argument q b) = λ l. with_operand ([], name (refers_same g apart t u r q l)) (operands_same a b l)
  operands_same (scalar_argument (of_variable r) a) (array_argument q b) = λ l. with_operand ([], name (refers_same g apart t u r q l)) (operands_same a b l)
  operands_same (array_argument r a) (scalar_argument (of_variable q) b) = λ l. with_operand ([], name (refers_same g apart t u r q l)) (operands_same a b l)

  outer_same : {e : Expression} {b c : Base} → HasType fs t g e b → HasType fs u g e c → outer t e ≡ outer u e
  outer_same {e} h k = ap (λ (f : Formed). outer_of (number_of e) f) (form_same h k)

  -- RIGHT SIDES

  called_right : (w : Word) (es : Expressions) (nd : Node) {i j : ℕ} (x : Name) → t.callee_of w.number ≡ composite i → u.callee_of w.number ≡ composite j → i ≡ j → arguments_of t es ≡ arguments_of u es
      → call_right t x (expression nd (call w es)) w es (t.callee_of w.number) ≡ call_right u x (expression nd (call w es)) w es (u.callee_of w.number)
  called_right w es nd x p q e a =
      ap (λ (c : Callee). call_right t x (expression nd (call w es)) w es c) p
      ∙ (λ l. composite_call (pos 0) w (e l) (a l) (x ∷ []))
      ∙ sym (ap (λ (c : Callee). call_right u x (expression nd (call w es)) w es c) q)

  built_right : (w : Word) (es : Expressions) (nd : Node) {b c : Builtin} (x : Name) → t.callee_of w.number ≡ built_in b → u.callee_of w.number ≡ built_in c → outer t (expression nd (call w es)) ≡ outer u (expression nd (call w es))
      → call_right t x (expression nd (call w es)) w es (t.callee_of w.number) ≡ call_right u x (expression nd (call w es)) w es (u.callee_of w.number)
  built_right w es nd x p q a =
      ap (λ (c : Callee). call_right t x (expression nd (call w es)) w es c) p
      ∙ ap (λ (o : Outer). C.assign x o) a
      ∙ sym (ap (λ (c : Callee). call_right u x (expression nd (call w es)) w es c) q)

  variable_right : (nd : Node) {w : Word} {τ σ : Typ} (x : Name) (a : Shape) → Refers g t w τ → Refers g u w σ → right_of t x a (value (expression nd (variable w))) ≡ right_of u x a (value (expression nd (variable w)))
  variable_right nd x (Shape.Array κ) r q = ap (λ (y : Name). C.fill x (outer_of nd.number ([], compute (whole y)))) (refers_same g apart t u r q)
  variable_right nd x Shape.Scalar r q = ap (λ (y : Name). C.assign x (outer_of nd.number ([], compute (name y)))) (refers_same g apart t u r q)

  value_same : {e : Expression} {b c : Base} (x : Name) (a : Shape) → HasType fs t g e b → HasType fs u g e c → right_of t x a (value e) ≡ right_of u x a (value e)
  value_same x (Shape.Array κ) of_number of_number = refl
  value_same x Shape.Scalar of_number of_number = refl
  value_same x (Shape.Array κ) of_text of_text = refl
  value_same x Shape.Scalar of_text of_text = refl
  value_same x (Shape.Array κ) of_truth of_truth = refl
  value_same x Shape.Scalar of_truth of_truth = refl
  value_same x a (of_variable {nd = nd} r) (of_variable q) = variable_right nd x a r q
  value_same x (Shape.Array κ) (of_element {nd = nd} r h) (of_element q k) = ap (λ (o : Outer). C.assign x o) (outer_same (of_element {nd = nd} r h) (of_element q k))
  value_same x Shape.Scalar (of_element {nd = nd} r h) (of_element q k) = ap (λ (o : Outer). C.assign x o) (outer_same (of_element {nd = nd} r h) (of_element q k))
  value_same x (Shape.Array κ) (of_prefixed {nd = nd} y h) (of_prefixed z k) = ap (λ (o : Outer). C.assign x o) (outer_same (of_prefixed {nd = nd} y h) (of_prefixed z k))
  value_same x Shape.Scalar (of_prefixed {nd = nd} y h) (of_prefixed z k) = ap (λ (o : Outer). C.assign x o) (outer_same (of_prefixed {nd = nd} y h) (of_prefixed z k))
  value_same x (Shape.Array κ) (of_chain {nd = nd} h rs) (of_chain k qs) = ap (λ (o : Outer). C.assign x o) (outer_same (of_chain {nd = nd} h rs) (of_chain k qs))
  value_same x Shape.Scalar (of_chain {nd = nd} h rs) (of_chain k qs) = ap (λ (o : Outer). C.assign x o) (outer_same (of_chain {nd = nd} h rs) (of_chain k qs))
  value_same x a (of_call {nd = nd} {w = w} {es = es} c as' o) (of_call d bs p) = called_right w es nd x c.named d.named (place_same fs named t u c d) (arguments_same as' bs)
  value_same x a (of_call c as' o) (of_builtin d b) = no_builtin fs named t u c d
  value_same x a (of_builtin d b) (of_call c as' o) = no_function fs named t u d c
  value_same x a (of_builtin {nd = nd} {w = w} {es = es} d b) (of_builtin d' b') = built_right w es nd x d.named d'.named (outer_same (of_builtin {nd = nd} d b) (of_builtin d' b'))

  right_same : {r : RightSide} {τ σ : Typ} (x : Name) (a : Shape) → RightType fs t g r τ → RightType fs u g r σ → right_of t x a r ≡ right_of u x a r
  right_same x a (of_scalar h) (of_scalar k) = value_same x a h k
  right_same x a (of_copy {nd = nd} r) (of_copy q) = variable_right nd x a r q
  right_same x a (of_scalar (of_variable {nd = nd} r)) (of_copy q) = variable_right nd x a r q
  right_same x a (of_copy {nd = nd} r) (of_scalar (of_variable q)) = variable_right nd x a r q
  right_same x a (of_list {nd = nd} h) (of_list k) = ap (λ (o : Operands). C.fill x (outer_of nd.number (computes op.literal o))) (all_same h k)
  right_same x a (of_array_call {nd = nd} {w = w} {es = es} c as' o) (of_array_call d bs p) = called_right w es nd x c.named d.named (place_same fs named t u c d) (arguments_same as' bs)
  right_same x a (of_scalar (of_call {nd = nd} {w = w} {es = es} c as' o)) (of_array_call d bs p) = called_right w es nd x c.named d.named (place_same fs named t u c d) (arguments_same as' bs)
  right_same x a (of_array_call {nd = nd} {w = w} {es = es} c as' o) (of_scalar (of_call d bs p)) = called_right w es nd x c.named d.named (place_same fs named t u c d) (arguments_same as' bs)
  right_same x a (of_scalar (of_builtin d b)) (of_array_call c as' o) = no_function fs named t u d c
  right_same x a (of_array_call c as' o) (of_scalar (of_builtin d b)) = no_builtin fs named t u c d

  names_same : {ws : List Word} {τs σs : List Typ} → ReferAll t g ws τs → ReferAll u g ws σs → map (refers t) ws ≡ map (refers u) ws
  names_same no_name no_name = refl
  names_same (one_name r rs) (one_name q qs) = λ l. refers_same g apart t u r q l ∷ names_same rs qs l

  awaited_same : {ws : List Word} {τs σs : List Typ} → ReferAll t g ws τs → ReferAll u g ws σs → map (awaited t) ws ≡ map (awaited u) ws
  awaited_same no_name no_name = refl
  awaited_same (one_name r rs) (one_name q qs) = λ l. awaited_as (shape_same g apart t u r q l) (refers_same g apart t u r q l) ∷ awaited_same rs qs l

  -- CALLS

  call_same : {w : Word} {es : List Expression} (p : ℤ) (n : ℕ) → CallTyped fs t g w es → CallTyped fs u g w es
      → call_action t p n w (expressions_of es) (t.callee_of w.number) ≡ call_action u p n w (expressions_of es) (u.callee_of w.number)
  call_same {w} {es} p n (function_called c o a) (function_called d q b) =
      ap (λ (x : Callee). call_action t p n w (expressions_of es) x) c.named
      ∙ (λ l. composite_call p w (place_same fs named t u c d l) (arguments_same a b l) [])
      ∙ sym (ap (λ (x : Callee). call_action u p n w (expressions_of es) x) d.named)
  call_same p n (function_called c o a) (printf_called d e b) = no_builtin fs named t u c d
  call_same p n (function_called c o a) (assert_called d h k) = no_builtin fs named t u c d
  call_same p n (printf_called d e b) (function_called c o a) = no_function fs named t u d c
  call_same p n (assert_called d h k) (function_called c o a) = no_function fs named t u d c
  call_same p n (printf_called {w = w} {nd = nd} {bytes = bytes} {es = es} d e b) (printf_called d' e' b') =
      ap (λ (x : Callee). call_action t p n w (and_expression (expression nd (text bytes)) (expressions_of es)) x) d.named
      ∙ ap (λ (x : Operands). C.print p (outer_of n (computes (op.printf (format_of (and_expression (expression nd (text bytes)) (expressions_of es)))) x))) (operands_same b b')
      ∙ sym (ap (λ (x : Callee). call_action u p n w (and_expression (expression nd (text bytes)) (expressions_of es)) x) d'.named)
  call_same p n (assert_called {w = w} {c = c} {m = m} d h k) (assert_called d' h' k') =
      ap (λ (x : Callee). call_action t p n w (and_expression c (and_expression m no_expressions)) x) d.named
      ∙ (λ l. C.assert p (outer_of n (computes op.assert (with_operand (as_operand (number_of c) (form_same h h' l)) (with_operand (as_operand (number_of m) (form_same k k' l)) ([], none))))))
      ∙ sym (ap (λ (x : Callee). call_action u p n w (and_expression c (and_expression m no_expressions)) x) d'.named)
  call_same p n (printf_called d e b) (assert_called d' h k) = not_one (built_same d d')
    where
      not_one : {A : Type 0} → table.printf ≡ table.assert → A
      not_one q = absurd (cc (q))
  call_same p n (assert_called d h k) (printf_called d' e b) = not_one (built_same d d')
    where
      not_one : {A : Type 0} → table.assert ≡ table.printf → A
      not_one q = absurd (cc (q))

  several_same : {ws : List Word} {w : Word} {es : Expressions} {f h : Signature} {τs σs : List Typ} (n : ℕ) → ReferAll t g ws τs → ReferAll u g ws σs → Calls fs t w f → Calls fs u w h
      → ArgumentTypes fs t g es f.inputs → ArgumentTypes fs u g es h.inputs
      → several t n w es (map (refers t) ws) (t.callee_of w.number) ≡ several u n w es (map (refers u) ws) (u.callee_of w.number)
  several_same {ws} {w} {es} n rs qs c d a b =
      ap (λ (x : Callee). several t n w es (map (refers t) ws) x) c.named
      ∙ (λ l. composite_call (pos 0) w (place_same fs named t u c d l) (arguments_same a b l) (names_same rs qs l))
      ∙ sym (ap (λ (x : Callee). several u n w es (map (refers u) ws) x) d.named)

  several_built : {w v : Word} {es : Expressions} {f h : Builtin} {b c : Base} {τ σ : Typ} (n : ℕ) → Refers g t v τ → Refers g u v σ → CallsBuiltin t w f → CallsBuiltin u w h
      → BuiltinType fs t g f es b → BuiltinType fs u g h es c
      → several t n w es (refers t v ∷ []) (t.callee_of w.number) ≡ several u n w es (refers u v ∷ []) (u.callee_of w.number)
  several_built {w} {v} {es} {f} n r q c d a b =
      ap (λ (x : Callee). several t n w es (refers t v ∷ []) x) c.named
      ∙ (λ l. C.assign (refers_same g apart t u r q l) (outer_of n (builtin_form w ([], []) ([], []) a (same_kind c d b) l)))
      ∙ sym (ap (λ (x : Callee). several u n w es (refers u v ∷ []) x) (d.named ∙ ap built_in (sym (built_same c d))))

  -- LOOPS

  abbrev index_type : Shape → Base
  index_type Shape.Scalar = Base.Int
  index_type (Shape.Array κ) = base_of_keys κ

  step_same : {o : Option Expression} → StepType fs t g o → StepType fs u g o → option_map (outer t) o ≡ option_map (outer u) o
  step_same no_step no_step = refl
  step_same (a_step h) (a_step k) = ap (λ (x : Outer). Some x) (outer_same h k)

  loop_same : {o : Over} {b c i j : Base} (v : Word) (k : Option Word) {x y : Block} → SourceType fs t g o b i → SourceType fs u g o c j → x ≡ y → (b ≡ c) × (i ≡ j) × (loop_action t v k o x ≡ loop_action u v k o y)
  loop_same v k (of_elements r) (of_elements q) e =
      (ap (λ (z : Typ). z.base) (type_same g apart t u r q), ap (λ (z : Typ). index_type z.shape) (type_same g apart t u r q), λ l. C.each (refers_same g apart t u r q l) v.number (option_map (λ (x : Word). x.number) k) (e l))
  loop_same v k (of_range h i s) (of_range h' i' s') e =
      (refl, refl, λ l. C.range (outer_same h h' l) (outer_same i i' l) (step_same s s' l) v.number (option_map (λ (x : Word). x.number) k) (e l))

-- STATEMENTS

declares_same : {g h i : Scope} {w : Word} {τ : Typ} → Apart g → Declares g w τ h → Declares g w τ i → (h ≡ i) × Apart h
declares_same {g} a (fresh {w = w} {τ = τ} n) (fresh m) = (refl, more_apart (own w τ) g a n)

scope_same : {g h i : Scope} {v : Word} {b c : Base} {k : Option Word} → Apart g → LoopScope g v b k c h → LoopScope g v b k c i → (h ≡ i) × Apart h
scope_same {g} a (value_only d) (value_only e) = declares_same (deeper_apart g a) d e
scope_same {g} a (with_key (fresh {w = w} {τ = τ} n) d) (with_key (fresh m) e) = declares_same (more_apart (own w τ) (deeper g) (deeper_apart g a) n) d e

module _ (fs : List Signature) (named : Named fs) (t u : Table) where
  mutual
    -- a statement leaves one scope, and is the same before what is the same
    statement_same : {g h i : Scope} {s : Statement} → Apart g → StatementTyped fs t g s h → StatementTyped fs u g s i → (h ≡ i) × Apart h × ((b c : Block) → b ≡ c → with_statement t s b ≡ with_statement u s c)
    statement_same a (declaration {nd = nd} {d = d} x) (declaration y) =
        let r = declares_same a x y in
        (r.0, r.1, λ b c e l. stmts (stmt_of nd (C.declare d.name.number)) (e l))
    statement_same {g} a (definition {nd = nd} {d = d} (fresh n) x) (definition (fresh m) y) =
        let more = more_apart (own d.name (declared_type d)) g a n in (
          refl,
          more,
          λ b c e l. stmts (stmt_of nd (C.declare d.name.number)) (stmts (stmt_of nd (right_same fs named (own d.name (declared_type d) ∷ g) more t u (here d.name.number) d.shape x y l)) (e l)),
        )
    statement_same {g} a (assignment {nd = nd} {w = w} {r = r} x h) (assignment y k) = (
      refl,
      a,
      λ b c e l. stmts (stmt_of nd ((right_same fs named g a t u (refers t w) (t.shape_of w.number) h k ∙ (λ j. right_of u (refers_same g a t u x y j) (shape_same g a t u x y j) r)) l)) (e l),
    )
    statement_same {g} a (element_write {nd = nd} x h i) (element_write y h' i') = (
      refl,
      a,
      λ b c e l. stmts (stmt_of nd (C.insert (refers_same g a t u x y l) (outer_same fs named g a t u h h' l) (outer_same fs named g a t u i i' l))) (e l),
    )
    statement_same {g} a (several_functions {nd = nd} {c = c} rs f x) (several_functions qs h y) = (refl, a, λ b d e l. stmts (stmt_of nd (several_same fs named g a t u c.node.number rs qs f h x y l)) (e l))
    statement_same {g} a (several_builtin {nd = nd} {c = c} r f x) (several_builtin q h y) = (refl, a, λ b d e l. stmts (stmt_of nd (several_built fs named g a t u c.node.number r q f h x y l)) (e l))
    statement_same {g} a (several_functions rs f x) (several_builtin q h y) = no_builtin fs named t u f h
    statement_same {g} a (several_builtin q h y) (several_functions rs f x) = no_function fs named t u h f
    statement_same {g} a (call_statement {nd = nd} {p = p} {c = c} x) (call_statement y) = (refl, a, λ b d e l. stmts (stmt_of nd (call_same fs named g a t u p c.node.number x y l)) (e l))
    statement_same {g} a (if_statement {nd = nd} h x) (if_statement k y) =
        (refl, a, λ b d e l. stmts (stmt_of nd (C.when (outer_same fs named g a t u h k l) (body_same (deeper_apart g a) x y l))) (e l))
    statement_same {g} a (if_else_statement {nd = nd} h x z) (if_else_statement k y v) =
        (refl, a, λ b d e l. stmts (stmt_of nd (C.choose (outer_same fs named g a t u h k l) (body_same (deeper_apart g a) x y l) (body_same (deeper_apart g a) z v l))) (e l))
    statement_same {g} a (loop_statement {nd = nd} {v = v} {k = k} {o = o} {b = b} {β = β} s x z) (loop_statement {h = h'} {γ = γ'} s' x' z') =
        let bases = loop_same fs named g a t u {o = o} v k {x = no_stmts} {y = no_stmts} s s' refl in
        let with_values = subst (λ (z : Base). LoopScope g v z k γ' h') (sym bases.0) x' in
        let scopes = scope_same a x (subst (λ (z : Base). LoopScope g v β k z h') (sym bases.1) with_values) in
        let bodies = body_same scopes.1 z (subst (λ (i : Scope). BodyTyped fs u i b) (sym scopes.0) z') in
        (refl, a, λ c d e l. stmts (stmt_of nd ((loop_same fs named g a t u {o = o} v k s s' bodies).2 l)) (e l))
    statement_same {g} a (wait_statement {nd = nd} rs x) (wait_statement qs y) =
        (refl, a, λ b d e l. stmts (stmt_of nd (C.wait (awaited_same fs named g a t u rs qs l) (body_same a x y l))) (e l))

    statements_same : {g : Scope} {ss : Statements} → Apart g → StatementsTyped fs t g ss → StatementsTyped fs u g ss → block_in t ss ≡ block_in u ss
    statements_same a no_more_statements no_more_statements = refl
    statements_same a (next_statement {ss = ss} x xs) (next_statement y ys) =
        let r = statement_same a x y in
        r.2 _ _ (statements_same r.1 xs (subst (λ (h : Scope). StatementsTyped fs u h ss) (sym r.0) ys))

    body_same : {g : Scope} {b : Body} → Apart g → BodyTyped fs t g b → BodyTyped fs u g b → block_of t b ≡ block_of u b
    body_same a (in_braces xs) (in_braces ys) = statements_same a xs ys

  -- SCRIPTS

  parameters_same : {o : ℕ → Owned} {g h i : Scope} {n : ℕ} {ds : List Declaration} → Apart g → Parameters o g n ds h → Parameters o g n ds i → (h ≡ i) × Apart h
  parameters_same a no_more no_more = (refl, a)
  parameters_same {o} {g} {n = n} a (one_parameter {d = d} x xs) (one_parameter y ys) =
      parameters_same (more_apart (record { text = d.name.text; refers_to = record { up = 0; what = o n }; type = declared_type d }) g a x) xs ys

  function_same : {names : List (List ℕ)} {f : Composite} → FunctionTyped fs t names f → FunctionTyped fs u names f → block_of t f.body ≡ block_of u f.body
  function_same {f = f} (function_typed x y outs ins b) (function_typed {h = i} x' y' outs' ins' b') =
      let p = parameters_same none_apart outs outs' in
      let q = parameters_same p.1 ins (subst (λ (g : Scope). Parameters input g 0 f.inputs i) (sym p.0) ins') in
      body_same q.1 b (subst (λ (h : Scope). BodyTyped fs u h f.body) (sym q.0) b')

  script_same : {names : List (List ℕ)} {g : Scope} {ps : Tree} → Apart g → PartsTyped fs t names g ps → PartsTyped fs u names g ps → script_block t ps ≡ script_block u ps
  script_same a no_parts no_parts = refl
  script_same a (an_import xs) (an_import ys) = script_same a xs ys
  script_same a (a_function f xs) (a_function h ys) = script_same a xs ys
  script_same {names} a (a_statement {ps = ps} x xs) (a_statement y ys) =
      let r = statement_same a x y in
      r.2 _ _ (script_same r.1 xs (subst (λ (h : Scope). PartsTyped fs u names h ps) (sym r.0) ys))

  functions_same : {names : List (List ℕ)} {g : Scope} {ps : Tree} → Apart g → PartsTyped fs t names g ps → PartsTyped fs u names g ps → functions_of t ps ≡ functions_of u ps
  functions_same a no_parts no_parts = refl
  functions_same a (an_import xs) (an_import ys) = functions_same a xs ys
  functions_same a (a_function {f = f} x xs) (a_function y ys) =
      λ l. record { inputs = length f.inputs; outputs = length f.outputs; body = function_same x y l } ∷ functions_same a xs ys l
  functions_same {names} a (a_statement {ps = ps} x xs) (a_statement y ys) =
      let r = statement_same a x y in
      functions_same r.1 xs (subst (λ (h : Scope). PartsTyped fs u names h ps) (sym r.0) ys)

some_same : {A : Type 0} {x y : A} → ◌≡◌ {A = Option A} (Some x) (Some y) → x ≡ y
some_same h = cc

-- one more function
more_named : {names : List (List ℕ)} (f : Composite) (ps : Tree) → ¬ (f.name.text ∈ names) → ¬ IsBuiltinName f.name.text
    → (Named (signatures ps) × ((i : ℕ) (h : Signature) → slice_get (signatures ps) i ≡ Some h → h.text ∈ (f.name.text ∷ names) → ⊥))
    → Named (signature_of f ∷ signatures ps) × ((i : ℕ) (h : Signature) → slice_get (signature_of f ∷ signatures ps) i ≡ Some h → h.text ∈ names → ⊥)
more_named {names} f ps x y rest = (record { once = once_more; not_built_in = not_built }, λ i h p m. not_among i h p m)
  where
    here_text : (h : Signature) → ◌≡◌ {A = Option Signature} (Some (signature_of f)) (Some h) → f.name.text ≡ h.text
    here_text h p = ap (λ (z : Signature). z.text) (some_same p)

    other : (j : ℕ) (h : Signature) → slice_get (signatures ps) j ≡ Some h → h.text ≡ f.name.text → ⊥
    other j h q e = rest.1 j h q (subst (λ (z : List ℕ). z ∈ (f.name.text ∷ names)) (sym e) first)

    once_more : (i j : ℕ) (h k : Signature) → slice_get (signature_of f ∷ signatures ps) i ≡ Some h → slice_get (signature_of f ∷ signatures ps) j ≡ Some k → h.text ≡ k.text → i ≡ j
    once_more zero zero h k p q e = refl
    once_more zero (suc j) h k p q e = absurd (other j k q (sym e ∙ sym (here_text h p)))
    once_more (suc i) zero h k p q e = absurd (other i h p (e ∙ sym (here_text k q)))
    once_more (suc i) (suc j) h k p q e = ap suc ((rest.0).once i j h k p q e)

    not_built : (i : ℕ) (h : Signature) (c : Builtin) → slice_get (signature_of f ∷ signatures ps) i ≡ Some h → h.text ≡ builtin_text c → ⊥
    not_built zero h c p e = y (c, here_text h p ∙ e)
    not_built (suc i) h c p e = (rest.0).not_built_in i h c p e

    not_among : (i : ℕ) (h : Signature) → slice_get (signature_of f ∷ signatures ps) i ≡ Some h → h.text ∈ names → ⊥
    not_among zero h p m = x (subst (λ (z : List ℕ). z ∈ names) (sym (here_text h p)) m)
    not_among (suc i) h p m = rest.1 i h p (later m)

-- the functions of a well typed script have names of their own
named_of : {fs : List Signature} {t : Table} {names : List (List ℕ)} {g : Scope} (ps : Tree) → PartsTyped fs t names g ps
    → Named (signatures ps) × ((i : ℕ) (f : Signature) → slice_get (signatures ps) i ≡ Some f → f.text ∈ names → ⊥)
named_of [] no_parts = (record { once = λ i j f h p q e. absurd (nothing i f p); not_built_in = λ i f b p e. nothing i f p }, λ i f p m. nothing i f p)
  where
    nothing : (i : ℕ) (f : Signature) → slice_get (signatures []) i ≡ Some f → ⊥
    nothing zero f p = absurd (cc (p))
    nothing (suc i) f p = absurd (cc (p))
named_of (import sp ∷ ps) (an_import xs) = named_of ps xs
named_of (single s ∷ ps) (a_statement x xs) = named_of ps xs
named_of (function f ∷ ps) (a_function (function_typed x y outs ins b) xs) = more_named f ps x y (named_of ps xs)

-- TWO TABLES, ONE CORE
pub one_core : (tree : Tree) (t u : Table) → WellTyped tree t → WellTyped tree u → core t tree ≡ core u tree
one_core tree t u p q =
    let named = (named_of tree p).0 in
    λ l. record { body = script_same (signatures tree) named t u none_apart p q l; functions = functions_same (signatures tree) named t u none_apart p q l }
