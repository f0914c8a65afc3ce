-- Where the names in the parts of typed expressions come from.
use Rattle.std.specs.Prelude.{ℕ, List, [], ◌∷◌, refl}
use Rattle.std.proofs.Common.{sym, subst}
use Rattle.language.specs.declared.tree.Base.{Base}
use Rattle.language.specs.declared.tree.Operator.{Operator}
use Rattle.language.specs.declared.tree.Shape.{Shape}
use Rattle.language.specs.Tree.{Word, Expression, expression, number, text, truth, variable, element, call, prefixed, chain, Expressions, no_expressions, and_expression}
use Rattle.language.specs.Core.{here, compute, read}
use Rattle.language.specs.Resolved.{refers, Formed, Operands, Arguments, form_of, operands_of, arguments_of, as_operand, as_argument, variable_or_cell, call_form, call_to, number_of}
use Rattle.language.specs.Table.{Table, Builtin, Callee, built_in}
use Rattle.language.specs.Scopes.{Typ, Scope, Signature, Refers}
use Rattle.language.specs.Typing as rules
use Rattle.language.specs.Typing.{HasType, RestType, ArgumentTypes, BuiltinType, AllHaveType}
use Rattle.language_accepted.proofs.Placed.{Sees}
use Rattle.flow.specs.Names.{expr_names, exprs_names, form_names}
use Rattle.flow_laws.proofs.Known.{Knows, nothing, named, one, both, no_other, cell, hidden}

module _ (fs : List Signature) (t : Table) (g : Scope) where
  pub seen : {w : Word} {τ : Typ} → Refers g t w τ → Sees g (refers t w)
  seen r = record { variable = r.variable; visible = r.visible; is = r.named }

  abbrev pub FormedKnown : Formed → Type 0
  FormedKnown f = Knows g f.0 (form_names f.1)

  abbrev pub OperandsKnown : Operands → Type 0
  OperandsKnown o = Knows g o.0 (exprs_names o.1)

  abbrev pub ArgumentsKnown : Arguments → Type 0
  ArgumentsKnown a = Knows g a.0 a.1

  operand : (m : ℕ) (f : Formed) → FormedKnown f → Knows g (as_operand m f).0 (expr_names (as_operand m f).1)
  operand m (ps, compute e) h = h
  operand m (ps, read a i) h = cell g ps m (read a i) h

  pub and_operand : (e : Expression) (es : Expressions) → FormedKnown (form_of t e) → OperandsKnown (operands_of t es) → OperandsKnown (operands_of t (and_expression e es))
  and_operand e es h k =
      let o = as_operand (number_of e) (form_of t e) in
      both g o.0 (operands_of t es).0 (expr_names o.1) (exprs_names (operands_of t es).1) (operand (number_of e) (form_of t e) h) k

  -- an argument is an array's name, or a cell
  argument : (e : Expression) → FormedKnown (form_of t e) → Knows g (as_argument t e (form_of t e)).0 ((as_argument t e (form_of t e)).1 ∷ [])
  argument (expression nd (variable w)) h = by (t.shape_of w.number)
    where
      by : (sh : Shape) → Knows g (variable_or_cell sh t w nd.number (form_of t (expression nd (variable w)))).0 ((variable_or_cell sh t w nd.number (form_of t (expression nd (variable w)))).1 ∷ [])
      by (Shape.Array κ) = h
      by Shape.Scalar = cell g (form_of t (expression nd (variable w))).0 nd.number (form_of t (expression nd (variable w))).1 h
  argument (expression nd (number z)) h = cell g (form_of t (expression nd (number z))).0 nd.number (form_of t (expression nd (number z))).1 h
  argument (expression nd (text z)) h = cell g (form_of t (expression nd (text z))).0 nd.number (form_of t (expression nd (text z))).1 h
  argument (expression nd (truth z)) h = cell g (form_of t (expression nd (truth z))).0 nd.number (form_of t (expression nd (truth z))).1 h
  argument (expression nd (element w i)) h = cell g (form_of t (expression nd (element w i))).0 nd.number (form_of t (expression nd (element w i))).1 h
  argument (expression nd (call w es)) h = cell g (form_of t (expression nd (call w es))).0 nd.number (form_of t (expression nd (call w es))).1 h
  argument (expression nd (prefixed p e)) h = cell g (form_of t (expression nd (prefixed p e))).0 nd.number (form_of t (expression nd (prefixed p e))).1 h
  argument (expression nd (chain os es)) h = cell g (form_of t (expression nd (chain os es))).0 nd.number (form_of t (expression nd (chain os es))).1 h

  and_argument : (e : Expression) (es : Expressions) → FormedKnown (form_of t e) → ArgumentsKnown (arguments_of t es) → ArgumentsKnown (arguments_of t (and_expression e es))
  and_argument e es h k =
      let a = as_argument t e (form_of t e) in
      both g a.0 (arguments_of t es).0 (a.1 ∷ []) (arguments_of t es).1 (argument e h) k

  mutual
    pub expression_known : {e : Expression} {b : Base} → HasType fs t g e b → FormedKnown (form_of t e)
    expression_known rules.of_number = nothing g
    expression_known rules.of_text = nothing g
    expression_known rules.of_truth = nothing g
    expression_known (rules.of_variable {w = w} r) = one g (refers t w) (seen r)
    expression_known (rules.of_element {w = w} {i = i} r h) =
        let f = form_of t i in named g (Rattle.language.specs.Resolved.as_cell (number_of i) f) (here (number_of i) ∷ []) (refers t w) (seen r) (cell g f.0 (number_of i) f.1 (expression_known h))
    expression_known (rules.of_prefixed {e = e} p h) =
        let o = as_operand (number_of e) (form_of t e) in no_other g o.0 (expr_names o.1) (operand (number_of e) (form_of t e) (expression_known h))
    expression_known (rules.of_chain {e = e} {es = es} h r) = and_operand e es (expression_known h) (rest_known r)
    expression_known (rules.of_call {w = w} {es = es} c h e) =
        let a = arguments_of t es in
        subst (λ (z : Callee). FormedKnown (call_form t w z es a (operands_of t es))) (sym c.named)
        (hidden g a.0 (call_to w c.place a.1 (here w.number ∷ [])) w.number refl (arguments_known h))
    expression_known (rules.of_builtin {w = w} {es = es} c h) =
        subst (λ (z : Callee). FormedKnown (call_form t w z es (arguments_of t es) (operands_of t es))) (sym c.named) (builtin_known w (arguments_of t es) h)

    rest_known : {os : List Operator} {es : Expressions} {b c : Base} → RestType fs t g os es b c → OperandsKnown (operands_of t es)
    rest_known (rules.last_operand {e = e} o h) = and_operand e no_expressions (expression_known h) (nothing g)
    rest_known (rules.next_operand {e = e} {es = es} o h r) = and_operand e es (expression_known h) (rest_known r)

    pub arguments_known : {es : Expressions} {τs : List Typ} → ArgumentTypes fs t g es τs → ArgumentsKnown (arguments_of t es)
    arguments_known rules.no_argument = nothing g
    arguments_known (rules.scalar_argument {e = e} {es = es} h r) = and_argument e es (expression_known h) (arguments_known r)
    arguments_known (rules.array_argument {nd = nd} {w = w} {es = es} h r) = and_argument (expression nd (variable w)) es (one g (refers t w) (seen h)) (arguments_known r)

    pub builtin_known : {f : Builtin} {es : Expressions} {b : Base} (w : Word) (xs : Arguments) → BuiltinType fs t g f es b → FormedKnown (call_form t w (built_in f) es xs (operands_of t es))
    builtin_known w xs (rules.of_strcat h) = all_known h
    builtin_known w xs (rules.of_fromint {e = e} h) = and_operand e no_expressions (expression_known h) (nothing g)
    builtin_known w xs (rules.of_toint {e = e} h) = and_operand e no_expressions (expression_known h) (nothing g)
    builtin_known w xs (rules.of_size {w = a} r) = one g (refers t a) (seen r)

    pub all_known : {es : Expressions} {b : Base} → AllHaveType fs t g es b → OperandsKnown (operands_of t es)
    all_known rules.none_left = nothing g
    all_known (rules.one_more {e = e} {es = es} h r) = and_operand e es (expression_known h) (all_known r)

  -- what is printed: arrays are no arguments of a format, and need none to be known
  pub printed_known : {es : Expressions} {τs : List Typ} → ArgumentTypes fs t g es τs → OperandsKnown (operands_of t es)
  printed_known rules.no_argument = nothing g
  printed_known (rules.scalar_argument {e = e} {es = es} h r) = and_operand e es (expression_known h) (printed_known r)
  printed_known (rules.array_argument {nd = nd} {w = w} {es = es} h r) = and_operand (expression nd (variable w)) es (one g (refers t w) (seen h)) (printed_known r)
