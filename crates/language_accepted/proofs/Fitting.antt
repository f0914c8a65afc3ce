-- What the parts of typed expressions and statements keep.
use Rattle.std.specs.Prelude.{◌≡◌, ℕ, suc, ℤ, pos, List, [], ◌∷◌, ◌++◌, map, Option, Some, None, option_map, length, refl}
use Rattle.std.proofs.Common.{inl, inr, sym, ap, subst}
use Rattle.values.specs.Operators as op
use Rattle.language.specs.declared.tree.Base.{Base}
use Rattle.language.specs.declared.tree.Operator.{Operator}
use Rattle.language.specs.declared.tree.Shape.{Shape}
use Rattle.language.specs.Tree as T
use Rattle.language.specs.Tree.{Word, Node, Expression, expression, number, text, truth, variable, element, call, prefixed, chain, Expressions, no_expressions, and_expression, expressions_of, RightSide, value, list, Calling, Over, Statement, statement}
use Rattle.language.specs.Core.{Name, here, whole, compute, read, Part, inner, calls, Awaited, Action, declare, assign, fill, insert, print, assert, when, choose, range, wait, Block}
use Rattle.language.specs.Members.{◌∈◌}
use Rattle.language.specs.Parts.{outer_parts}
use Rattle.language.specs.Resolved.{refers, Formed, Operands, Arguments, form_of, operands_of, arguments_of, as_cell, as_operand, as_argument, variable_or_cell, computes, call_form, call_to, number_of, outer_of, outer, composite_call, call_right, right_of, call_action, several, awaited, awaited_as, loop_action, format_of}
use Rattle.language.specs.Table.{Table, Builtin, Callee, built_in}
use Rattle.language.specs.Scopes.{Typ, one_of, many_of, Scope, Signature, Refers, Calls}
use Rattle.language.specs.Typing as rules
use Rattle.language.specs.Typing.{HasType, RestType, ArgumentTypes, BuiltinType, AllHaveType, RightType, ReferAll, StepType, SourceType, CallTyped, StatementTyped}
use Rattle.language.proofs.Members.{split_in, either}
use Rattle.language_laws.specs.Scoped.{IsIn, AreIn, AllAreIn, FormIn, AwaitedIn}
use Rattle.language_accepted.proofs.Placed.{Sees, CallFits, PartsFit, PartFits, Fits}

module _ (fs : List Signature) (t : Table) (k : ℕ) where
  pub none_fit : PartsFit fs k []
  none_fit p m = elim m [ ]

  pub parts_both : (ps qs : List Part) → PartsFit fs k ps → PartsFit fs k qs → PartsFit fs k (ps ++ qs)
  parts_both ps qs h g p m = elim (either ps qs m) [ inl i ↦ h p i | inr i ↦ g p i ]

  part_more : (p : Part) (ps : List Part) → PartFits fs k p → PartsFit fs k ps → PartsFit fs k (p ∷ ps)
  part_more p ps h g q m = elim (split_in m) [ inl e ↦ subst (PartFits fs k) (sym e) h | inr i ↦ g q i ]

  pub local_in : (n : ℕ) → IsIn k (here n)
  local_in n i e = absurd (cc (e))

  -- the parts before a cell, and what it is
  abbrev pub FormedFits : Formed → Type 0
  FormedFits f = PartsFit fs k f.0 × FormIn k f.1

  abbrev pub OperandsFit : Operands → Type 0
  OperandsFit o = PartsFit fs k o.0 × AllAreIn k o.1

  abbrev pub AllIn : List Name → Type 0
  AllIn xs = (x : Name) → x ∈ xs → IsIn k x

  pub record ArgumentsFit (a : Arguments) (τs : List Typ) : Type 0 where
    pub before : PartsFit fs k a.0
    pub named : AllIn a.1
    pub many : length a.1 ≡ length τs

  cell_fits : (m : ℕ) (f : Formed) → FormedFits f → PartsFit fs k (as_cell m f)
  cell_fits m f h = parts_both f.0 (inner (record { node = m; form = f.1 }) ∷ []) h.0 (part_more (inner (record { node = m; form = f.1 })) [] h.1 none_fit)

  operand_fits : (m : ℕ) (f : Formed) → FormedFits f → PartsFit fs k (as_operand m f).0 × AreIn k (as_operand m f).1
  operand_fits m (ps, compute e) h = h
  operand_fits m (ps, read a i) h = (cell_fits m (ps, read a i) h, local_in m)

  and_fits : (e : Expression) (es : Expressions) → FormedFits (form_of t e) → OperandsFit (operands_of t es) → OperandsFit (operands_of t (and_expression e es))
  and_fits e es h g =
      let q = operand_fits (number_of e) (form_of t e) h in
      (parts_both (as_operand (number_of e) (form_of t e)).0 (operands_of t es).0 q.0 g.0, (q.1, g.1))

  shape_fits : (sh : Shape) (w : Word) (m : ℕ) (f : Formed) → FormedFits f → IsIn k (refers t w) → PartsFit fs k (variable_or_cell sh t w m f).0 × IsIn k (variable_or_cell sh t w m f).1
  shape_fits (Shape.Array κ) w m f h i = (none_fit, i)
  shape_fits Shape.Scalar w m f h i = (cell_fits m f h, local_in m)

  argument_fits : (e : Expression) → FormedFits (form_of t e) → PartsFit fs k (as_argument t e (form_of t e)).0 × IsIn k (as_argument t e (form_of t e)).1
  argument_fits (expression nd (variable w)) h = shape_fits (t.shape_of w.number) w nd.number (form_of t (expression nd (variable w))) h h.1
  argument_fits (expression nd (number z)) h = (cell_fits nd.number (form_of t (expression nd (number z))) h, local_in nd.number)
  argument_fits (expression nd (text bytes)) h = (cell_fits nd.number (form_of t (expression nd (text bytes))) h, local_in nd.number)
  argument_fits (expression nd (truth b)) h = (cell_fits nd.number (form_of t (expression nd (truth b))) h, local_in nd.number)
  argument_fits (expression nd (element w i)) h = (cell_fits nd.number (form_of t (expression nd (element w i))) h, local_in nd.number)
  argument_fits (expression nd (call w es)) h = (cell_fits nd.number (form_of t (expression nd (call w es))) h, local_in nd.number)
  argument_fits (expression nd (prefixed p e)) h = (cell_fits nd.number (form_of t (expression nd (prefixed p e))) h, local_in nd.number)
  argument_fits (expression nd (chain os es)) h = (cell_fits nd.number (form_of t (expression nd (chain os es))) h, local_in nd.number)

  with_fits : (e : Expression) (es : Expressions) (τ : Typ) (τs : List Typ) → FormedFits (form_of t e) → ArgumentsFit (arguments_of t es) τs → ArgumentsFit (arguments_of t (and_expression e es)) (τ ∷ τs)
  with_fits e es τ τs h g =
      let q = argument_fits e h in
      record {
        before = parts_both (as_argument t e (form_of t e)).0 (arguments_of t es).0 q.0 g.before;
        named = λ x m. elim (split_in m) [ inl e ↦ subst (IsIn k) (sym e) q.1 | inr i ↦ g.named x i ];
        many = ap suc g.many;
      }

  -- a call that is found, with arguments that fit
  call_fits : (w : Word) (f : Signature) (xs : Arguments) (os : List Name) → (c : Calls fs t w f) → ArgumentsFit xs f.inputs → length os ≡ length f.outputs → AllIn os
      → CallFits fs k (call_to w c.place xs.1 os)
  call_fits w f xs os c h e o = record { signature = f; there = c.there; outputs = e; inputs = h.many; given = h.named; taken = o }

  no_names : AllIn []
  no_names x m = elim m [ ]

  one_named : (x : Name) → IsIn k x → AllIn (x ∷ [])
  one_named x h y m = elim (split_in m) [ inl e ↦ subst (IsIn k) (sym e) h | inr i ↦ no_names y i ]

  behind_call : (w : Word) (f : Signature) (xs : Arguments) (os : List Name) → (c : Calls fs t w f) → ArgumentsFit xs f.inputs → length os ≡ length f.outputs → AllIn os
      → PartsFit fs k (xs.0 ++ calls (call_to w c.place xs.1 os) ∷ [])
  behind_call w f xs os c h e o = parts_both xs.0 (calls (call_to w c.place xs.1 os) ∷ []) h.before (part_more (calls (call_to w c.place xs.1 os)) [] (call_fits w f xs os c h e o) none_fit)

  module _ (g : Scope) (among : (x : Name) → Sees g x → IsIn k x) where
    pub seen : {w : Word} {τ : Typ} → Refers g t w τ → Sees g (refers t w)
    seen r = record { variable = r.variable; visible = r.visible; is = r.named }

    refers_in : (w : Word) (τ : Typ) → Refers g t w τ → IsIn k (refers t w)
    refers_in w τ r = among (refers t w) (seen r)

    mutual
      pub expression_fits : {e : Expression} {b : Base} → HasType fs t g e b → FormedFits (form_of t e)
      expression_fits rules.of_number = (none_fit, tt)
      expression_fits rules.of_text = (none_fit, tt)
      expression_fits rules.of_truth = (none_fit, tt)
      expression_fits (rules.of_variable {w = w} {b = b} r) = (none_fit, refers_in w (one_of b) r)
      expression_fits (rules.of_element {w = w} {i = i} {κ = κ} {b = b} r h) = (cell_fits (number_of i) (form_of t i) (expression_fits h), refers_in w (many_of κ b) r)
      expression_fits (rules.of_prefixed {e = e} p h) = let q = operand_fits (number_of e) (form_of t e) (expression_fits h) in (q.0, (q.1, tt))
      expression_fits (rules.of_chain {e = e} {es = es} h r) = and_fits e es (expression_fits h) (rest_fits r)
      expression_fits (rules.of_call {w = w} {es = es} {f = f} c h e) =
          subst (λ (z : Callee). FormedFits (call_form t w z es (arguments_of t es) (operands_of t es))) (sym c.named)
          (behind_call w f (arguments_of t es) (here w.number ∷ []) c (arguments_fit h) (ap length (sym e)) (one_named (here w.number) (local_in w.number)), local_in w.number)
      expression_fits (rules.of_builtin {w = w} {es = es} {f = f} c h) =
          subst (λ (z : Callee). FormedFits (call_form t w z es (arguments_of t es) (operands_of t es))) (sym c.named) (builtin_fits w (arguments_of t es) h)

      rest_fits : {os : List Operator} {es : Expressions} {b c : Base} → RestType fs t g os es b c → OperandsFit (operands_of t es)
      rest_fits (rules.last_operand {e = e} o h) = and_fits e no_expressions (expression_fits h) (none_fit, tt)
      rest_fits (rules.next_operand {e = e} {es = es} o h r) = and_fits e es (expression_fits h) (rest_fits r)

      pub arguments_fit : {es : Expressions} {τs : List Typ} → ArgumentTypes fs t g es τs → ArgumentsFit (arguments_of t es) τs
      arguments_fit rules.no_argument = record { before = none_fit; named = no_names; many = refl }
      arguments_fit (rules.scalar_argument {e = e} {es = es} {b = b} {τs = τs} h r) = with_fits e es (one_of b) τs (expression_fits h) (arguments_fit r)
      arguments_fit (rules.array_argument {nd = nd} {w = w} {es = es} {κ = κ} {b = b} {τs = τs} h r) =
          with_fits (expression nd (variable w)) es (many_of κ b) τs (none_fit, refers_in w (many_of κ b) h) (arguments_fit r)

      pub builtin_fits : {f : Builtin} {es : Expressions} {b : Base} (w : Word) (xs : Arguments) → BuiltinType fs t g f es b → FormedFits (call_form t w (built_in f) es xs (operands_of t es))
      builtin_fits w xs (rules.of_strcat h) = all_fit h
      builtin_fits w xs (rules.of_fromint {e = e} h) = and_fits e no_expressions (expression_fits h) (none_fit, tt)
      builtin_fits w xs (rules.of_toint {e = e} h) = and_fits e no_expressions (expression_fits h) (none_fit, tt)
      builtin_fits w xs (rules.of_size {w = a} {κ = κ} {b = b} r) = (none_fit, (refers_in a (many_of κ b) r, tt))

      pub all_fit : {es : Expressions} {b : Base} → AllHaveType fs t g es b → OperandsFit (operands_of t es)
      all_fit rules.none_left = (none_fit, tt)
      all_fit (rules.one_more {e = e} {es = es} h r) = and_fits e es (expression_fits h) (all_fit r)

    -- what is printed
    printed_fits : {es : Expressions} {τs : List Typ} → ArgumentTypes fs t g es τs → OperandsFit (operands_of t es)
    printed_fits rules.no_argument = (none_fit, tt)
    printed_fits (rules.scalar_argument {e = e} {es = es} h r) = and_fits e es (expression_fits h) (printed_fits r)
    printed_fits (rules.array_argument {nd = nd} {w = w} {es = es} {κ = κ} {b = b} h r) = and_fits (expression nd (variable w)) es (none_fit, refers_in w (many_of κ b) h) (printed_fits r)

    -- STATEMENTS

    abbrev Fit : Action → Type 0
    Fit a = Fits fs k g a

    outer_fits : (m : ℕ) (f : Formed) (ps : List Part) → FormedFits f → PartsFit fs k ps → PartsFit fs k ((outer_of m f).parts ++ inner (outer_of m f).cell ∷ ps)
    outer_fits m f ps h r = parts_both f.0 (inner (record { node = m; form = f.1 }) ∷ ps) h.0 (part_more (inner (record { node = m; form = f.1 })) ps h.1 r)

    none_seen : (x : Name) → x ∈ [] → Sees g x
    none_seen x m = elim m [ ]

    one_seen : (y : Name) → Sees g y → (x : Name) → x ∈ (y ∷ []) → Sees g x
    one_seen y s x m = elim (split_in m) [ inl e ↦ subst (Sees g) (sym e) s | inr i ↦ none_seen x i ]

    none_awaited : (x : Awaited) → x ∈ [] → AwaitedIn k x
    none_awaited x m = elim m [ ]

    pub declare_fits : (v : ℕ) → Fit (declare v)
    declare_fits v = record { among = among; named = none_seen; written = none_seen; inside = none_fit; over = no_names; waits = none_awaited }

    assign_fits : (x : Name) (m : ℕ) (f : Formed) → Sees g x → FormedFits f → Fit (assign x (outer_of m f))
    assign_fits x m f s h = record { among = among; named = one_seen x s; written = none_seen; inside = outer_fits m f [] h none_fit; over = no_names; waits = none_awaited }

    fill_fits : (x : Name) (m : ℕ) (f : Formed) → Sees g x → FormedFits f → Fit (fill x (outer_of m f))
    fill_fits x m f s h = record { among = among; named = one_seen x s; written = none_seen; inside = outer_fits m f [] h none_fit; over = no_names; waits = none_awaited }

    composite_fits : (p : ℤ) (w : Word) (f : Signature) (xs : Arguments) (os : List Name) → (c : Calls fs t w f) → ArgumentsFit xs f.inputs → length os ≡ length f.outputs
        → ((x : Name) → x ∈ os → Sees g x) → Fit (composite_call p w c.place xs os)
    composite_fits p w f xs os c h e s = record {
      among = among;
      named = s;
      written = none_seen;
      inside = behind_call w f xs os c h e (λ x m. among x (s x m));
      over = no_names;
      waits = none_awaited;
    }

    called_right : (x : Name) (nd : Node) (w : Word) (es : Expressions) (f : Signature) (τ : Typ) → Sees g x → Calls fs t w f → ArgumentTypes fs t g es f.inputs → f.outputs ≡ τ ∷ []
        → Fit (call_right t x (expression nd (call w es)) w es (t.callee_of w.number))
    called_right x nd w es f τ s c h e =
        subst (λ (z : Callee). Fit (call_right t x (expression nd (call w es)) w es z)) (sym c.named)
        (composite_fits (pos 0) w f (arguments_of t es) (x ∷ []) c (arguments_fit h) (ap length (sym e)) (one_seen x s))

    scalar_right : (x : Name) {e : Expression} {b : Base} → Sees g x → HasType fs t g e b → Fit (right_of t x Shape.Scalar (value e))
    scalar_right x s (rules.of_number {nd = nd} {z = z}) = assign_fits x nd.number (form_of t (expression nd (number z))) s (none_fit, tt)
    scalar_right x s (rules.of_text {nd = nd} {bytes = z}) = assign_fits x nd.number (form_of t (expression nd (text z))) s (none_fit, tt)
    scalar_right x s (rules.of_truth {nd = nd} {b = z}) = assign_fits x nd.number (form_of t (expression nd (truth z))) s (none_fit, tt)
    scalar_right x s (rules.of_variable {nd = nd} {w = w} r) = assign_fits x nd.number (form_of t (expression nd (variable w))) s (expression_fits (rules.of_variable {nd = nd} r))
    scalar_right x s (rules.of_element {nd = nd} {w = w} {i = i} r h) = assign_fits x nd.number (form_of t (expression nd (element w i))) s (expression_fits (rules.of_element {nd = nd} r h))
    scalar_right x s (rules.of_prefixed {nd = nd} {p = p} {e = e} q h) = assign_fits x nd.number (form_of t (expression nd (prefixed p e))) s (expression_fits (rules.of_prefixed {nd = nd} q h))
    scalar_right x s (rules.of_chain {nd = nd} {os = os} {e = e} {es = es} h r) =
        assign_fits x nd.number (form_of t (expression nd (chain os (and_expression e es)))) s (expression_fits (rules.of_chain {nd = nd} h r))
    scalar_right x s (rules.of_call {nd = nd} {w = w} {es = es} {f = f} {b = b} c h e) = called_right x nd w es f (one_of b) s c h e
    scalar_right x s (rules.of_builtin {nd = nd} {w = w} {es = es} c h) =
        subst (λ (z : Callee). Fit (call_right t x (expression nd (call w es)) w es z)) (sym c.named)
        (assign_fits x nd.number (form_of t (expression nd (call w es))) s (expression_fits (rules.of_builtin {nd = nd} c h)))

    pub right_fits : (x : Name) {r : RightSide} {τ : Typ} → Sees g x → RightType fs t g r τ → Fit (right_of t x τ.shape r)
    right_fits x s (rules.of_scalar h) = scalar_right x s h
    right_fits x s (rules.of_copy {nd = nd} {w = w} {κ = κ} {b = b} r) = fill_fits x nd.number ([], compute (whole (refers t w))) s (none_fit, refers_in w (many_of κ b) r)
    right_fits x s (rules.of_list {nd = nd} {es = es} h) = fill_fits x nd.number (computes op.literal (operands_of t (expressions_of es))) s (all_fit h)
    right_fits x s (rules.of_array_call {nd = nd} {w = w} {es = es} {f = f} {κ = κ} {b = b} c h e) = called_right x nd w es f (many_of κ b) s c h e

    pub write_fits : (x : Name) {i e : Expression} {b c : Base} → Sees g x → HasType fs t g i b → HasType fs t g e c → Fit (insert x (outer t i) (outer t e))
    write_fits x {i = i} {e = e} s h r = record {
      among = among;
      named = none_seen;
      written = one_seen x s;
      inside = outer_fits (number_of i) (form_of t i) (outer_parts (outer t e ∷ [])) (expression_fits h) (outer_fits (number_of e) (form_of t e) [] (expression_fits r) none_fit);
      over = no_names;
      waits = none_awaited;
    }

    all_seen : {ws : List Word} {τs : List Typ} → ReferAll t g ws τs → ((x : Name) → x ∈ map (refers t) ws → Sees g x) × (length (map (refers t) ws) ≡ length τs)
    all_seen rules.no_name = (none_seen, refl)
    all_seen (rules.one_name {w = w} r rest) = let q = all_seen rest in (λ x m. elim (split_in m) [ inl e ↦ subst (Sees g) (sym e) (seen r) | inr i ↦ q.0 x i ], ap suc q.1)

    pub several_fits : (nd : Node) (ws : List Word) (c : Calling) (h : Scope) → StatementTyped fs t g (statement nd (T.assign_all ws c)) h
        → Fit (several t c.node.number c.name (expressions_of c.arguments) (map (refers t) ws) (t.callee_of c.name.number)) × (g ≡ h)
    several_fits nd ws c h (rules.several {f = f} names called fit) =
        let q = all_seen names in (
          subst (λ (z : Callee). Fit (several t c.node.number c.name (expressions_of c.arguments) (map (refers t) ws) z)) (sym called.named)
              (composite_fits (pos 0) c.name f (arguments_of t (expressions_of c.arguments)) (map (refers t) ws) called (arguments_fit fit) q.1 q.0),
          refl,
        )
    several_fits nd ws c h (rules.several_builtin {w = w} {f = f} r called fit) = (
      subst (λ (z : Callee). Fit (several t c.node.number c.name (expressions_of c.arguments) (refers t w ∷ []) z)) (sym called.named)
          (assign_fits (refers t w) c.node.number (call_form t c.name (built_in f) (expressions_of c.arguments) ([], []) (operands_of t (expressions_of c.arguments))) (seen r) (builtin_fits c.name ([], []) fit)),
      refl,
    )

    print_fits : (p : ℤ) (m : ℕ) (f : Formed) → FormedFits f → Fit (print p (outer_of m f))
    print_fits p m f h = record { among = among; named = none_seen; written = none_seen; inside = outer_fits m f [] h none_fit; over = no_names; waits = none_awaited }

    assert_fits : (p : ℤ) (m : ℕ) (f : Formed) → FormedFits f → Fit (assert p (outer_of m f))
    assert_fits p m f h = record { among = among; named = none_seen; written = none_seen; inside = outer_fits m f [] h none_fit; over = no_names; waits = none_awaited }

    pub called_fits : (p : ℤ) (m : ℕ) {w : Word} {es : List Expression} → CallTyped fs t g w es → Fit (call_action t p m w (expressions_of es) (t.callee_of w.number))
    called_fits p m (rules.function_called {w = w} {es = es} {f = f} c e h) =
        subst (λ (z : Callee). Fit (call_action t p m w (expressions_of es) z)) (sym c.named)
        (composite_fits p w f (arguments_of t (expressions_of es)) [] c (arguments_fit h) (ap length (sym e)) none_seen)
    called_fits p m (rules.printf_called {w = w} {nd = nd} {bytes = bytes} {es = es} c e h) =
        subst (λ (z : Callee). Fit (call_action t p m w (expressions_of (expression nd (text bytes) ∷ es)) z)) (sym c.named)
        (print_fits p m (computes (op.printf (format_of (expressions_of (expression nd (text bytes) ∷ es)))) (operands_of t (expressions_of es))) (printed_fits h))
    called_fits p m (rules.assert_called {w = w} {c = d} {m = e} c h r) =
        subst (λ (z : Callee). Fit (call_action t p m w (expressions_of (d ∷ e ∷ [])) z)) (sym c.named)
        (assert_fits p m (computes op.assert (operands_of t (expressions_of (d ∷ e ∷ []))))
        (and_fits d (and_expression e no_expressions) (expression_fits h) (and_fits e no_expressions (expression_fits r) (none_fit, tt))))

    pub when_fits : {e : Expression} {b : Base} (d : Block) → HasType fs t g e b → Fit (when (outer t e) d)
    when_fits {e = e} d h = record { among = among; named = none_seen; written = none_seen; inside = outer_fits (number_of e) (form_of t e) [] (expression_fits h) none_fit; over = no_names; waits = none_awaited }

    pub choose_fits : {e : Expression} {b : Base} (d f : Block) → HasType fs t g e b → Fit (choose (outer t e) d f)
    choose_fits {e = e} d f h = record { among = among; named = none_seen; written = none_seen; inside = outer_fits (number_of e) (form_of t e) [] (expression_fits h) none_fit; over = no_names; waits = none_awaited }

    range_fits : (low high : Expression) (step : Option Expression) (v : ℕ) (u : Option ℕ) (d : Block) {b c : Base} → HasType fs t g low b → HasType fs t g high c → StepType fs t g step
        → Fit (range (outer t low) (outer t high) (option_map (outer t) step) v u d)
    range_fits low high None v u d h r rules.no_step = record {
      among = among;
      named = none_seen;
      written = none_seen;
      inside = outer_fits (number_of low) (form_of t low) (outer_parts (outer t high ∷ [])) (expression_fits h) (outer_fits (number_of high) (form_of t high) [] (expression_fits r) none_fit);
      over = no_names;
      waits = none_awaited;
    }
    range_fits low high (Some step) v u d h r (rules.a_step q) = record {
      among = among;
      named = none_seen;
      written = none_seen;
      inside = outer_fits (number_of low) (form_of t low) (outer_parts (outer t high ∷ outer t step ∷ [])) (expression_fits h)
          (outer_fits (number_of high) (form_of t high) (outer_parts (outer t step ∷ [])) (expression_fits r) (outer_fits (number_of step) (form_of t step) [] (expression_fits q) none_fit));
      over = no_names;
      waits = none_awaited;
    }

    pub loop_fits : (v : Word) (u : Option Word) (o : Over) (d : Block) {b c : Base} → SourceType fs t g o b c → Fit (loop_action t v u o d)
    loop_fits v u (T.array w) d (rules.of_elements {κ = κ} {b = b} r) = record {
      among = among;
      named = none_seen;
      written = none_seen;
      inside = none_fit;
      over = one_named (refers t w) (refers_in w (many_of κ b) r);
      waits = none_awaited;
    }
    loop_fits v u (T.range low high step) d (rules.of_range h r q) = range_fits low high step v.number (option_map (λ x. x.number) u) d h r q

    awaited_in : (sh : Shape) (x : Name) → IsIn k x → AwaitedIn k (awaited_as sh x)
    awaited_in (Shape.Array κ) x h = h
    awaited_in Shape.Scalar x h = h

    all_awaited : {ws : List Word} {τs : List Typ} → ReferAll t g ws τs → (x : Awaited) → x ∈ map (awaited t) ws → AwaitedIn k x
    all_awaited rules.no_name x m = elim m [ ]
    all_awaited (rules.one_name {w = w} {τ = τ} r rest) x m = elim (split_in m) [
      | inl e ↦ subst (AwaitedIn k) (sym e) (awaited_in (t.shape_of w.number) (refers t w) (refers_in w τ r))
      | inr i ↦ all_awaited rest x i
    ]

    pub wait_fits : {ws : List Word} {τs : List Typ} (d : Block) → ReferAll t g ws τs → Fit (wait (map (awaited t) ws) d)
    wait_fits d r = record { among = among; named = none_seen; written = none_seen; inside = none_fit; over = no_names; waits = all_awaited r }
