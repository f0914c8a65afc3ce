-- Typed expressions and right sides have types in the core.
use Rattle.std.specs.Prelude.{◌≡◌, ℕ, List, [], ◌∷◌, ◌++◌}
use Rattle.std.proofs.Common.{inl, inr, sym, subst}
use Rattle.values.specs.Operators as op
use Rattle.language.specs.declared.tree.Base.{Base}
use Rattle.language.specs.declared.tree.Base.TheVariants.{Int, Text, Boolean}
use Rattle.language.specs.declared.tree.Keys.{Keys}
use Rattle.language.specs.declared.tree.Operator.{Operator}
use Rattle.language.specs.declared.tree.Prefix.{Prefix}
use Rattle.language.specs.declared.tree.Shape.{Shape}
use Rattle.language.specs.Kinds.{base_of_keys}
use Rattle.language.specs.Tree.{Word, Expression, expression, number, text, truth, variable, element, call, prefixed, chain, Expressions, no_expressions, and_expression}
use Rattle.language.specs.Core.{Name, here, Expr, Exprs, also, compute, read, Part, inner, calls}
use Rattle.language.specs.Members.{◌∈◌, first, later}
use Rattle.language.specs.Resolved.{refers, Formed, Operands, Arguments, form_of, operands_of, arguments_of, as_cell, as_operand, as_argument, variable_or_cell, computes, call_form, call_to, number_of, outer_of, chain_operation, prefix_operation}
use Rattle.language.specs.Table.{Table, Builtin, Callee, built_in}
use Rattle.language.specs.Scopes.{Typ, one_of, many_of, Visible, Scope, Signature, Refers, Calls}
use Rattle.language.specs.Typing as rules
use Rattle.language.specs.Typing.{Operates, Prefixes, HasType, RestType, ArgumentTypes, BuiltinType, AllHaveType}
use Rattle.language.proofs.Members.{split_in, either}
use Rattle.language.proofs.TreeNumbers.{expression_numbers, expressions_numbers}
use Rattle.language_accepted.specs.Types as types
use Rattle.language_accepted.specs.Types.{NameHas, NamesHave, no_name, one_name, ExprHas, OperatorHas, AllHave, none_left, one_more, EachHas, no_other, another, FormHas, CallHas, PartHas, PartsHave, OuterHas}
use Rattle.language_accepted.proofs.NodeTypes.{NodesTyped, always, joined, noted, passed, and_so}

module _ (fs : List Signature) (type_of : ℕ → Typ) (f : Signature) (depth : ℕ) where
  -- what is visible has its type
  abbrev pub ScopeHas : Scope → Type 0
  ScopeHas g = (v : Visible) → v ∈ g → NameHas fs type_of f depth v.refers_to v.type

  abbrev pub FormedHas : Formed → Base → Type 0
  FormedHas o b = PartsHave fs type_of f depth o.0 × FormHas fs type_of f depth o.1 (one_of b)

  abbrev pub OperandsHave : Operands → Base → Type 0
  OperandsHave o b = PartsHave fs type_of f depth o.0 × AllHave fs type_of f depth o.1 b

  abbrev pub ArgumentsHave : Arguments → List Typ → Type 0
  ArgumentsHave xs τs = PartsHave fs type_of f depth xs.0 × NamesHave fs type_of f depth xs.1 τs

  abbrev pub EachOperandHas : Operands → Type 0
  EachOperandHas o = PartsHave fs type_of f depth o.0 × EachHas fs type_of f depth o.1

  pub none_have : PartsHave fs type_of f depth []
  none_have p m = elim m [ ]

  pub both_have : (ps qs : List Part) → PartsHave fs type_of f depth ps → PartsHave fs type_of f depth qs → PartsHave fs type_of f depth (ps ++ qs)
  both_have ps qs h g p m = elim (either ps qs m) [ inl i ↦ h p i | inr i ↦ g p i ]

  one_has : (p : Part) → PartHas fs type_of f depth p → PartsHave fs type_of f depth (p ∷ [])
  one_has p h q m = elim (split_in m) [ inl e ↦ subst (PartHas fs type_of f depth) (sym e) h | inr i ↦ none_have q i ]

  pub cell_has : (n : ℕ) (o : Formed) (b : Base) → type_of n ≡ one_of b → FormedHas o b → PartsHave fs type_of f depth (as_cell n o)
  cell_has n o b e h = both_have o.0 (inner (record { node = n; form = o.1 }) ∷ []) h.0 (one_has (inner (record { node = n; form = o.1 })) (b, e, h.1))

  computed : {e : Expr} {b : Base} → FormHas fs type_of f depth (compute e) (one_of b) → ExprHas fs type_of f depth e b
  computed (types.computes h) = h

  operand_has : (n : ℕ) (o : Formed) (b : Base) → type_of n ≡ one_of b → FormedHas o b → PartsHave fs type_of f depth (as_operand n o).0 × ExprHas fs type_of f depth (as_operand n o).1 b
  operand_has n (ps, compute e) b q h = (h.0, computed h.1)
  operand_has n (ps, read a i) b q h = (cell_has n (ps, read a i) b q h, types.name_has q)

  pub shape_has : (sh : Shape) (t : Table) (w : Word) (n : ℕ) (o : Formed) (b : Base) → sh ≡ Shape.Scalar → type_of n ≡ one_of b → FormedHas o b
      → PartsHave fs type_of f depth (variable_or_cell sh t w n o).0 × NameHas fs type_of f depth (variable_or_cell sh t w n o).1 (one_of b)
  shape_has Shape.Scalar t w n o b s e h = (cell_has n o b e h, e)
  shape_has (Shape.Array κ) t w n o b s e h = absurd (cc (s))

  pub array_has : (sh : Shape) (t : Table) (w : Word) (n : ℕ) (o : Formed) (κ : Keys) (b : Base) → sh ≡ Shape.Array κ → NameHas fs type_of f depth (refers t w) (many_of κ b)
      → PartsHave fs type_of f depth (variable_or_cell sh t w n o).0 × NameHas fs type_of f depth (variable_or_cell sh t w n o).1 (many_of κ b)
  array_has (Shape.Array ι) t w n o κ b s h = (none_have, h)
  array_has Shape.Scalar t w n o κ b s h = absurd (cc (s))

  pub outer_has : (n : ℕ) (o : Formed) (τ : Typ) → type_of n ≡ τ → PartsHave fs type_of f depth o.0 → FormHas fs type_of f depth o.1 τ → OuterHas fs type_of f depth (outer_of n o)
  outer_has n o τ e h g = record { before = h; cell = subst (FormHas fs type_of f depth o.1) (sym e) g }

  pub and_has : (t : Table) (e : Expression) (es : Expressions) (b : Base) → type_of (number_of e) ≡ one_of b → FormedHas (form_of t e) b → OperandsHave (operands_of t es) b
      → OperandsHave (operands_of t (and_expression e es)) b
  and_has t e es b q h g =
      let r = operand_has (number_of e) (form_of t e) b q h in
      (both_have (as_operand (number_of e) (form_of t e)).0 (operands_of t es).0 r.0 g.0, one_more r.1 g.1)

  pub other_has : (t : Table) (e : Expression) (es : Expressions) (b : Base) → type_of (number_of e) ≡ one_of b → FormedHas (form_of t e) b → EachOperandHas (operands_of t es)
      → EachOperandHas (operands_of t (and_expression e es))
  other_has t e es b q h g =
      let r = operand_has (number_of e) (form_of t e) b q h in
      (both_have (as_operand (number_of e) (form_of t e)).0 (operands_of t es).0 r.0 g.0, another r.1 g.1)

  pub asserted_has : (t : Table) (c m : Expression) → type_of (number_of c) ≡ one_of Boolean → FormedHas (form_of t c) Boolean → type_of (number_of m) ≡ one_of Text → FormedHas (form_of t m) Text
      → FormedHas (computes op.assert (operands_of t (and_expression c (and_expression m no_expressions)))) Boolean
  asserted_has t c m q h p g =
      let r = operand_has (number_of c) (form_of t c) Boolean q h in
      let s = operand_has (number_of m) (form_of t m) Text p g in (
        both_have (as_operand (number_of c) (form_of t c)).0 ((as_operand (number_of m) (form_of t m)).0 ++ []) r.0 (both_have (as_operand (number_of m) (form_of t m)).0 [] s.0 none_have),
        types.computes (types.operator_has (types.assert_has r.1 s.1)),
      )

  -- operators
  chain_has : {o : Operator} {b c : Base} {x : Expr} {xs : Exprs} (os : List Operator) → Operates o b c → AllHave fs type_of f depth (also x xs) b → OperatorHas fs type_of f depth (chain_operation (o ∷ os)) (also x xs) c
  chain_has os rules.sum_of_numbers h = types.sum_has h
  chain_has os rules.sum_of_texts h = types.texts_have h
  chain_has os rules.difference h = types.sum_has h
  chain_has os rules.product h = types.product_has h
  chain_has os rules.quotient h = types.product_has h
  chain_has os rules.remainder h = types.product_has h
  chain_has os rules.less h = types.compare_has h
  chain_has os rules.at_most h = types.compare_has h
  chain_has os rules.greater h = types.compare_has h
  chain_has os rules.at_least h = types.compare_has h
  chain_has os (rules.equal b) h = types.equal_has b h
  chain_has os (rules.unequal b) h = types.unequal_has b h
  chain_has os rules.conjunction h = types.all_has h
  chain_has os rules.disjunction h = types.any_has h

  pub rest_chain : {t : Table} {g : Scope} {os : List Operator} {es : Expressions} {b c : Base} {x : Expr} {xs : Exprs} → RestType fs t g os es b c → AllHave fs type_of f depth (also x xs) b
      → OperatorHas fs type_of f depth (chain_operation os) (also x xs) c
  rest_chain (rules.last_operand o e) h = chain_has [] o h
  rest_chain (rules.next_operand {os = os} o e r) h = chain_has os o h

  pub prefix_has : {p : Prefix} {b : Base} {es : Exprs} → Prefixes p b → AllHave fs type_of f depth es b → OperatorHas fs type_of f depth (prefix_operation p) es b
  prefix_has rules.negative h = types.negate_has h
  prefix_has rules.inverted h = types.not_has h

  -- calls
  pub call_parts : {t : Table} (w : Word) (called : Signature) (xs : Arguments) (os : List Name) (c : Calls fs t w called) → NamesHave fs type_of f depth os called.outputs → ArgumentsHave xs called.inputs
      → CallHas fs type_of f depth (call_to w c.place xs.1 os)
  call_parts w called xs os c o h = record { signature = called; there = c.there; inputs = h.1; outputs = o }

  pub called_has : {t : Table} (w : Word) (called : Signature) (xs : Arguments) (os : List Name) (c : Calls fs t w called) → NamesHave fs type_of f depth os called.outputs → ArgumentsHave xs called.inputs
      → PartsHave fs type_of f depth (xs.0 ++ calls (call_to w c.place xs.1 os) ∷ [])
  called_has w called xs os c o h = both_have xs.0 (calls (call_to w c.place xs.1 os) ∷ []) h.0 (one_has (calls (call_to w c.place xs.1 os)) (call_parts w called xs os c o h))

module _ (fs : List Signature) (t : Table) (f : Signature) (depth : ℕ) (g : Scope) where
  abbrev Sees : (ℕ → Typ) → Type 0
  Sees type_of = ScopeHas fs type_of f depth g

  pub refers_has : {w : Word} {τ : Typ} (type_of : ℕ → Typ) → Refers g t w τ → Sees type_of → NameHas fs type_of f depth (refers t w) τ
  refers_has type_of r h =
      subst (λ (x : Name). NameHas fs type_of f depth x _) (sym r.named) (subst (λ (τ : Typ). NameHas fs type_of f depth r.variable.refers_to τ) r.typed (h r.variable r.visible))

  -- an expression: its number has its type, and so has what it is
  abbrev pub ExpressionHas : Expression → Base → (ℕ → Typ) → Type 0
  ExpressionHas e b type_of = (type_of (number_of e) ≡ one_of b) × (Sees type_of → FormedHas fs type_of f depth (form_of t e) b)

  abbrev pub OperandsFit : Expressions → Base → (ℕ → Typ) → Type 0
  OperandsFit es b type_of = Sees type_of → OperandsHave fs type_of f depth (operands_of t es) b

  abbrev pub ArgumentsFit : Expressions → List Typ → (ℕ → Typ) → Type 0
  ArgumentsFit es τs type_of = Sees type_of → ArgumentsHave fs type_of f depth (arguments_of t es) τs

  abbrev pub BuiltinFits : Builtin → Expressions → Base → (ℕ → Typ) → Type 0
  BuiltinFits h es b type_of = (w : Word) (xs : Arguments) → Sees type_of → FormedHas fs type_of f depth (call_form t w (built_in h) es xs (operands_of t es)) b

  no_operands : {b : Base} → NodesTyped [] (OperandsFit no_expressions b)
  no_operands = always (λ type_of s. (none_have fs type_of f depth, none_left))

  one_operand : (e : Expression) (es : Expressions) (b : Base) → NodesTyped (expression_numbers e) (ExpressionHas e b) → NodesTyped (expressions_numbers es) (OperandsFit es b)
      → NodesTyped (expressions_numbers (and_expression e es)) (OperandsFit (and_expression e es) b)
  one_operand e es b h r = and_so (joined h r) (λ type_of q s. and_has fs type_of f depth t e es b q.0.0 (q.0.1 s) (q.1 s))

  -- an argument that is no array
  scalar_fits : (type_of : ℕ → Typ) {e : Expression} {b : Base} → HasType fs t g e b → type_of (number_of e) ≡ one_of b → FormedHas fs type_of f depth (form_of t e) b
      → PartsHave fs type_of f depth (as_argument t e (form_of t e)).0 × NameHas fs type_of f depth (as_argument t e (form_of t e)).1 (one_of b)
  scalar_fits type_of (rules.of_variable {nd = nd} {w = w} {b = b} r) q h = shape_has fs type_of f depth (t.shape_of w.number) t w nd.number (form_of t (expression nd (variable w))) b r.shaped q h
  scalar_fits type_of (rules.of_number {nd = nd} {z = z}) q h = (cell_has fs type_of f depth nd.number (form_of t (expression nd (number z))) Int q h, q)
  scalar_fits type_of (rules.of_text {nd = nd} {bytes = z}) q h = (cell_has fs type_of f depth nd.number (form_of t (expression nd (text z))) Text q h, q)
  scalar_fits type_of (rules.of_truth {nd = nd} {b = z}) q h = (cell_has fs type_of f depth nd.number (form_of t (expression nd (truth z))) Boolean q h, q)
  scalar_fits type_of (rules.of_element {nd = nd} {w = w} {i = i} {b = b} r k) q h = (cell_has fs type_of f depth nd.number (form_of t (expression nd (element w i))) b q h, q)
  scalar_fits type_of (rules.of_prefixed {nd = nd} {p = p} {e = e} {b = b} o k) q h = (cell_has fs type_of f depth nd.number (form_of t (expression nd (prefixed p e))) b q h, q)
  scalar_fits type_of (rules.of_chain {nd = nd} {os = os} {e = e} {es = es} {c = c} k r) q h = (cell_has fs type_of f depth nd.number (form_of t (expression nd (chain os (and_expression e es)))) c q h, q)
  scalar_fits type_of (rules.of_call {nd = nd} {w = w} {es = es} {b = b} c k e) q h = (cell_has fs type_of f depth nd.number (form_of t (expression nd (call w es))) b q h, q)
  scalar_fits type_of (rules.of_builtin {nd = nd} {w = w} {es = es} {b = b} c k) q h = (cell_has fs type_of f depth nd.number (form_of t (expression nd (call w es))) b q h, q)

  one_output : (type_of : ℕ → Typ) (n : ℕ) (b : Base) (τs : List Typ) → τs ≡ one_of b ∷ [] → type_of n ≡ one_of b → NamesHave fs type_of f depth (here n ∷ []) τs
  one_output type_of n b τs e q = subst (NamesHave fs type_of f depth (here n ∷ [])) (sym e) (one_name q no_name)

  mutual
    pub expression_typed : {e : Expression} {b : Base} → HasType fs t g e b → NodesTyped (expression_numbers e) (ExpressionHas e b)
    expression_typed (rules.of_number {nd = nd}) = noted nd.number (one_of Int) (always (λ type_of s. (none_have fs type_of f depth, types.computes (types.literal_has types.a_number))))
    expression_typed (rules.of_text {nd = nd}) = noted nd.number (one_of Text) (always (λ type_of s. (none_have fs type_of f depth, types.computes (types.literal_has types.a_text))))
    expression_typed (rules.of_truth {nd = nd}) = noted nd.number (one_of Boolean) (always (λ type_of s. (none_have fs type_of f depth, types.computes (types.literal_has types.a_truth))))
    expression_typed (rules.of_variable {nd = nd} {w = w} {b = b} r) =
        noted nd.number (one_of b) (passed w.number (always (λ type_of s. (none_have fs type_of f depth, types.computes (types.name_has {x = refers t w} (refers_has type_of r s))))))
    expression_typed (rules.of_element {nd = nd} {w = w} {i = i} {κ = κ} {b = b} r h) =
        noted nd.number (one_of b) (passed w.number (and_so (expression_typed h) (λ type_of q s. (
          cell_has fs type_of f depth (number_of i) (form_of t i) (base_of_keys κ) q.0 (q.1 s),
          types.reads {a = refers t w} κ (refers_has type_of r s) q.0,
        ))))
    expression_typed (rules.of_prefixed {nd = nd} {e = e} {b = b} p h) =
        noted nd.number (one_of b) (and_so (expression_typed h) (λ type_of q s. (
        let r = operand_has fs type_of f depth (number_of e) (form_of t e) b q.0 (q.1 s) in
        (r.0, types.computes (types.operator_has (prefix_has fs type_of f depth p (one_more r.1 none_left)))))))
    expression_typed (rules.of_chain {nd = nd} {os = os} {e = e} {es = es} {b = b} {c = c} h r) =
        noted nd.number (one_of c) (and_so (one_operand e es b (expression_typed h) (rest_typed r)) (λ type_of q s. (
        let o = q s in (o.0, types.computes (types.operator_has (rest_chain fs type_of f depth r o.1))))))
    expression_typed (rules.of_call {nd = nd} {w = w} {es = es} {f = called} {b = b} c h e) =
        noted nd.number (one_of b) (and_so (noted w.number (one_of b) (arguments_typed h)) (λ type_of q s.
        subst (λ (z : Callee). FormedHas fs type_of f depth (call_form t w z es (arguments_of t es) (operands_of t es)) b) (sym c.named)
        (called_has fs type_of f depth w called (arguments_of t es) (here w.number ∷ []) c (one_output type_of w.number b called.outputs e q.0) (q.1 s), types.computes (types.name_has {x = here w.number} q.0))))
    expression_typed (rules.of_builtin {nd = nd} {w = w} {es = es} {f = called} {b = b} c h) =
        noted nd.number (one_of b) (passed w.number (and_so (builtin_typed h) (λ type_of q s.
        subst (λ (z : Callee). FormedHas fs type_of f depth (call_form t w z es (arguments_of t es) (operands_of t es)) b) (sym c.named) (q w (arguments_of t es) s))))

    rest_typed : {os : List Operator} {es : Expressions} {b c : Base} → RestType fs t g os es b c → NodesTyped (expressions_numbers es) (OperandsFit es b)
    rest_typed (rules.last_operand {e = e} {b = b} o h) = one_operand e no_expressions b (expression_typed h) no_operands
    rest_typed (rules.next_operand {e = e} {es = es} {b = b} o h r) = one_operand e es b (expression_typed h) (rest_typed r)

    pub arguments_typed : {es : Expressions} {τs : List Typ} → ArgumentTypes fs t g es τs → NodesTyped (expressions_numbers es) (ArgumentsFit es τs)
    arguments_typed rules.no_argument = always (λ type_of s. (none_have fs type_of f depth, no_name))
    arguments_typed (rules.scalar_argument {e = e} {es = es} {b = b} {τs = τs} h r) = and_so (joined (expression_typed h) (arguments_typed r)) (λ type_of q s. (
        let a = scalar_fits type_of h q.0.0 (q.0.1 s) in
        let x = q.1 s in
        (both_have fs type_of f depth (as_argument t e (form_of t e)).0 (arguments_of t es).0 a.0 x.0, one_name a.1 x.1)))
    arguments_typed (rules.array_argument {nd = nd} {w = w} {es = es} {κ = κ} {b = b} {τs = τs} h r) = passed nd.number (passed w.number (and_so (arguments_typed r) (λ type_of q s. (
        let a = array_has fs type_of f depth (t.shape_of w.number) t w nd.number (form_of t (expression nd (variable w))) κ b h.shaped (refers_has type_of h s) in
        let x = q s in
        (both_have fs type_of f depth (as_argument t (expression nd (variable w)) (form_of t (expression nd (variable w)))).0 (arguments_of t es).0 a.0 x.0, one_name a.1 x.1)))))

    pub builtin_typed : {h : Builtin} {es : Expressions} {b : Base} → BuiltinType fs t g h es b → NodesTyped (expressions_numbers es) (BuiltinFits h es b)
    builtin_typed (rules.of_strcat h) = and_so (all_typed h) (λ type_of q w xs s. (let o = q s in (o.0, types.computes (types.operator_has (types.join_has o.1)))))
    builtin_typed (rules.of_fromint {e = e} h) = and_so (one_operand e no_expressions Int (expression_typed h) no_operands) (λ type_of q w xs s. (let o = q s in (o.0, types.computes (types.operator_has (types.from_int_has o.1)))))
    builtin_typed (rules.of_toint {e = e} h) = and_so (one_operand e no_expressions Text (expression_typed h) no_operands) (λ type_of q w xs s. (let o = q s in (o.0, types.computes (types.operator_has (types.to_int_has o.1)))))
    builtin_typed (rules.of_size {nd = nd} {w = a} {κ = κ} {b = b} r) = passed nd.number (passed a.number (always (λ type_of w xs s. (none_have fs type_of f depth, types.computes (types.operator_has (types.size_has κ b (refers_has type_of r s)))))))

    pub all_typed : {es : Expressions} {b : Base} → AllHaveType fs t g es b → NodesTyped (expressions_numbers es) (OperandsFit es b)
    all_typed rules.none_left = no_operands
    all_typed (rules.one_more {e = e} {es = es} {b = b} h r) = one_operand e es b (expression_typed h) (all_typed r)

  -- what is printed
  pub printed_typed : {es : Expressions} {τs : List Typ} → ((τ : Typ) → τ ∈ τs → τ.shape ≡ Shape.Scalar) → ArgumentTypes fs t g es τs
      → NodesTyped (expressions_numbers es) (λ type_of. Sees type_of → EachOperandHas fs type_of f depth (operands_of t es))
  printed_typed one rules.no_argument = always (λ type_of s. (none_have fs type_of f depth, no_other))
  printed_typed one (rules.scalar_argument {e = e} {es = es} {b = b} h r) =
      and_so (joined (expression_typed h) (printed_typed (λ τ m. one τ (later m)) r)) (λ type_of q s. other_has fs type_of f depth t e es b q.0.0 (q.0.1 s) (q.1 s))
  printed_typed one (rules.array_argument {κ = κ} {b = b} h r) = let e : Shape.Array κ ≡ Shape.Scalar = one (many_of κ b) first in absurd (cc (e))
