-- Typed statements and bodies have types in the core.
use Rattle.std.specs.Prelude.{◌≡◌, ℕ, suc, ℤ, pos, List, [], ◌∷◌, ◌++◌, map, Option, Some, None, option_map, option_to_list, refl}
use Rattle.std.proofs.Common.{inl, inr, sym, ap, ◌∙◌, subst}
use Rattle.values.specs.declared.format.FormatPiece.{FormatPiece}
use Rattle.values.specs.Operators as op
use Rattle.language.specs.declared.tree.Base.{Base}
use Rattle.language.specs.declared.tree.Base.TheVariants.{Int, Text, Boolean}
use Rattle.language.specs.declared.tree.Keys.{Keys}
use Rattle.language.specs.declared.tree.Keys.TheVariants.{Numbers}
use Rattle.language.specs.declared.tree.Shape.{Shape}
use Rattle.language.specs.Kinds.{base_of_keys}
use Rattle.language.specs.Tree as T
use Rattle.language.specs.Tree.{Word, Node, Declaration, Expression, expression, number, text, truth, variable, element, call, prefixed, chain, Expressions, no_expressions, and_expression, expressions_of, RightSide, value, list, Calling, Over, Statement, statement, Command, choice, choice_else, loop, waits, Body, body, Statements, no_statements, and_statement}
use Rattle.language.specs.Core.{Owned, local, input, output, Name, here, whole, compute, Cell, Outer, Awaited, Action, declare, assign, fill, stmt, Block, stmts}
use Rattle.language.specs.Members.{◌∈◌, first, later}
use Rattle.language.specs.Resolved.{refers, Formed, Arguments, form_of, operands_of, arguments_of, computes, call_form, number_of, outer_of, outer, composite_call, call_right, right_of, call_action, several, awaited, awaited_as, loop_action, format_of, block_of, block_in, with_statement}
use Rattle.language.specs.Table.{Table, Callee, built_in}
use Rattle.language.specs.Scopes.{Typ, one_of, many_of, declared_type, Visible, Scope, deeper, Signature, Calls}
use Rattle.language.specs.Typing as rules
use Rattle.language.specs.Typing.{HasType, ArgumentTypes, RightType, ReferAll, Declares, LoopScope, StepType, SourceType, CallTyped, StatementTyped, StatementsTyped, BodyTyped, wanted}
use Rattle.language.proofs.Members.{split_in, either}
use Rattle.language.proofs.TreeNumbers.{expression_numbers, expressions_numbers}
use Rattle.language_laws.proofs.TreeNodes.{words_numbers, right_numbers, over_numbers, word_numbers, statement_numbers, body_numbers, statements_numbers}
use Rattle.language_laws.specs.Offsets.{maybe_numbers}
use Rattle.language_accepted.specs.Types as types
use Rattle.language_accepted.specs.Types.{OwnedHas, NameHas, NamesHave, no_name, one_name, FormHas, CallHas, PartsHave, OuterHas, OutersHave, AwaitedHas, TurnHas, BlockHas, no_statement, a_statement, ActionHas, DeclaredAs, statement_declarations, body_declarations, statements_declarations}
use Rattle.language_accepted.proofs.NodeTypes.{NodesTyped, always, nothing, joined, noted, passed, all_passed, and_so}
use Rattle.language_accepted.proofs.Typed.{StmtHas}
use Rattle.language_accepted.proofs.TypedParts.{ScopeHas, FormedHas, ArgumentsHave, outer_has, call_parts, refers_has, asserted_has, ExpressionHas, expression_typed, arguments_typed, builtin_typed, all_typed, printed_typed}

-- SCOPES

module _ (fs : List Signature) (type_of : ℕ → Typ) (f : Signature) where
  further_has : (depth up : ℕ) (what : Owned) (τ : Typ) → OwnedHas fs type_of f depth up what τ → OwnedHas fs type_of f (suc depth) (suc up) what τ
  further_has depth up (local n) τ h = h
  further_has depth up (input i) τ h = (ap (λ (n : ℕ). suc n) h.0, h.1)
  further_has depth up (output i) τ h = (ap (λ (n : ℕ). suc n) h.0, h.1)

  pub deeper_has : (depth : ℕ) (g : Scope) → ScopeHas fs type_of f depth g → ScopeHas fs type_of f (suc depth) (deeper g)
  deeper_has depth [] h v m = elim m [ ]
  deeper_has depth (u ∷ g) h v m = elim (split_in m) [
    | inl e ↦ subst (λ (z : Visible). NameHas fs type_of f (suc depth) z.refers_to z.type) (sym e) (further_has depth u.refers_to.up u.refers_to.what u.type (h u first))
    | inr i ↦ deeper_has depth g (λ z k. h z (later k)) v i
  ]

  pub own_has : (depth : ℕ) {g h : Scope} {w : Word} {τ : Typ} → Declares g w τ h → type_of w.number ≡ τ → ScopeHas fs type_of f depth g → ScopeHas fs type_of f depth h
  own_has depth {w = w} {τ = τ} (rules.fresh unseen) e s v m = elim (split_in m) [
    | inl q ↦ subst (λ (z : Visible). NameHas fs type_of f depth z.refers_to z.type) (sym q) e
    | inr i ↦ s v i
  ]

  -- ACTIONS

  abbrev Stmt : ℕ → Action → Type 0
  Stmt depth a = StmtHas fs type_of f depth a

  no_outers : (depth : ℕ) (o : Outer) → o ∈ [] → OuterHas fs type_of f depth o
  no_outers depth o m = elim m [ ]

  one_outer : (depth : ℕ) (o : Outer) → OuterHas fs type_of f depth o → (z : Outer) → z ∈ (o ∷ []) → OuterHas fs type_of f depth z
  one_outer depth o h z m = elim (split_in m) [ inl e ↦ subst (OuterHas fs type_of f depth) (sym e) h | inr i ↦ elim i [ ] ]

  two_outers : (depth : ℕ) (o p : Outer) → OuterHas fs type_of f depth o → OuterHas fs type_of f depth p → (z : Outer) → z ∈ (o ∷ p ∷ []) → OuterHas fs type_of f depth z
  two_outers depth o p h g z m = elim (split_in m) [ inl e ↦ subst (OuterHas fs type_of f depth) (sym e) h | inr i ↦ one_outer depth p g z i ]

  declare_has : (depth v : ℕ) → Stmt depth (declare v)
  declare_has depth v = record { outer = no_outers depth; action = types.of_declare }

  assign_has : (depth n : ℕ) (o : Formed) (b : Base) (x : Name) → type_of n ≡ one_of b → FormedHas fs type_of f depth o b → NameHas fs type_of f depth x (one_of b) → Stmt depth (assign x (outer_of n o))
  assign_has depth n o b x e h s = record { outer = one_outer depth (outer_of n o) (outer_has fs type_of f depth n o (one_of b) e h.0 h.1); action = types.of_assign {x = x} {o = outer_of n o} s e }

  fill_has : (depth n : ℕ) (o : Formed) (κ : Keys) (b : Base) (x : Name) → type_of n ≡ many_of κ b → PartsHave fs type_of f depth o.0 → FormHas fs type_of f depth o.1 (many_of κ b) → NameHas fs type_of f depth x (many_of κ b)
      → Stmt depth (fill x (outer_of n o))
  fill_has depth n o κ b x e h g s = record { outer = one_outer depth (outer_of n o) (outer_has fs type_of f depth n o (many_of κ b) e h g); action = types.of_fill {x = x} {o = outer_of n o} s e }

  composite_has : (depth : ℕ) {t : Table} (p : ℤ) (w : Word) (called : Signature) (xs : Arguments) (os : List Name) (c : Calls fs t w called) → NamesHave fs type_of f depth os called.outputs
      → ArgumentsHave fs type_of f depth xs called.inputs → Stmt depth (composite_call p w c.place xs os)
  composite_has depth p w called xs os c o h = record { outer = no_outers depth; action = types.of_call h.0 (call_parts fs type_of f depth w called xs os c o h) }

  pub put : {depth : ℕ} (at n : ℕ) {a : Action} {b : Block} → Stmt depth a → BlockHas fs type_of f depth b → BlockHas fs type_of f depth (stmts (stmt at n a) b)
  put at n h r = a_statement h.outer h.action r

-- RIGHT SIDES AND CALLS

module _ (fs : List Signature) (t : Table) (f : Signature) (depth : ℕ) (g : Scope) where
  abbrev Sees : (ℕ → Typ) → Type 0
  Sees type_of = ScopeHas fs type_of f depth g

  abbrev pub RightHas : Name → Typ → RightSide → (ℕ → Typ) → Type 0
  RightHas x τ r type_of = Sees type_of → NameHas fs type_of f depth x τ → StmtHas fs type_of f depth (right_of t x τ.shape r)

  assigned : (x : Name) (e : Expression) {b : Base} → NodesTyped (expression_numbers e) (ExpressionHas fs t f depth g e b)
      → NodesTyped (expression_numbers e) (λ type_of. Sees type_of → NameHas fs type_of f depth x (one_of b) → StmtHas fs type_of f depth (assign x (outer t e)))
  assigned x e {b} h = and_so h (λ type_of q s k. assign_has fs type_of f depth (number_of e) (form_of t e) b x q.0 (q.1 s) k)

  called_right : (x : Name) (nd : Node) (w : Word) (es : Expressions) (called : Signature) (τ : Typ) → Calls fs t w called → ArgumentTypes fs t g es called.inputs → called.outputs ≡ τ ∷ []
      → NodesTyped (nd.number ∷ w.number ∷ expressions_numbers es) (λ type_of. Sees type_of → NameHas fs type_of f depth x τ → StmtHas fs type_of f depth (call_right t x (expression nd (call w es)) w es (t.callee_of w.number)))
  called_right x nd w es called τ c h e = passed nd.number (passed w.number (and_so (arguments_typed fs t f depth g h) (λ type_of q s k.
      subst (λ (z : Callee). StmtHas fs type_of f depth (call_right t x (expression nd (call w es)) w es z)) (sym c.named)
      (composite_has fs type_of f depth (pos 0) w called (arguments_of t es) (x ∷ []) c (subst (NamesHave fs type_of f depth (x ∷ [])) (sym e) (one_name k no_name)) (q s)))))

  scalar_right : (x : Name) {e : Expression} {b : Base} → HasType fs t g e b → NodesTyped (expression_numbers e) (RightHas x (one_of b) (value e))
  scalar_right x (rules.of_number {nd = nd} {z = z}) = assigned x (expression nd (number z)) (expression_typed fs t f depth g (rules.of_number {nd = nd} {z = z}))
  scalar_right x (rules.of_text {nd = nd} {bytes = z}) = assigned x (expression nd (text z)) (expression_typed fs t f depth g (rules.of_text {nd = nd} {bytes = z}))
  scalar_right x (rules.of_truth {nd = nd} {b = z}) = assigned x (expression nd (truth z)) (expression_typed fs t f depth g (rules.of_truth {nd = nd} {b = z}))
  scalar_right x (rules.of_variable {nd = nd} {w = w} r) = assigned x (expression nd (variable w)) (expression_typed fs t f depth g (rules.of_variable {nd = nd} {w = w} r))
  scalar_right x (rules.of_element {nd = nd} {w = w} {i = i} r h) = assigned x (expression nd (element w i)) (expression_typed fs t f depth g (rules.of_element {nd = nd} {w = w} {i = i} r h))
  scalar_right x (rules.of_prefixed {nd = nd} {p = p} {e = e} q h) = assigned x (expression nd (prefixed p e)) (expression_typed fs t f depth g (rules.of_prefixed {nd = nd} {p = p} {e = e} q h))
  scalar_right x (rules.of_chain {nd = nd} {os = os} {e = e} {es = es} h r) =
      assigned x (expression nd (chain os (and_expression e es))) (expression_typed fs t f depth g (rules.of_chain {nd = nd} {os = os} {e = e} {es = es} h r))
  scalar_right x (rules.of_call {nd = nd} {w = w} {es = es} {f = called} {b = b} c h e) = called_right x nd w es called (one_of b) c h e
  scalar_right x (rules.of_builtin {nd = nd} {w = w} {es = es} {f = called} {b = b} c h) =
      and_so (assigned x (expression nd (call w es)) {b = b} (expression_typed fs t f depth g (rules.of_builtin {nd = nd} {w = w} {es = es} c h))) (λ type_of q s k.
      subst (λ (z : Callee). StmtHas fs type_of f depth (call_right t x (expression nd (call w es)) w es z)) (sym c.named) (q s k))

  pub right_typed : (x : Name) {r : RightSide} {τ : Typ} → RightType fs t g r τ → NodesTyped (right_numbers r) (RightHas x τ r)
  right_typed x (rules.of_scalar h) = scalar_right x h
  right_typed x (rules.of_copy {nd = nd} {w = w} {κ = κ} {b = b} r) = and_so (noted nd.number (many_of κ b) (passed w.number nothing)) (λ type_of q s k.
      fill_has fs type_of f depth nd.number ([], compute (whole (refers t w))) κ b x q.0 (λ p m. elim m [ ]) (types.copies (refers_has fs t f depth g type_of r s)) k)
  right_typed x (rules.of_list {nd = nd} {es = es} {b = b} h) = and_so (noted nd.number (many_of Numbers b) (all_typed fs t f depth g h)) (λ type_of q s k. (
      let o = q.1 s in
      fill_has fs type_of f depth nd.number (computes op.literal (operands_of t (expressions_of es))) Numbers b x q.0 o.0 (types.lists o.1) k))
  right_typed x (rules.of_array_call {nd = nd} {w = w} {es = es} {f = called} {κ = κ} {b = b} c h e) = called_right x nd w es called (many_of κ b) c h e

  names_have : (type_of : ℕ → Typ) {ws : List Word} {τs : List Typ} → ReferAll t g ws τs → Sees type_of → NamesHave fs type_of f depth (map (refers t) ws) τs
  names_have type_of rules.no_name s = no_name
  names_have type_of (rules.one_name r rs) s = one_name (refers_has fs t f depth g type_of r s) (names_have type_of rs s)

  awaited_has : (type_of : ℕ → Typ) {ws : List Word} {τs : List Typ} → ReferAll t g ws τs → Sees type_of → (x : Awaited) → x ∈ map (awaited t) ws → AwaitedHas fs type_of f depth x
  awaited_has type_of rules.no_name s x m = elim m [ ]
  awaited_has type_of (rules.one_name {w = w} {τ = τ} r rs) s x m = elim (split_in m) [
    | inl e ↦ subst (AwaitedHas fs type_of f depth) (sym e) (subst (λ (z : Shape). AwaitedHas fs type_of f depth (awaited_as z (refers t w))) (sym r.shaped) (by τ.base τ.shape (refers_has fs t f depth g type_of r s)))
    | inr i ↦ awaited_has type_of rs s x i
  ]
    where
      by : (b : Base) (sh : Shape) → NameHas fs type_of f depth (refers t w) (record { base = b; shape = sh }) → AwaitedHas fs type_of f depth (awaited_as sh (refers t w))
      by b Shape.Scalar h = types.awaits_one b h
      by b (Shape.Array κ) h = types.awaits_many κ b h

  wanted_one : (ps : List FormatPiece) (τ : Typ) → τ ∈ wanted ps → τ.shape ≡ Shape.Scalar
  wanted_one [] τ m = elim m [ ]
  wanted_one (FormatPiece.Byte c ∷ ps) τ m = wanted_one ps τ m
  wanted_one (FormatPiece.Number ∷ ps) τ m = elim (split_in m) [ inl e ↦ ap (λ (z : Typ). z.shape) e | inr i ↦ wanted_one ps τ i ]
  wanted_one (FormatPiece.Text ∷ ps) τ m = elim (split_in m) [ inl e ↦ ap (λ (z : Typ). z.shape) e | inr i ↦ wanted_one ps τ i ]

  call_typed : (p : ℤ) (n : ℕ) {w : Word} {es : List Expression} → CallTyped fs t g w es
      → NodesTyped (n ∷ w.number ∷ expressions_numbers (expressions_of es)) (λ type_of. Sees type_of → StmtHas fs type_of f depth (call_action t p n w (expressions_of es) (t.callee_of w.number)))
  call_typed p n (rules.function_called {w = w} {es = es} {f = called} c e h) = passed n (passed w.number (and_so (arguments_typed fs t f depth g h) (λ type_of q s.
      subst (λ (z : Callee). StmtHas fs type_of f depth (call_action t p n w (expressions_of es) z)) (sym c.named)
      (composite_has fs type_of f depth p w called (arguments_of t (expressions_of es)) [] c (subst (NamesHave fs type_of f depth []) (sym e) no_name) (q s)))))
  call_typed p n (rules.printf_called {w = w} {nd = nd} {bytes = bytes} {es = es} {ps = ps} c e h) =
      and_so (noted n (one_of Text) (passed w.number (passed nd.number (printed_typed fs t f depth g (wanted_one ps) h)))) (λ type_of q s. (
      let o = q.1 s in
      let form : Formed = computes (op.printf (format_of (expressions_of (expression nd (text bytes) ∷ es)))) (operands_of t (expressions_of es)) in
      subst (λ (z : Callee). StmtHas fs type_of f depth (call_action t p n w (expressions_of (expression nd (text bytes) ∷ es)) z)) (sym c.named)
      (record { outer = one_outer fs type_of f depth (outer_of n form) (outer_has fs type_of f depth n form (one_of Text) q.0 o.0 (types.computes (types.operator_has (types.printf_has o.1)))); action = types.of_print {o = outer_of n form} q.0 })))
  call_typed p n (rules.assert_called {w = w} {c = d} {m = e} c h r) =
      and_so (noted n (one_of Boolean) (passed w.number (joined (expression_typed fs t f depth g h) (joined (expression_typed fs t f depth g r) nothing)))) (λ type_of q s. (
      let o = asserted_has fs type_of f depth t d e q.1.0.0 (q.1.0.1 s) q.1.1.0.0 (q.1.1.0.1 s) in
      let form : Formed = computes op.assert (operands_of t (expressions_of (d ∷ e ∷ []))) in
      subst (λ (z : Callee). StmtHas fs type_of f depth (call_action t p n w (expressions_of (d ∷ e ∷ [])) z)) (sym c.named)
      (record { outer = one_outer fs type_of f depth (outer_of n form) (outer_has fs type_of f depth n form (one_of Boolean) q.0 o.0 o.1); action = types.of_assert {o = outer_of n form} q.0 })))

  -- LOOPS

  -- what a loop goes over gives values of a type, under keys of a type
  abbrev OverHas : Over → Base → Base → (ℕ → Typ) → Type 0
  OverHas (T.array w) β γ type_of = (κ : Keys) × (γ ≡ base_of_keys κ) × NameHas fs type_of f depth (refers t w) (many_of κ β)
  OverHas (T.range low high step) β γ type_of = (β ≡ Int) × (γ ≡ Int) × ((o : Outer) → o ∈ (outer t low ∷ outer t high ∷ option_to_list (option_map (outer t) step)) → OuterHas fs type_of f depth o × (type_of o.cell.node ≡ one_of Int))

  number_outer : (type_of : ℕ → Typ) (e : Expression) → ExpressionHas fs t f depth g e Int type_of → Sees type_of → OuterHas fs type_of f depth (outer t e) × (type_of (outer t e).cell.node ≡ one_of Int)
  number_outer type_of e h s = let r = h.1 s in (outer_has fs type_of f depth (number_of e) (form_of t e) (one_of Int) h.0 r.0 r.1, h.0)

  step_typed : {step : Option Expression} → StepType fs t g step
      → NodesTyped (maybe_numbers expression_numbers step) (λ type_of. Sees type_of → (o : Outer) → o ∈ option_to_list (option_map (outer t) step) → OuterHas fs type_of f depth o × (type_of o.cell.node ≡ one_of Int))
  step_typed rules.no_step = always (λ type_of s o m. elim m [ ])
  step_typed (rules.a_step {e = e} h) = and_so (expression_typed fs t f depth g h) (λ type_of q s o m. elim (split_in m) [
    | inl k ↦ subst (λ (z : Outer). OuterHas fs type_of f depth z × (type_of z.cell.node ≡ one_of Int)) (sym k) (number_outer type_of e q s)
    | inr i ↦ elim i [ ]
  ])

  source_typed : {o : Over} {β γ : Base} → SourceType fs t g o β γ → NodesTyped (over_numbers o) (λ type_of. Sees type_of → OverHas o β γ type_of)
  source_typed (rules.of_elements {w = w} {κ = κ} r) = passed w.number (always (λ type_of s. (κ, refl, refers_has fs t f depth g type_of r s)))
  source_typed (rules.of_range {low = low} {high = high} {step = step} h k r) =
      and_so (joined (expression_typed fs t f depth g h) (joined (expression_typed fs t f depth g k) (step_typed r))) (λ type_of q s. (
        refl,
        refl,
        λ o m. elim (split_in m) [
          | inl e ↦ subst (λ (z : Outer). OuterHas fs type_of f depth z × (type_of z.cell.node ≡ one_of Int)) (sym e) (number_outer type_of low q.0 s)
          | inr i ↦ elim (split_in i) [
            | inl e ↦ subst (λ (z : Outer). OuterHas fs type_of f depth z × (type_of z.cell.node ≡ one_of Int)) (sym e) (number_outer type_of high q.1.0 s)
            | inr j ↦ q.1.1 s o j
          ]
        ],
      ))

  in_cells : {c : Cell} (os : List Outer) → c ∈ map (λ (o : Outer). o.cell) os → (o : Outer) × (o ∈ os) × (o.cell ≡ c)
  in_cells [] m = elim m [ ]
  in_cells (o ∷ os) m = elim (split_in m) [ inl e ↦ (o, first, sym e) | inr i ↦ (let r = in_cells os i in (r.0, later r.1, r.2)) ]

  loop_has : (type_of : ℕ → Typ) (v : Word) (k : Option Word) (o : Over) (β γ : Base) (b : Block) → OverHas o β γ type_of → type_of v.number ≡ one_of β → TurnHas fs type_of f γ (option_map (λ (x : Word). x.number) k)
      → BlockHas fs type_of f (suc depth) b → StmtHas fs type_of f depth (loop_action t v k o b)
  loop_has type_of v k (T.array w) β γ b h e u r = record {
    outer = no_outers fs type_of f depth;
    action = types.of_each {a = refers t w} h.0 h.2 e (subst (λ (z : Base). TurnHas fs type_of f z (option_map (λ (x : Word). x.number) k)) h.1 u) r;
  }
  loop_has type_of v k (T.range low high step) β γ b h e u r = record {
    outer = λ o m. (h.2 o m).0;
    action = types.of_range (λ c m. (let q = in_cells (outer t low ∷ outer t high ∷ option_to_list (option_map (outer t) step)) m in subst (λ (z : Cell). type_of z.node ≡ one_of Int) q.2 (h.2 q.0 q.1).1))
        (e ∙ ap (λ (z : Base). one_of z) h.0) (subst (λ (z : Base). TurnHas fs type_of f z (option_map (λ (x : Word). x.number) k)) h.1 u) r;
  }

-- what a loop's body sees
module _ (fs : List Signature) (t : Table) (f : Signature) where
  loop_scope : (depth : ℕ) {g h : Scope} {v : Word} {β γ : Base} {k : Option Word} → LoopScope g v β k γ h → (type_of : ℕ → Typ) → type_of v.number ≡ one_of β → TurnHas fs type_of f γ (option_map (λ (x : Word). x.number) k)
      → ScopeHas fs type_of f depth g → ScopeHas fs type_of f (suc depth) h
  loop_scope depth {g} (rules.value_only d) type_of e u s = own_has fs type_of f (suc depth) d e (deeper_has fs type_of f depth g s)
  loop_scope depth {g} (rules.with_key {k = k} d c) type_of e u s = own_has fs type_of f (suc depth) c (u k.number refl) (own_has fs type_of f (suc depth) d e (deeper_has fs type_of f depth g s))

  key_typed : (γ : Base) (k : Option Word) → NodesTyped (maybe_numbers word_numbers k) (λ type_of. TurnHas fs type_of f γ (option_map (λ (x : Word). x.number) k))
  key_typed γ None = always (λ type_of n e. absurd (cc (e)))
  key_typed γ (Some k) = and_so (noted k.number (one_of γ) nothing) (λ type_of q n e. (let same : k.number ≡ n = cc (e) in subst (λ (m : ℕ). type_of m ≡ one_of γ) same q.0))

  -- STATEMENTS

  none_declared : (type_of : ℕ → Typ) → DeclaredAs type_of []
  none_declared type_of d m = elim m [ ]

  one_declared : (type_of : ℕ → Typ) (d : Declaration) → type_of d.name.number ≡ declared_type d → DeclaredAs type_of (d ∷ [])
  one_declared type_of d e z m = elim (split_in m) [ inl q ↦ subst (λ (y : Declaration). type_of y.name.number ≡ declared_type y) (sym q) e | inr i ↦ elim i [ ] ]

  pub both_declared : (type_of : ℕ → Typ) (ds es : List Declaration) → DeclaredAs type_of ds → DeclaredAs type_of es → DeclaredAs type_of (ds ++ es)
  both_declared type_of ds es h g d m = elim (either ds es m) [ inl i ↦ h d i | inr i ↦ g d i ]

  -- what a statement declares, a statement in front of a block, and what is visible behind it
  abbrev pub StatementHas : ℕ → Scope → Statement → Scope → (ℕ → Typ) → Type 0
  StatementHas depth g st h type_of = DeclaredAs type_of (statement_declarations st) × (ScopeHas fs type_of f depth g → ScopeHas fs type_of f depth h × ((b : Block) → BlockHas fs type_of f depth b → BlockHas fs type_of f depth (with_statement t st b)))

  abbrev pub BodyHas : ℕ → Scope → Body → (ℕ → Typ) → Type 0
  BodyHas depth g b type_of = DeclaredAs type_of (body_declarations b) × (ScopeHas fs type_of f depth g → BlockHas fs type_of f depth (block_of t b))

  mutual
    pub statement_typed : (depth : ℕ) {g h : Scope} {st : Statement} → StatementTyped fs t g st h → NodesTyped (statement_numbers st) (StatementHas depth g st h)
    statement_typed depth {g} (rules.declaration {nd = nd} {d = d} new) = passed nd.number (and_so (noted d.name.number (declared_type d) nothing) (λ type_of q. (
      one_declared type_of d q.0,
      λ s. (
        own_has fs type_of f depth new q.0 s,
        λ b r. put fs type_of f nd.first.from nd.number (declare_has fs type_of f depth d.name.number) r,
      ),
    )))
    statement_typed depth {g} {h} (rules.definition {nd = nd} {d = d} {r = r} new typed) = passed nd.number (and_so (noted d.name.number (declared_type d) (right_typed fs t f depth h (here d.name.number) typed)) (λ type_of q. (
      one_declared type_of d q.0,
      λ s. (
          let seen = own_has fs type_of f depth new q.0 s in (
            seen,
            λ b rest. put fs type_of f nd.first.from nd.number (declare_has fs type_of f depth d.name.number) (put fs type_of f nd.first.from nd.number (q.1 seen q.0) rest),
          )),
    )))
    statement_typed depth {g} (rules.assignment {nd = nd} {w = w} {r = r} refers_to typed) = passed nd.number (passed w.number (and_so (right_typed fs t f depth g (refers t w) typed) (λ type_of q. (
      none_declared type_of,
      λ s. (
        s,
        λ b rest. put fs type_of f nd.first.from nd.number
            (subst (λ (z : Shape). StmtHas fs type_of f depth (right_of t (refers t w) z r)) (sym refers_to.shaped) (q s (refers_has fs t f depth g type_of refers_to s))) rest,
      ),
    ))))
    statement_typed depth {g} (rules.element_write {nd = nd} {w = w} {i = i} {e = e} {κ = κ} {b = β} refers_to index right) =
        passed nd.number (passed w.number (and_so (joined (expression_typed fs t f depth g index) (expression_typed fs t f depth g right)) (λ type_of q. (
          none_declared type_of,
          λ s. (
              let p = q.0.1 s in
              let o = q.1.1 s in (
                s,
                λ b rest. put fs type_of f nd.first.from nd.number (record {
                  outer = two_outers fs type_of f depth (outer t i) (outer t e) (outer_has fs type_of f depth (number_of i) (form_of t i) (one_of (base_of_keys κ)) q.0.0 p.0 p.1) (outer_has fs type_of f depth (number_of e) (form_of t e) (one_of β) q.1.0 o.0 o.1);
                  action = types.of_insert {x = refers t w} {i = outer t i} {o = outer t e} κ (refers_has fs t f depth g type_of refers_to s) q.0.0 q.1.0;
                }) rest,
              )),
        ))))
    statement_typed depth {g} (rules.several {nd = nd} {ws = ws} {c = c} {f = called} names calls args) =
        passed nd.number (all_passed (words_numbers ws) (passed c.node.number (passed c.name.number (and_so (arguments_typed fs t f depth g args) (λ type_of q. (
          none_declared type_of,
          λ s. (
            s,
            λ b rest. put fs type_of f nd.first.from nd.number
                (subst (λ (z : Callee). StmtHas fs type_of f depth (several t c.node.number c.name (expressions_of c.arguments) (map (refers t) ws) z)) (sym calls.named)
                (composite_has fs type_of f depth (pos 0) c.name called (arguments_of t (expressions_of c.arguments)) (map (refers t) ws) calls (names_have fs t f depth g type_of names s) (q s))) rest,
          ),
        ))))))
    statement_typed depth {g} (rules.several_builtin {nd = nd} {w = w} {c = c} {f = called} {b = β} refers_to calls args) =
        passed nd.number (passed w.number (and_so (noted c.node.number (one_of β) (passed c.name.number (builtin_typed fs t f depth g args))) (λ type_of q. (
          none_declared type_of,
          λ s. (
            s,
            λ b rest. put fs type_of f nd.first.from nd.number
                (subst (λ (z : Callee). StmtHas fs type_of f depth (several t c.node.number c.name (expressions_of c.arguments) (refers t w ∷ []) z)) (sym calls.named)
                (assign_has fs type_of f depth c.node.number (call_form t c.name (built_in called) (expressions_of c.arguments) ([], []) (operands_of t (expressions_of c.arguments))) β (refers t w) q.0 (q.1 c.name ([], []) s)
                (refers_has fs t f depth g type_of refers_to s))) rest,
          ),
        ))))
    statement_typed depth {g} (rules.call_statement {nd = nd} {p = p} {c = c} typed) =
        passed nd.number (and_so (call_typed fs t f depth g p c.node.number typed) (λ type_of q. (none_declared type_of, λ s. (s, λ b rest. put fs type_of f nd.first.from nd.number (q s) rest))))
    statement_typed depth {g} (rules.if_statement {nd = nd} {c = e} {b = d} condition typed) =
        passed nd.number (and_so (joined (expression_typed fs t f depth g condition) (body_typed (suc depth) typed)) (λ type_of q. (
          q.1.0,
          λ s. (
              let r = q.0.1 s in (
                s,
                λ b rest. put fs type_of f nd.first.from nd.number (record {
                  outer = one_outer fs type_of f depth (outer t e) (outer_has fs type_of f depth (number_of e) (form_of t e) (one_of Boolean) q.0.0 r.0 r.1);
                  action = types.of_when {c = outer t e} q.0.0 (q.1.1 (deeper_has fs type_of f depth g s));
                }) rest,
              )),
        )))
    statement_typed depth {g} (rules.if_else_statement {nd = nd} {c = e} {b = d} {d = o} condition typed other) =
        passed nd.number (and_so (joined (expression_typed fs t f depth g condition) (joined (body_typed (suc depth) typed) (body_typed (suc depth) other))) (λ type_of q. (
          both_declared type_of (body_declarations d) (body_declarations o) q.1.0.0 q.1.1.0,
          λ s. (
              let r = q.0.1 s in (
                s,
                λ b rest. put fs type_of f nd.first.from nd.number (record {
                  outer = one_outer fs type_of f depth (outer t e) (outer_has fs type_of f depth (number_of e) (form_of t e) (one_of Boolean) q.0.0 r.0 r.1);
                  action = types.of_choose {c = outer t e} q.0.0 (q.1.0.1 (deeper_has fs type_of f depth g s)) (q.1.1.1 (deeper_has fs type_of f depth g s));
                }) rest,
              )),
        )))
    statement_typed depth {g} (rules.loop_statement {h = inner} {nd = nd} {v = v} {k = k} {o = o} {b = d} {β = β} {γ = γ} source scope typed) =
        passed nd.number (and_so (noted v.number (one_of β) (joined (key_typed γ k) (joined (source_typed fs t f depth g source) (body_typed (suc depth) typed)))) (λ type_of q. (
          q.1.1.1.0,
          λ s. (
            s,
            λ b rest. put fs type_of f nd.first.from nd.number
                (loop_has fs t f depth g type_of v k o β γ (block_of t d) (q.1.1.0 s) q.0 q.1.0 (q.1.1.1.1 (loop_scope depth scope type_of q.0 q.1.0 s))) rest,
          ),
        )))
    statement_typed depth {g} (rules.wait_statement {nd = nd} {ws = ws} {τs = τs} {b = d} names typed) =
        passed nd.number (all_passed (words_numbers ws) (and_so (body_typed depth typed) (λ type_of q. (
          q.0,
          λ s. (
            s,
            λ b rest. put fs type_of f nd.first.from nd.number (record {
              outer = no_outers fs type_of f depth;
              action = types.of_wait (awaited_has fs t f depth g type_of names s) (q.1 s);
            }) rest,
          ),
        ))))

    statements_typed : (depth : ℕ) {g : Scope} {ss : Statements} → StatementsTyped fs t g ss → NodesTyped (statements_numbers ss) (λ type_of. DeclaredAs type_of (statements_declarations ss) × (ScopeHas fs type_of f depth g → BlockHas fs type_of f depth (block_in t ss)))
    statements_typed depth rules.no_more_statements = always (λ type_of. (none_declared type_of, λ s. no_statement))
    statements_typed depth (rules.next_statement {s = st} {ss = ss} one rest) =
        and_so (joined (statement_typed depth one) (statements_typed depth rest)) (λ type_of q. (both_declared type_of (statement_declarations st) (statements_declarations ss) q.0.0 q.1.0, λ s. (let r = q.0.1 s in r.1 (block_in t ss) (q.1.1 r.0))))

    pub body_typed : (depth : ℕ) {g : Scope} {b : Body} → BodyTyped fs t g b → NodesTyped (body_numbers b) (BodyHas depth g b)
    body_typed depth (rules.in_braces typed) = statements_typed depth typed
