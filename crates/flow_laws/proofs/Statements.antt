-- Where the names of typed statements come from.
use Rattle.std.specs.Prelude.{◌≡◌, ℕ, ℤ, pos, List, [], ◌∷◌, ◌++◌, map, Option, Some, None, option_map, refl}
use Rattle.std.specs.List.{flat_map}
use Rattle.std.proofs.Common.{inl, inr, sym, subst}
use Rattle.values.specs.Operators as op
use Rattle.language.specs.declared.tree.Base.{Base}
use Rattle.language.specs.declared.tree.Shape.{Shape}
use Rattle.language.specs.Tree as T
use Rattle.language.specs.Tree.{Word, Node, Expression, expression, number, text, truth, variable, element, call, prefixed, chain, Expressions, no_expressions, and_expression, expressions_of, RightSide, value, Calling, Over, Statement, statement}
use Rattle.language.specs.Core.{Name, whole, compute, Call, Part, calls, Action, call_alone, assign, fill, insert, print, assert, when, choose, range, wait, Block}
use Rattle.language.specs.Members.{◌∈◌, first, later}
use Rattle.language.specs.Parts.{outer_parts, parts}
use Rattle.language.specs.Resolved.{refers, Formed, form_of, operands_of, arguments_of, computes, call_form, call_to, number_of, outer_of, outer, composite_call, call_right, right_of, call_action, several, awaited, awaited_as, loop_action, format_of}
use Rattle.language.specs.Table.{Table, Callee, built_in}
use Rattle.language.specs.Scopes.{Typ, Scope, Signature, Calls}
use Rattle.language.specs.Typing as rules
use Rattle.language.specs.Typing.{HasType, ArgumentTypes, RightType, ReferAll, StepType, SourceType, CallTyped, StatementTyped}
use Rattle.language.proofs.Members.{split_in, either}
use Rattle.language_accepted.proofs.Placed.{Sees, IsPlain}
use Rattle.flow.specs.Names.{awaited_name, names_used, part_names}
use Rattle.flow_laws.proofs.Known.{Known, of_scope, Knows, nothing, named, one, with_cell, outer_then}
use Rattle.flow_laws.proofs.Expressions.{seen, FormedKnown, ArgumentsKnown, and_operand, expression_known, arguments_known, builtin_known, all_known, printed_known}

pub flat_member : {X Y : Type 0} (f : X → List Y) {y : Y} (xs : List X) → y ∈ flat_map f xs → (x : X) × (x ∈ xs) × (y ∈ f x)
flat_member f [] m = elim m [ ]
flat_member f (x ∷ xs) m = elim (either (f x) (flat_map f xs) m) [ inl i ↦ (x, first, i) | inr i ↦ (let r = flat_member f xs i in (r.0, later r.1, r.2)) ]

-- the parts without a call that is the statement
abbrev pub before : Action → List Part
before (call_alone p ps c) = ps
before a = parts a

module _ (fs : List Signature) (t : Table) (g : Scope) where
  -- what a statement names is visible, or its own parts declare it
  abbrev pub Fit : Action → Type 0
  Fit a = (x : Name) → x ∈ names_used a → Known g (before a) x

  -- the same of a statement without a block inside it
  abbrev pub Plain : Action → Type 0
  Plain a = IsPlain a × Fit a

  of_knows : (ps : List Part) (xs : List Name) → Knows g ps xs → (x : Name) → x ∈ (xs ++ flat_map part_names ps) → Known g ps x
  of_knows ps xs h x m = elim (either xs (flat_map part_names ps) m) [ inl i ↦ h.names x i | inr i ↦ (let r = flat_member part_names ps i in h.parts r.0 x r.1 r.2) ]

  -- an outermost cell alone
  outer_knows : (m : ℕ) (f : Formed) → FormedKnown fs t g f → Knows g (with_cell f.0 m f.1 []) []
  outer_knows m f h = outer_then g f.0 [] m f.1 [] h (nothing g)

  set_knows : (x : Name) (m : ℕ) (f : Formed) → Sees g x → FormedKnown fs t g f → Knows g (with_cell f.0 m f.1 []) (x ∷ [])
  set_knows x m f s h = named g (with_cell f.0 m f.1 []) [] x s (outer_knows m f h)

  assign_fits : (x : Name) (m : ℕ) (f : Formed) → Sees g x → FormedKnown fs t g f → Plain (assign x (outer_of m f))
  assign_fits x m f s h = (tt, of_knows (with_cell f.0 m f.1 []) (x ∷ []) (set_knows x m f s h))

  fill_fits : (x : Name) (m : ℕ) (f : Formed) → Sees g x → FormedKnown fs t g f → Plain (fill x (outer_of m f))
  fill_fits x m f s h = (tt, of_knows (with_cell f.0 m f.1 []) (x ∷ []) (set_knows x m f s h))

  abbrev AllSeen : List Name → Type 0
  AllSeen xs = (x : Name) → x ∈ xs → Sees g x

  alone_known : (ps : List Part) (c : Call) → Knows g ps c.inputs → AllSeen c.outputs → (x : Name) → x ∈ flat_map part_names (ps ++ calls c ∷ []) → Known g ps x
  alone_known ps c h s x m =
      let r = flat_member part_names (ps ++ calls c ∷ []) m in
      elim (either ps (calls c ∷ []) r.1) [
        | inl i ↦ h.parts r.0 x i r.2
        | inr i ↦ elim (split_in i) [
          | inl e ↦ elim (either c.inputs c.outputs (subst (λ (z : Part). x ∈ part_names z) e r.2)) [ inl j ↦ h.names x j | inr j ↦ of_scope (s x j) ]
          | inr j ↦ elim j [ ]
        ]
      ]

  composite_fits : (p : ℤ) (w : Word) (i : ℕ) (es : Expressions) (os : List Name) → ArgumentsKnown fs t g (arguments_of t es) → AllSeen os → Plain (composite_call p w i (arguments_of t es) os)
  composite_fits p w i es os h s = let a = arguments_of t es in (tt, alone_known a.0 (call_to w i a.1 os) h s)

  one_seen : (x : Name) → Sees g x → AllSeen (x ∷ [])
  one_seen x s y m = elim (split_in m) [ inl e ↦ subst (Sees g) (sym e) s | inr i ↦ elim i [ ] ]

  called_right : (x : Name) (nd : Node) (w : Word) (es : Expressions) (f : Signature) → Sees g x → Calls fs t w f → ArgumentTypes fs t g es f.inputs → Plain (call_right t x (expression nd (call w es)) w es (t.callee_of w.number))
  called_right x nd w es f s c h =
      subst (λ (z : Callee). Plain (call_right t x (expression nd (call w es)) w es z)) (sym c.named) (composite_fits (pos 0) w c.place es (x ∷ []) (arguments_known fs t g h) (one_seen x s))

  scalar_right : (x : Name) {e : Expression} {b : Base} → Sees g x → HasType fs t g e b → Plain (right_of t x Shape.Scalar (value e))
  scalar_right x s (rules.of_number {nd = nd} {z = z}) = assign_fits x nd.number (form_of t (expression nd (number z))) s (nothing g)
  scalar_right x s (rules.of_text {nd = nd} {bytes = z}) = assign_fits x nd.number (form_of t (expression nd (text z))) s (nothing g)
  scalar_right x s (rules.of_truth {nd = nd} {b = z}) = assign_fits x nd.number (form_of t (expression nd (truth z))) s (nothing g)
  scalar_right x s (rules.of_variable {nd = nd} {w = w} r) = assign_fits x nd.number (form_of t (expression nd (variable w))) s (one g (refers t w) (seen fs t g r))
  scalar_right x s (rules.of_element {nd = nd} {w = w} {i = i} r h) = assign_fits x nd.number (form_of t (expression nd (element w i))) s (expression_known fs t g (rules.of_element {nd = nd} r h))
  scalar_right x s (rules.of_prefixed {nd = nd} {p = p} {e = e} q h) = assign_fits x nd.number (form_of t (expression nd (prefixed p e))) s (expression_known fs t g (rules.of_prefixed {nd = nd} q h))
  scalar_right x s (rules.of_chain {nd = nd} {os = os} {e = e} {es = es} h r) =
      assign_fits x nd.number (form_of t (expression nd (chain os (and_expression e es)))) s (expression_known fs t g (rules.of_chain {nd = nd} h r))
  scalar_right x s (rules.of_call {nd = nd} {w = w} {es = es} {f = f} c h e) = called_right x nd w es f s c h
  scalar_right x s (rules.of_builtin {nd = nd} {w = w} {es = es} c h) =
      subst (λ (z : Callee). Plain (call_right t x (expression nd (call w es)) w es z)) (sym c.named)
      (assign_fits x nd.number (form_of t (expression nd (call w es))) s (expression_known fs t g (rules.of_builtin {nd = nd} c h)))

  pub right_fits : (x : Name) {r : RightSide} {τ : Typ} → Sees g x → RightType fs t g r τ → Plain (right_of t x τ.shape r)
  right_fits x s (rules.of_scalar h) = scalar_right x s h
  right_fits x s (rules.of_copy {nd = nd} {w = w} r) = fill_fits x nd.number ([], compute (whole (refers t w))) s (one g (refers t w) (seen fs t g r))
  right_fits x s (rules.of_list {nd = nd} {es = es} h) = fill_fits x nd.number (computes op.literal (operands_of t (expressions_of es))) s (all_known fs t g h)
  right_fits x s (rules.of_array_call {nd = nd} {w = w} {es = es} {f = f} c h e) = called_right x nd w es f s c h

  pub write_fits : (x : Name) {i e : Expression} {b c : Base} → Sees g x → HasType fs t g i b → HasType fs t g e c → Plain (insert x (outer t i) (outer t e))
  write_fits x {i = i} {e = e} s h r =
      let f = form_of t i in
      let k = form_of t e in
      let qs = with_cell k.0 (number_of e) k.1 [] in
      (tt, of_knows (with_cell f.0 (number_of i) f.1 qs) (x ∷ []) (outer_then g f.0 qs (number_of i) f.1 (x ∷ []) (expression_known fs t g h) (set_knows x (number_of e) k s (expression_known fs t g r))))

  all_seen : {ws : List Word} {τs : List Typ} → ReferAll t g ws τs → AllSeen (map (refers t) ws)
  all_seen rules.no_name x m = elim m [ ]
  all_seen (rules.one_name r rest) x m = elim (split_in m) [ inl e ↦ subst (Sees g) (sym e) (seen fs t g r) | inr i ↦ all_seen rest x i ]

  pub several_fits : (nd : Node) (ws : List Word) (c : Calling) (h : Scope) → StatementTyped fs t g (statement nd (T.assign_all ws c)) h
      → Plain (several t c.node.number c.name (expressions_of c.arguments) (map (refers t) ws) (t.callee_of c.name.number)) × (g ≡ h)
  several_fits nd ws c h (rules.several {f = f} names called fit) = (
    subst (λ (z : Callee). Plain (several t c.node.number c.name (expressions_of c.arguments) (map (refers t) ws) z)) (sym called.named)
        (composite_fits (pos 0) c.name called.place (expressions_of c.arguments) (map (refers t) ws) (arguments_known fs t g fit) (all_seen names)),
    refl,
  )
  several_fits nd ws c h (rules.several_builtin {w = w} {f = f} r called fit) = (
    subst (λ (z : Callee). Plain (several t c.node.number c.name (expressions_of c.arguments) (refers t w ∷ []) z)) (sym called.named)
        (assign_fits (refers t w) c.node.number (call_form t c.name (built_in f) (expressions_of c.arguments) ([], []) (operands_of t (expressions_of c.arguments))) (seen fs t g r) (builtin_known fs t g c.name ([], []) fit)),
    refl,
  )

  print_fits : (p : ℤ) (m : ℕ) (f : Formed) → FormedKnown fs t g f → Plain (print p (outer_of m f))
  print_fits p m f h = (tt, of_knows (with_cell f.0 m f.1 []) [] (outer_knows m f h))

  assert_fits : (p : ℤ) (m : ℕ) (f : Formed) → FormedKnown fs t g f → Plain (assert p (outer_of m f))
  assert_fits p m f h = (tt, of_knows (with_cell f.0 m f.1 []) [] (outer_knows m f h))

  pub called_fits : (p : ℤ) (m : ℕ) {w : Word} {es : List Expression} → CallTyped fs t g w es → Plain (call_action t p m w (expressions_of es) (t.callee_of w.number))
  called_fits p m (rules.function_called {w = w} {es = es} {f = f} c e h) =
      subst (λ (z : Callee). Plain (call_action t p m w (expressions_of es) z)) (sym c.named) (composite_fits p w c.place (expressions_of es) [] (arguments_known fs t g h) (λ x i. elim i [ ]))
  called_fits p m (rules.printf_called {w = w} {nd = nd} {bytes = bytes} {es = es} c e h) =
      subst (λ (z : Callee). Plain (call_action t p m w (expressions_of (expression nd (text bytes) ∷ es)) z)) (sym c.named)
      (print_fits p m (computes (op.printf (format_of (expressions_of (expression nd (text bytes) ∷ es)))) (operands_of t (expressions_of es))) (printed_known fs t g h))
  called_fits p m (rules.assert_called {w = w} {c = d} {m = e} c h r) =
      subst (λ (z : Callee). Plain (call_action t p m w (expressions_of (d ∷ e ∷ [])) z)) (sym c.named)
      (assert_fits p m (computes op.assert (operands_of t (expressions_of (d ∷ e ∷ []))))
      (and_operand fs t g d (and_expression e no_expressions) (expression_known fs t g h) (and_operand fs t g e no_expressions (expression_known fs t g r) (nothing g))))

  pub when_fits : {e : Expression} {b : Base} (d : Block) → HasType fs t g e b → Fit (when (outer t e) d)
  when_fits {e = e} d h = let f = form_of t e in of_knows (with_cell f.0 (number_of e) f.1 []) [] (outer_knows (number_of e) f (expression_known fs t g h))

  pub choose_fits : {e : Expression} {b : Base} (d k : Block) → HasType fs t g e b → Fit (choose (outer t e) d k)
  choose_fits {e = e} d k h = let f = form_of t e in of_knows (with_cell f.0 (number_of e) f.1 []) [] (outer_knows (number_of e) f (expression_known fs t g h))

  -- an outermost cell in front of others
  before_cells : {e : Expression} {b : Base} (qs : List Part) → HasType fs t g e b → Knows g qs [] → Knows g (with_cell (form_of t e).0 (number_of e) (form_of t e).1 qs) []
  before_cells {e = e} qs h k = let f = form_of t e in outer_then g f.0 qs (number_of e) f.1 [] (expression_known fs t g h) k

  range_fits : (low high : Expression) (step : Option Expression) (v : ℕ) (u : Option ℕ) (d : Block) {b c : Base} → HasType fs t g low b → HasType fs t g high c → StepType fs t g step
      → Fit (range (outer t low) (outer t high) (option_map (outer t) step) v u d)
  range_fits low high None v u d h r rules.no_step =
      let qs = outer_parts (outer t high ∷ []) in
      of_knows (outer_parts (outer t low ∷ outer t high ∷ [])) [] (before_cells qs h (before_cells [] r (nothing g)))
  range_fits low high (Some step) v u d h r (rules.a_step q) =
      let ps = outer_parts (outer t step ∷ []) in
      let qs = outer_parts (outer t high ∷ outer t step ∷ []) in
      of_knows (outer_parts (outer t low ∷ outer t high ∷ outer t step ∷ [])) [] (before_cells qs h (before_cells ps r (before_cells [] q (nothing g))))

  pub loop_fits : (v : Word) (u : Option Word) (o : Over) (d : Block) {b c : Base} → SourceType fs t g o b c → Fit (loop_action t v u o d)
  loop_fits v u (T.array w) d (rules.of_elements r) = of_knows [] (refers t w ∷ []) (one g (refers t w) (seen fs t g r))
  loop_fits v u (T.range low high step) d (rules.of_range h r q) = range_fits low high step v.number (option_map (λ x. x.number) u) d h r q

  name_awaited : (sh : Shape) (x : Name) → awaited_name (awaited_as sh x) ≡ x
  name_awaited (Shape.Array κ) x = refl
  name_awaited Shape.Scalar x = refl

  awaited_known : {ws : List Word} {τs : List Typ} → ReferAll t g ws τs → Knows g [] (map awaited_name (map (awaited t) ws))
  awaited_known rules.no_name = nothing g
  awaited_known (rules.one_name {w = w} {ws = ws} r rest) =
      let x = awaited_name (awaited t w) in
      named g [] (map awaited_name (map (awaited t) ws)) x (subst (Sees g) (sym (name_awaited (t.shape_of w.number) (refers t w))) (seen fs t g r)) (awaited_known rest)

  pub wait_fits : {ws : List Word} {τs : List Typ} (d : Block) → ReferAll t g ws τs → Fit (wait (map (awaited t) ws) d)
  wait_fits {ws = ws} d r = of_knows [] (map awaited_name (map (awaited t) ws)) (awaited_known r)
