-- Where the names of typed statements come from.
use Rattle.std.specs.Prelude.{◌≡◌, ℕ, ℤ, pos, true, false, List, [], ◌∷◌, ◌++◌, map, Option, Some, None, option_map, refl}
use Rattle.std.proofs.Common.{inl, inr, sym, ap, subst}
use Rattle.values.specs.Operators as op
use Rattle.values.specs.declared.format.FormatPiece.{FormatPiece}
use Rattle.language.specs.declared.tree.Base.{Base}
use Rattle.language.specs.declared.tree.Shape.{Shape}
use Rattle.language.specs.Tree as T
use Rattle.language.specs.Tree.{Word, Node, Expression, expression, number, text, truth, variable, element, call, prefixed, chain, Expressions, no_expressions, and_expression, expressions_of, RightSide, value, list, Calling, Over, Statement, statement}
use Rattle.language.specs.Core.{Name, whole, Form, compute, read, Cell, Part, inner, Outer, Awaited, Action, declare, assign, fill, insert, print, assert, when, choose, range, wait, Block}
use Rattle.language.specs.Members.{◌∈◌, later}
use Rattle.language.specs.Parts.{outer_parts}
use Rattle.language.specs.Resolved.{refers, Formed, form_of, operands_of, arguments_of, computes, call_form, number_of, outer_of, outer, composite_call, call_right, right_of, call_action, several, awaited, awaited_as, loop_action, format_of}
use Rattle.language.specs.Table.{Table, Callee, built_in}
use Rattle.language.specs.Scopes.{Typ, one_of, many_of, Scope, Signature, Calls}
use Rattle.language.specs.Typing as rules
use Rattle.language.specs.Typing.{HasType, ArgumentTypes, BuiltinType, AllHaveType, RightType, ReferAll, StepType, SourceType, CallTyped, StatementTyped}
use Rattle.language.proofs.Members.{split_in, to_left, to_right}
use Rattle.language_laws.specs.TypedValues.{own_cell, own_outer}
use Rattle.language_accepted.proofs.Placed.{IsPlain}
use Rattle.code_laws.specs.Described.{is_array_shape}
use Rattle.code_laws.proofs.Scoping.{SeesAs, FormComes, OutputsCome, no_output_comes, output_comes, PartsCome, AwaitedSeen, StmtComes}
use Rattle.code_laws.proofs.Coming.{seen_as, Sub, none_come, both_come, one_comes, FormedComes, OperandsCome, ArgumentsCome, expression_comes, arguments_come, builtin_comes, all_come, printed_come}

module _ (fs : List Signature) (t : Table) (g : Scope) where
  abbrev Fit : Action → Type 0
  Fit a = StmtComes fs g a

  -- the same of a statement without a block inside it
  abbrev pub Plain : Action → Type 0
  Plain a = IsPlain a × StmtComes fs g a

  -- an outermost cell that the statement works out itself
  own_cell_comes : (all : List Part) (o : Outer) → PartsCome fs g all o.parts → FormComes g all o.cell.form → PartsCome fs g all (own_outer o)
  own_cell_comes all o h k = both_come fs t g all o.parts (own_cell o.cell o.cell.form) h (by o.cell o.cell.form k)
    where
      by : (c : Cell) (f : Form) → FormComes g all c.form → PartsCome fs g all (own_cell c f)
      by c (compute e) k = none_come fs t g all
      by c (read a i) k = one_comes fs t g all (inner c) [] k (none_come fs t g all)

  own_sub : (o : Outer) → (p : Part) → p ∈ o.parts → p ∈ own_outer o
  own_sub o p m = to_left o.parts (own_cell o.cell o.cell.form) m

  -- an outermost cell whose value is seen from outside it
  outer_comes : (all : List Part) (m : ℕ) (f : Formed) (ps : List Part) → FormedComes fs t g all f → Sub fs t g all (f.0 ++ inner (record { node = m; form = f.1 }) ∷ ps) → PartsCome fs g all ps
      → PartsCome fs g all (f.0 ++ inner (record { node = m; form = f.1 }) ∷ ps)
  outer_comes all m f ps h s r =
      let q = h (λ p i. s p (to_left f.0 _ i)) in
      both_come fs t g all f.0 (inner (record { node = m; form = f.1 }) ∷ ps) q.0 (one_comes fs t g all (inner (record { node = m; form = f.1 })) ps q.1 r)

  -- the cell and its parts, where they make all parts of a statement
  own_formed : (m : ℕ) (f : Formed) → ((all : List Part) → FormedComes fs t g all f) → PartsCome fs g (own_outer (outer_of m f)) (own_outer (outer_of m f)) × FormComes g (own_outer (outer_of m f)) f.1
  own_formed m f h =
      let q = h (own_outer (outer_of m f)) (own_sub (outer_of m f)) in
      (own_cell_comes (own_outer (outer_of m f)) (outer_of m f) q.0 q.1, q.1)

  pub declare_comes : (v : ℕ) → Fit (declare v)
  declare_comes v = record { parts = none_come fs t g []; own = tt }

  assign_comes : (x : Name) (m : ℕ) (f : Formed) → SeesAs g x false → ((all : List Part) → FormedComes fs t g all f) → Plain (assign x (outer_of m f))
  assign_comes x m f s h = let q = own_formed m f h in (tt, record { parts = q.0; own = (s, q.1) })

  fill_comes : (x : Name) (m : ℕ) (f : Formed) → SeesAs g x true → ((all : List Part) → FormedComes fs t g all f) → Plain (fill x (outer_of m f))
  fill_comes x m f s h = let q = own_formed m f h in (tt, record { parts = q.0; own = (s, q.1) })

  composite_comes : (p : ℤ) (w : Word) (f : Signature) (es : Expressions) (os : List Name) → (c : Calls fs t w f) → ((all : List Part) → ArgumentsCome fs t g all (arguments_of t es) f.inputs) → OutputsCome g os f.outputs
      → Plain (composite_call p w c.place (arguments_of t es) os)
  composite_comes p w f es os c h o =
      let q = h (arguments_of t es).0 (λ x m. m) in
      (tt, record { parts = q.0; own = record { signature = f; there = c.there; inputs = q.1; outputs = o } })

  called_right : (x : Name) (nd : Node) (w : Word) (es : Expressions) (f : Signature) (τ : Typ) → SeesAs g x (is_array_shape τ.shape) → Calls fs t w f → ArgumentTypes fs t g es f.inputs → f.outputs ≡ τ ∷ []
      → Plain (call_right t x (expression nd (call w es)) w es (t.callee_of w.number))
  called_right x nd w es f τ s c h e =
      subst (λ (z : Callee). Plain (call_right t x (expression nd (call w es)) w es z)) (sym c.named)
      (composite_comes (pos 0) w f es (x ∷ []) c (λ all. arguments_come fs t g all h) (subst (λ (τs : List Typ). OutputsCome g (x ∷ []) τs) (sym e) (output_comes s no_output_comes)))

  scalar_right : (x : Name) {e : Expression} {b : Base} → SeesAs g x false → HasType fs t g e b → Plain (right_of t x Shape.Scalar (value e))
  scalar_right x s (rules.of_number {nd = nd} {z = z}) = assign_comes x nd.number (form_of t (expression nd (number z))) s (λ all. expression_comes fs t g all (rules.of_number {nd = nd} {z = z}))
  scalar_right x s (rules.of_text {nd = nd} {bytes = z}) = assign_comes x nd.number (form_of t (expression nd (text z))) s (λ all. expression_comes fs t g all (rules.of_text {nd = nd} {bytes = z}))
  scalar_right x s (rules.of_truth {nd = nd} {b = z}) = assign_comes x nd.number (form_of t (expression nd (truth z))) s (λ all. expression_comes fs t g all (rules.of_truth {nd = nd} {b = z}))
  scalar_right x s (rules.of_variable {nd = nd} {w = w} r) = assign_comes x nd.number (form_of t (expression nd (variable w))) s (λ all. expression_comes fs t g all (rules.of_variable {nd = nd} r))
  scalar_right x s (rules.of_element {nd = nd} {w = w} {i = i} r h) = assign_comes x nd.number (form_of t (expression nd (element w i))) s (λ all. expression_comes fs t g all (rules.of_element {nd = nd} r h))
  scalar_right x s (rules.of_prefixed {nd = nd} {p = p} {e = e} q h) = assign_comes x nd.number (form_of t (expression nd (prefixed p e))) s (λ all. expression_comes fs t g all (rules.of_prefixed {nd = nd} q h))
  scalar_right x s (rules.of_chain {nd = nd} {os = os} {e = e} {es = es} h r) =
      assign_comes x nd.number (form_of t (expression nd (chain os (and_expression e es)))) s (λ all. expression_comes fs t g all (rules.of_chain {nd = nd} h r))
  scalar_right x s (rules.of_call {nd = nd} {w = w} {es = es} {f = f} {b = b} c h e) = called_right x nd w es f (one_of b) s c h e
  scalar_right x s (rules.of_builtin {nd = nd} {w = w} {es = es} c h) =
      subst (λ (z : Callee). Plain (call_right t x (expression nd (call w es)) w es z)) (sym c.named)
      (assign_comes x nd.number (form_of t (expression nd (call w es))) s (λ all. expression_comes fs t g all (rules.of_builtin {nd = nd} c h)))

  pub right_comes : (x : Name) {r : RightSide} {τ : Typ} → SeesAs g x (is_array_shape τ.shape) → RightType fs t g r τ → Plain (right_of t x τ.shape r)
  right_comes x s (rules.of_scalar h) = scalar_right x s h
  right_comes x s (rules.of_copy {nd = nd} {w = w} r) = fill_comes x nd.number ([], compute (whole (refers t w))) s (λ all z. (none_come fs t g all, seen_as fs t g r))
  right_comes x s (rules.of_list {nd = nd} {es = es} h) = fill_comes x nd.number (computes op.literal (operands_of t (expressions_of es))) s (λ all. all_come fs t g all h)
  right_comes x s (rules.of_array_call {nd = nd} {w = w} {es = es} {f = f} {κ = κ} {b = b} c h e) = called_right x nd w es f (many_of κ b) s c h e

  pub write_comes : (x : Name) {i e : Expression} {b c : Base} → SeesAs g x true → HasType fs t g i b → HasType fs t g e c → Plain (insert x (outer t i) (outer t e))
  write_comes x {i = i} {e = e} s h r =
      let qs = outer_parts (outer t e ∷ []) in
      let all = outer_parts (outer t i ∷ outer t e ∷ []) in (
        tt,
        record {
          parts = outer_comes all (number_of i) (form_of t i) qs (expression_comes fs t g all h) (λ p m. m)
              (outer_comes all (number_of e) (form_of t e) [] (expression_comes fs t g all r) (λ p m. to_right (form_of t i).0 _ (later m)) (none_come fs t g all));
          own = s;
        },
      )

  all_seen : {ws : List Word} {τs : List Typ} → ReferAll t g ws τs → OutputsCome g (map (refers t) ws) τs
  all_seen rules.no_name = no_output_comes
  all_seen (rules.one_name r rest) = output_comes (seen_as fs t g r) (all_seen rest)

  pub several_comes : (nd : Node) (ws : List Word) (c : Calling) (h : Scope) → StatementTyped fs t g (statement nd (T.assign_all ws c)) h
      → Plain (several t c.node.number c.name (expressions_of c.arguments) (map (refers t) ws) (t.callee_of c.name.number)) × (g ≡ h)
  several_comes nd ws c h (rules.several {f = f} names called fit) = (
    subst (λ (z : Callee). Plain (several t c.node.number c.name (expressions_of c.arguments) (map (refers t) ws) z)) (sym called.named)
        (composite_comes (pos 0) c.name f (expressions_of c.arguments) (map (refers t) ws) called (λ all. arguments_come fs t g all fit) (all_seen names)),
    refl,
  )
  several_comes nd ws c h (rules.several_builtin {w = w} {f = f} r called fit) = (
    subst (λ (z : Callee). Plain (several t c.node.number c.name (expressions_of c.arguments) (refers t w ∷ []) z)) (sym called.named)
        (assign_comes (refers t w) c.node.number (call_form t c.name (built_in f) (expressions_of c.arguments) ([], []) (operands_of t (expressions_of c.arguments))) (seen_as fs t g r) (λ all. builtin_comes fs t g all c.name ([], []) fit)),
    refl,
  )

  print_comes : (p : ℤ) (m : ℕ) (f : Formed) → ((all : List Part) → FormedComes fs t g all f) → Plain (print p (outer_of m f))
  print_comes p m f h = let q = own_formed m f h in (tt, record { parts = q.0; own = q.1 })

  assert_comes : (p : ℤ) (m : ℕ) (f : Formed) → ((all : List Part) → FormedComes fs t g all f) → Plain (assert p (outer_of m f))
  assert_comes p m f h = let q = own_formed m f h in (tt, record { parts = q.0; own = q.1 })

  -- a format takes scalars
  wanted_scalars : (ps : List FormatPiece) (τ : Typ) → τ ∈ rules.wanted ps → is_array_shape τ.shape ≡ false
  wanted_scalars [] τ m = elim m [ ]
  wanted_scalars (FormatPiece.Byte c ∷ ps) τ m = wanted_scalars ps τ m
  wanted_scalars (FormatPiece.Number ∷ ps) τ m = elim (split_in m) [ inl e ↦ ap (λ (z : Typ). is_array_shape z.shape) e | inr i ↦ wanted_scalars ps τ i ]
  wanted_scalars (FormatPiece.Text ∷ ps) τ m = elim (split_in m) [ inl e ↦ ap (λ (z : Typ). is_array_shape z.shape) e | inr i ↦ wanted_scalars ps τ i ]

  pub called_comes : (p : ℤ) (m : ℕ) {w : Word} {es : List Expression} → CallTyped fs t g w es → Plain (call_action t p m w (expressions_of es) (t.callee_of w.number))
  called_comes p m (rules.function_called {w = w} {es = es} {f = f} c e h) =
      subst (λ (z : Callee). Plain (call_action t p m w (expressions_of es) z)) (sym c.named)
      (composite_comes p w f (expressions_of es) [] c (λ all. arguments_come fs t g all h) (subst (λ (τs : List Typ). OutputsCome g [] τs) (sym e) no_output_comes))
  called_comes p m (rules.printf_called {w = w} {nd = nd} {bytes = bytes} {es = es} {ps = ps} c e h) =
      subst (λ (z : Callee). Plain (call_action t p m w (expressions_of (expression nd (text bytes) ∷ es)) z)) (sym c.named)
      (print_comes p m (computes (op.printf (format_of (expressions_of (expression nd (text bytes) ∷ es)))) (operands_of t (expressions_of es))) (λ all. printed_come fs t g all h (wanted_scalars ps)))
  called_comes p m (rules.assert_called {w = w} {c = d} {m = e} c h r) =
      subst (λ (z : Callee). Plain (call_action t p m w (expressions_of (d ∷ e ∷ [])) z)) (sym c.named)
      (assert_comes p m (computes op.assert (operands_of t (expressions_of (d ∷ e ∷ [])))) (λ all. all_two all h r))
    where
      all_two : (all : List Part) {b b' : Base} → HasType fs t g d b → HasType fs t g e b' → OperandsCome fs t g all (operands_of t (expressions_of (d ∷ e ∷ [])))
      all_two all h r = Rattle.code_laws.proofs.Coming.and_comes fs t g all d (and_expression e no_expressions) (expression_comes fs t g all h) (Rattle.code_laws.proofs.Coming.and_comes fs t g all e no_expressions (expression_comes fs t g all r) (λ z. (none_come fs t g all, tt)))

  pub when_comes : {e : Expression} {b : Base} (d : Block) → HasType fs t g e b → Fit (when (outer t e) d)
  when_comes {e = e} d h = let all = outer_parts (outer t e ∷ []) in record { parts = outer_comes all (number_of e) (form_of t e) [] (expression_comes fs t g all h) (λ p m. m) (none_come fs t g all); own = tt }

  pub choose_comes : {e : Expression} {b : Base} (d f : Block) → HasType fs t g e b → Fit (choose (outer t e) d f)
  choose_comes {e = e} d f h = let all = outer_parts (outer t e ∷ []) in record { parts = outer_comes all (number_of e) (form_of t e) [] (expression_comes fs t g all h) (λ p m. m) (none_come fs t g all); own = tt }

  range_comes : (low high : Expression) (step : Option Expression) (v : ℕ) (u : Option ℕ) (d : Block) {b c : Base} → HasType fs t g low b → HasType fs t g high c → StepType fs t g step
      → Fit (range (outer t low) (outer t high) (option_map (outer t) step) v u d)
  range_comes low high None v u d h r rules.no_step =
      let all = outer_parts (outer t low ∷ outer t high ∷ []) in
      record {
        parts = outer_comes all (number_of low) (form_of t low) (outer_parts (outer t high ∷ [])) (expression_comes fs t g all h) (λ p m. m)
            (outer_comes all (number_of high) (form_of t high) [] (expression_comes fs t g all r) (λ p m. to_right (form_of t low).0 _ (later m)) (none_come fs t g all));
        own = tt;
      }
  range_comes low high (Some step) v u d h r (rules.a_step q) =
      let all = outer_parts (outer t low ∷ outer t high ∷ outer t step ∷ []) in
      record {
        parts = outer_comes all (number_of low) (form_of t low) (outer_parts (outer t high ∷ outer t step ∷ [])) (expression_comes fs t g all h) (λ p m. m)
            (outer_comes all (number_of high) (form_of t high) (outer_parts (outer t step ∷ [])) (expression_comes fs t g all r) (λ p m. to_right (form_of t low).0 _ (later m))
            (outer_comes all (number_of step) (form_of t step) [] (expression_comes fs t g all q) (λ p m. to_right (form_of t low).0 _ (later (to_right (form_of t high).0 _ (later m)))) (none_come fs t g all)));
        own = tt;
      }

  pub loop_comes : (v : Word) (u : Option Word) (o : Over) (d : Block) {b c : Base} → SourceType fs t g o b c → Fit (loop_action t v u o d)
  loop_comes v u (T.array w) d (rules.of_elements r) = record { parts = none_come fs t g []; own = seen_as fs t g r }
  loop_comes v u (T.range low high step) d (rules.of_range h r q) = range_comes low high step v.number (option_map (λ x. x.number) u) d h r q

  awaited_comes : (sh : Shape) (x : Name) → SeesAs g x (is_array_shape sh) → AwaitedSeen g (awaited_as sh x)
  awaited_comes (Shape.Array κ) x h = h
  awaited_comes Shape.Scalar x h = h

  all_awaited : {ws : List Word} {τs : List Typ} → ReferAll t g ws τs → (x : Awaited) → x ∈ map (awaited t) ws → AwaitedSeen g x
  all_awaited rules.no_name x m = elim m [ ]
  all_awaited (rules.one_name {w = w} {τ = τ} r rest) x m = elim (split_in m) [
    | inl e ↦ subst (AwaitedSeen g) (sym e) (awaited_comes (t.shape_of w.number) (refers t w) (subst (λ (sh : Shape). SeesAs g (refers t w) (is_array_shape sh)) (sym r.shaped) (seen_as fs t g r)))
    | inr i ↦ all_awaited rest x i
  ]

  pub wait_comes : {ws : List Word} {τs : List Typ} (d : Block) → ReferAll t g ws τs → Fit (wait (map (awaited t) ws) d)
  wait_comes d r = record { parts = none_come fs t g []; own = all_awaited r }
