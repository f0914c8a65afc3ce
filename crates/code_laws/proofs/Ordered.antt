-- In a typed script each cell of a statement stands behind those whose values it names.
use Rattle.std.proofs.Common.{◌≡◌, inl, inr, ℕ, List, [], ◌∷◌, ◌++◌, refl, sym, subst, Option, Some, None, option_map, append_assoc}
use Rattle.std.specs.Prelude.{ℤ}
use Rattle.language.specs.declared.tree.Base.{Base}
use Rattle.language.specs.declared.tree.Operator.{Operator}
use Rattle.language.specs.declared.tree.Shape.{Shape}
use Rattle.language.specs.Tree as T
use Rattle.language.specs.Tree.{Word, Node, Expression, expression, number, text, truth, variable, element, call, prefixed, chain, Expressions, no_expressions, and_expression, expressions_of, RightSide, value, Calling, Over}
use Rattle.language.specs.Core.{Name, here, Expr, Exprs, whole, operator, none, also, Form, compute, read, Cell, Call, Part, inner, calls, Action, assign, insert, when, choose, range, Block}
use Rattle.language.specs.Members.{◌∈◌, first, later}
use Rattle.language.specs.Parts.{outer_parts}
use Rattle.language.specs.Resolved.{refers, number_of, Formed, Operands, Arguments, as_cell, as_operand, as_argument, variable_or_cell, call_to, call_form, form_of, operands_of, arguments_of, outer, outer_of, call_right, right_of, call_action, several, loop_action}
use Rattle.language.specs.Table as table
use Rattle.language.specs.Table.{Table, Callee, composite, built_in}
use Rattle.language.specs.Scopes.{Typ, Scope, Signature}
use Rattle.language.specs.Typing as rules
use Rattle.language.specs.Typing.{HasType, RestType, ArgumentTypes, BuiltinType, AllHaveType, RightType, StepType, SourceType, CallTyped, StatementTyped}
use Rattle.language.proofs.Members.{split_in, to_right}
use Rattle.language_laws.specs.TypedValues.{own_outer}
use Rattle.code_laws.proofs.Scoping.{Comes, of_scope, of_cell, of_call, ExprComes, AllCome, FormComes, before}
use Rattle.code_laws.proofs.Coming.{seen_as, expression_comes}

-- WHAT STANDS BEFORE

abbrev pub Among : List Part → List Part → Type 0
Among ps qs = (p : Part) → p ∈ ps → p ∈ qs

comes_more : {g : Scope} {ps qs : List Part} {x : Name} → Among ps qs → Comes g ps x → Comes g qs x
comes_more f (of_scope s) = of_scope s
comes_more f (of_cell {n = n} {i = i} {a = a} m) = of_cell (f (inner (record { node = n; form = read a i })) m)
comes_more f (of_call {c = c} m e) = of_call {c = c} (f (calls c) m) e

-- a cell's names stand before it, and so does the index of an element that it reads
abbrev pub Before : Scope → List Part → Form → Type 0
Before g ps (compute e) = ExprComes g ps e
Before g ps (read a i) = (d : Cell) × (inner d ∈ ps) × (d.node ≡ i)

-- and so on, behind parts that stand already
abbrev pub Ordered : Scope → List Part → List Part → Type 0
Ordered g qs [] = Unit {0}
Ordered g qs (inner c ∷ ps) = Before g qs c.form × Ordered g (inner c ∷ qs) ps
Ordered g qs (calls c ∷ ps) = Ordered g (calls c ∷ qs) ps

with_one : (p : Part) {qs rs : List Part} → Among qs rs → Among (p ∷ qs) (p ∷ rs)
with_one p {qs} {rs} f q m = elim (split_in m) [ inl e ↦ subst (λ (z : Part). z ∈ (p ∷ rs)) (sym e) first | inr i ↦ later (f q i) ]

nothing : (qs : List Part) → Among [] qs
nothing qs p m = elim m [ ]

module _ (g : Scope) where
  mutual
    expr_more : (ps qs : List Part) (e : Expr) → Among ps qs → ExprComes g ps e → ExprComes g qs e
    expr_more ps qs (Rattle.language.specs.Core.literal v) f h = tt
    expr_more ps qs (Rattle.language.specs.Core.name x) f h = comes_more f h
    expr_more ps qs (whole a) f h = h
    expr_more ps qs (operator o es) f h = exprs_more ps qs es f h

    exprs_more : (ps qs : List Part) (es : Exprs) → Among ps qs → AllCome g ps es → AllCome g qs es
    exprs_more ps qs none f h = tt
    exprs_more ps qs (also e es) f h = (expr_more ps qs e f h.0, exprs_more ps qs es f h.1)

  pub before_more : (ps qs : List Part) (f : Form) → Among ps qs → Before g ps f → Before g qs f
  before_more ps qs (compute e) s h = expr_more ps qs e s h
  before_more ps qs (read a i) s h = (h.0, s (inner h.0) h.1, h.2)

  more : (qs rs ps : List Part) → Among qs rs → Ordered g qs ps → Ordered g rs ps
  more qs rs [] f h = tt
  more qs rs (inner c ∷ ps) f h = (before_more qs rs c.form f h.0, more (inner c ∷ qs) (inner c ∷ rs) ps (with_one (inner c) f) h.1)
  more qs rs (calls c ∷ ps) f h = more (calls c ∷ qs) (calls c ∷ rs) ps (with_one (calls c) f) h

  both : (qs ps rs : List Part) → Ordered g qs ps → Ordered g [] rs → Ordered g qs (ps ++ rs)
  both qs [] rs h k = more [] qs rs (nothing qs) k
  both qs (inner c ∷ ps) rs h k = (h.0, both (inner c ∷ qs) ps rs h.1 k)
  both qs (calls c ∷ ps) rs h k = both (calls c ∷ qs) ps rs h k

  -- what stands among parts with one more, where the one is there
  among_one : (p : Part) (ps all : List Part) → p ∈ all → Among ps all → Among (p ∷ ps) all
  among_one p ps all i f q m = elim (split_in m) [ inl e ↦ subst (λ (z : Part). z ∈ all) (sym e) i | inr j ↦ f q j ]

  -- a cell behind its parts
  snoc : (ps qs : List Part) (c : Cell) → Ordered g qs ps → ((all : List Part) → Among ps all → Among qs all → Before g all c.form) → Ordered g qs (ps ++ inner c ∷ [])
  snoc [] qs c h f = (f qs (nothing qs) (λ p m. m), tt)
  snoc (inner d ∷ ps) qs c h f = (h.0, snoc ps (inner d ∷ qs) c h.1 (λ all a b. f all (among_one (inner d) ps all (b (inner d) first) a) (λ p m. b p (later m))))
  snoc (calls d ∷ ps) qs c h f = snoc ps (calls d ∷ qs) c h (λ all a b. f all (among_one (calls d) ps all (b (calls d) first) a) (λ p m. b p (later m)))

  -- what a cell is, behind its parts
  abbrev OrderedFormed : Formed → Type 0
  OrderedFormed f = Ordered g [] f.0 × Before g f.0 f.1

  cell_ordered : (n : ℕ) (f : Formed) → OrderedFormed f → Ordered g [] (as_cell n f)
  cell_ordered n f h = snoc f.0 [] (record { node = n; form = f.1 }) h.0 (λ all a b. before_more f.0 all f.1 a h.1)

  operand_ordered : (n : ℕ) (f : Formed) → OrderedFormed f → Ordered g [] (as_operand n f).0
  operand_ordered n (ps, compute e) h = h.0
  operand_ordered n (ps, read a i) h = cell_ordered n (ps, read a i) h

  call_ordered : (ps : List Part) (c : Call) → Ordered g [] ps → Ordered g [] (ps ++ calls c ∷ [])
  call_ordered ps c h = both [] ps (calls c ∷ []) h tt

  outer_ordered : (n : ℕ) (f : Formed) (ps : List Part) → OrderedFormed f → Ordered g [] ps → Ordered g [] (f.0 ++ inner (record { node = n; form = f.1 }) ∷ ps)
  outer_ordered n f ps h k = subst (λ (z : List Part). Ordered g [] z) (append_assoc f.0 (inner (record { node = n; form = f.1 }) ∷ []) ps) (both [] (as_cell n f) ps (cell_ordered n f h) k)

  own_ordered : (n : ℕ) (f : Formed) → OrderedFormed f → Ordered g [] (own_outer (outer_of n f))
  own_ordered n (ps, compute e) h = both [] ps [] h.0 tt
  own_ordered n (ps, read a i) h = cell_ordered n (ps, read a i) h

module _ (fs : List Signature) (t : Table) (g : Scope) where
  -- EXPRESSIONS

  abbrev FormedOk : Formed → Type 0
  FormedOk f = OrderedFormed g f

  call_before : (w : Word) (c : Callee) (es : Expressions) (xs : Arguments) (os : Operands) → FormComes g (call_form t w c es xs os).0 (call_form t w c es xs os).1 → Before g (call_form t w c es xs os).0 (call_form t w c es xs os).1
  call_before w (composite i) es xs os h = h
  call_before w (built_in table.size) es xs os h = h
  call_before w (built_in table.strcat) es xs os h = h
  call_before w (built_in table.fromint) es xs os h = h
  call_before w (built_in table.toint) es xs os h = h
  call_before w (built_in table.printf) es xs os h = h
  call_before w (built_in table.assert) es xs os h = h

  own_comes : {e : Expression} {b : Base} → HasType fs t g e b → FormComes g (form_of t e).0 (form_of t e).1
  own_comes {e} h = (expression_comes fs t g (form_of t e).0 h (λ p m. m)).1

  cell_at : (n : ℕ) (f : Formed) → (d : Cell) × (inner d ∈ as_cell n f) × (d.node ≡ n)
  cell_at n f = (record { node = n; form = f.1 }, to_right f.0 (inner (record { node = n; form = f.1 }) ∷ []) first, refl)

  formed_before : {e : Expression} {b : Base} → HasType fs t g e b → Before g (form_of t e).0 (form_of t e).1
  formed_before rules.of_number = tt
  formed_before rules.of_text = tt
  formed_before rules.of_truth = tt
  formed_before (rules.of_variable r) = of_scope (seen_as fs t g r)
  formed_before (rules.of_element {i = i} r h) = cell_at (number_of i) (form_of t i)
  formed_before (rules.of_prefixed {nd = nd} p h) = own_comes (rules.of_prefixed {nd = nd} p h)
  formed_before (rules.of_chain {nd = nd} h r) = own_comes (rules.of_chain {nd = nd} h r)
  formed_before (rules.of_call {nd = nd} {w = w} {es = es} c h e) = call_before w (t.callee_of w.number) es (arguments_of t es) (operands_of t es) (own_comes (rules.of_call {nd = nd} c h e))
  formed_before (rules.of_builtin {nd = nd} {w = w} {es = es} c h) = call_before w (t.callee_of w.number) es (arguments_of t es) (operands_of t es) (own_comes (rules.of_builtin {nd = nd} c h))

  and_ordered : (e : Expression) (es : Expressions) → FormedOk (form_of t e) → Ordered g [] (operands_of t es).0 → Ordered g [] (operands_of t (and_expression e es)).0
  and_ordered e es h k = both g [] (as_operand (number_of e) (form_of t e)).0 (operands_of t es).0 (operand_ordered g (number_of e) (form_of t e) h) k

  argument_ordered : {e : Expression} {b : Base} → HasType fs t g e b → FormedOk (form_of t e) → Ordered g [] (as_argument t e (form_of t e)).0
  argument_ordered (rules.of_number {nd = nd} {z = z}) h = cell_ordered g nd.number (form_of t (expression nd (number z))) h
  argument_ordered (rules.of_text {nd = nd} {bytes = z}) h = cell_ordered g nd.number (form_of t (expression nd (text z))) h
  argument_ordered (rules.of_truth {nd = nd} {b = z}) h = cell_ordered g nd.number (form_of t (expression nd (truth z))) h
  argument_ordered (rules.of_variable {nd = nd} {w = w} r) h =
      subst (λ (sh : Shape). Ordered g [] (variable_or_cell sh t w nd.number (form_of t (expression nd (variable w)))).0) (sym r.shaped) (cell_ordered g nd.number (form_of t (expression nd (variable w))) h)
  argument_ordered (rules.of_element {nd = nd} {w = w} {i = i} r k) h = cell_ordered g nd.number (form_of t (expression nd (element w i))) h
  argument_ordered (rules.of_prefixed {nd = nd} {p = p} {e = e} q k) h = cell_ordered g nd.number (form_of t (expression nd (prefixed p e))) h
  argument_ordered (rules.of_chain {nd = nd} {os = os} {e = e} {es = es} k r) h = cell_ordered g nd.number (form_of t (expression nd (chain os (and_expression e es)))) h
  argument_ordered (rules.of_call {nd = nd} {w = w} {es = es} c k e) h = cell_ordered g nd.number (form_of t (expression nd (call w es))) h
  argument_ordered (rules.of_builtin {nd = nd} {w = w} {es = es} c k) h = cell_ordered g nd.number (form_of t (expression nd (call w es))) h

  mutual
    expression_ordered : {e : Expression} {b : Base} → HasType fs t g e b → Ordered g [] (form_of t e).0
    expression_ordered rules.of_number = tt
    expression_ordered rules.of_text = tt
    expression_ordered rules.of_truth = tt
    expression_ordered (rules.of_variable r) = tt
    expression_ordered (rules.of_element {i = i} r h) = cell_ordered g (number_of i) (form_of t i) (expression_ordered h, formed_before h)
    expression_ordered (rules.of_prefixed {e = e} p h) = operand_ordered g (number_of e) (form_of t e) (expression_ordered h, formed_before h)
    expression_ordered (rules.of_chain {e = e} {es = es} h r) = and_ordered e es (expression_ordered h, formed_before h) (rest_ordered r)
    expression_ordered (rules.of_call {w = w} {es = es} c h e) =
        subst (λ (z : Callee). Ordered g [] (call_form t w z es (arguments_of t es) (operands_of t es)).0) (sym c.named) (call_ordered g (arguments_of t es).0 (call_to w c.place (arguments_of t es).1 (here w.number ∷ [])) (arguments_ordered h))
    expression_ordered (rules.of_builtin {w = w} {es = es} c h) = subst (λ (z : Callee). Ordered g [] (call_form t w z es (arguments_of t es) (operands_of t es)).0) (sym c.named) (builtin_ordered w (arguments_of t es) h)

    rest_ordered : {os : List Operator} {es : Expressions} {b c : Base} → RestType fs t g os es b c → Ordered g [] (operands_of t es).0
    rest_ordered (rules.last_operand {e = e} o h) = and_ordered e no_expressions (expression_ordered h, formed_before h) tt
    rest_ordered (rules.next_operand {e = e} {es = es} o h r) = and_ordered e es (expression_ordered h, formed_before h) (rest_ordered r)

    arguments_ordered : {es : Expressions} {τs : List Typ} → ArgumentTypes fs t g es τs → Ordered g [] (arguments_of t es).0
    arguments_ordered rules.no_argument = tt
    arguments_ordered (rules.scalar_argument {e = e} {es = es} h r) =
        both g [] (as_argument t e (form_of t e)).0 (arguments_of t es).0 (argument_ordered h (expression_ordered h, formed_before h)) (arguments_ordered r)
    arguments_ordered (rules.array_argument {nd = nd} {w = w} {es = es} r rest) =
        subst (λ (sh : Shape). Ordered g [] ((variable_or_cell sh t w nd.number (form_of t (expression nd (variable w)))).0 ++ (arguments_of t es).0)) (sym r.shaped) (arguments_ordered rest)

    builtin_ordered : {f : table.Builtin} {es : Expressions} {b : Base} (w : Word) (xs : Arguments) → BuiltinType fs t g f es b → Ordered g [] (call_form t w (built_in f) es xs (operands_of t es)).0
    builtin_ordered w xs (rules.of_strcat h) = all_ordered h
    builtin_ordered w xs (rules.of_fromint {e = e} h) = and_ordered e no_expressions (expression_ordered h, formed_before h) tt
    builtin_ordered w xs (rules.of_toint {e = e} h) = and_ordered e no_expressions (expression_ordered h, formed_before h) tt
    builtin_ordered w xs (rules.of_size r) = tt

    all_ordered : {es : Expressions} {b : Base} → AllHaveType fs t g es b → Ordered g [] (operands_of t es).0
    all_ordered rules.none_left = tt
    all_ordered (rules.one_more {e = e} {es = es} h r) = and_ordered e es (expression_ordered h, formed_before h) (all_ordered r)

  formed_ordered : {e : Expression} {b : Base} → HasType fs t g e b → FormedOk (form_of t e)
  formed_ordered h = (expression_ordered h, formed_before h)

  -- what printf prints
  printed_ordered : {es : Expressions} {τs : List Typ} → ArgumentTypes fs t g es τs → Ordered g [] (operands_of t es).0
  printed_ordered rules.no_argument = tt
  printed_ordered (rules.scalar_argument {e = e} {es = es} h r) = and_ordered e es (formed_ordered h) (printed_ordered r)
  printed_ordered (rules.array_argument rest refers) = printed_ordered refers

  -- STATEMENTS

  abbrev pub Fine : Action → Type 0
  Fine a = Ordered g [] (before a)

  assign_fine : {e : Expression} {b : Base} (x : Name) → HasType fs t g e b → Fine (assign x (outer t e))
  assign_fine {e} x h = own_ordered g (number_of e) (form_of t e) (formed_ordered h)

  scalar_fine : (x : Name) {e : Expression} {b : Base} → HasType fs t g e b → Fine (right_of t x Shape.Scalar (value e))
  scalar_fine x (rules.of_number {nd = nd} {z = z}) = assign_fine x (rules.of_number {nd = nd} {z = z})
  scalar_fine x (rules.of_text {nd = nd} {bytes = z}) = assign_fine x (rules.of_text {nd = nd} {bytes = z})
  scalar_fine x (rules.of_truth {nd = nd} {b = z}) = assign_fine x (rules.of_truth {nd = nd} {b = z})
  scalar_fine x (rules.of_variable {nd = nd} {w = w} r) = assign_fine x (rules.of_variable {nd = nd} {w = w} r)
  scalar_fine x (rules.of_element {nd = nd} {w = w} {i = i} r h) = assign_fine x (rules.of_element {nd = nd} {w = w} {i = i} r h)
  scalar_fine x (rules.of_prefixed {nd = nd} {p = p} {e = e} q h) = assign_fine x (rules.of_prefixed {nd = nd} {p = p} {e = e} q h)
  scalar_fine x (rules.of_chain {nd = nd} {os = os} {e = e} {es = es} h r) = assign_fine x (rules.of_chain {nd = nd} {os = os} {e = e} {es = es} h r)
  scalar_fine x (rules.of_call {nd = nd} {w = w} {es = es} c h e) =
      subst (λ (z : Callee). Fine (call_right t x (expression nd (call w es)) w es z)) (sym c.named) (arguments_ordered h)
  scalar_fine x (rules.of_builtin {nd = nd} {w = w} {es = es} c h) =
      subst (λ (z : Callee). Fine (call_right t x (expression nd (call w es)) w es z)) (sym c.named) (assign_fine x (rules.of_builtin {nd = nd} {w = w} {es = es} c h))

  pub right_fine : (x : Name) {r : RightSide} {τ : Typ} → RightType fs t g r τ → Fine (right_of t x τ.shape r)
  right_fine x (rules.of_scalar h) = scalar_fine x h
  right_fine x (rules.of_copy r) = tt
  right_fine x (rules.of_list {es = es} h) = both g [] (operands_of t (expressions_of es)).0 [] (all_ordered h) tt
  right_fine x (rules.of_array_call {nd = nd} {w = w} {es = es} c h e) =
      subst (λ (z : Callee). Fine (call_right t x (expression nd (call w es)) w es z)) (sym c.named) (arguments_ordered h)

  one_outer : {e : Expression} {b : Base} (ps : List Part) → HasType fs t g e b → Ordered g [] ps → Ordered g [] ((form_of t e).0 ++ inner (record { node = number_of e; form = (form_of t e).1 }) ∷ ps)
  one_outer {e} ps h k = outer_ordered g (number_of e) (form_of t e) ps (formed_ordered h) k

  pub write_fine : (x : Name) {i e : Expression} {b c : Base} → HasType fs t g i b → HasType fs t g e c → Fine (insert x (outer t i) (outer t e))
  write_fine x {i} {e} h r = one_outer (outer_parts (outer t e ∷ [])) h (one_outer [] r tt)

  pub several_fine : (nd : Node) (ws : List Word) (c : Calling) (h : Scope) → StatementTyped fs t g (T.statement nd (T.assign_all ws c)) h → Fine (several t c.node.number c.name (expressions_of c.arguments) (Rattle.std.specs.Prelude.map (refers t) ws) (t.callee_of c.name.number)) × (g ≡ h)
  several_fine nd ws c h (rules.several names called fit) =
      (subst (λ (z : Callee). Fine (several t c.node.number c.name (expressions_of c.arguments) (Rattle.std.specs.Prelude.map (refers t) ws) z)) (sym called.named) (arguments_ordered fit), refl)
  several_fine nd ws c h (rules.several_builtin {w = w} {f = f} r called fit) = (
    subst (λ (z : Callee). Fine (several t c.node.number c.name (expressions_of c.arguments) (refers t w ∷ []) z)) (sym called.named)
        (own_ordered g c.node.number (call_form t c.name (built_in f) (expressions_of c.arguments) ([], []) (operands_of t (expressions_of c.arguments)))
        (builtin_ordered c.name ([], []) fit, builtin_before fit)),
    refl,
  )
    where
      builtin_before : {h : table.Builtin} {b : Base} → BuiltinType fs t g h (expressions_of c.arguments) b
          → Before g (call_form t c.name (built_in h) (expressions_of c.arguments) ([], []) (operands_of t (expressions_of c.arguments))).0 (call_form t c.name (built_in h) (expressions_of c.arguments) ([], []) (operands_of t (expressions_of c.arguments))).1
      builtin_before {h} x = call_before c.name (built_in h) (expressions_of c.arguments) ([], []) (operands_of t (expressions_of c.arguments)) (Rattle.code_laws.proofs.Coming.builtin_comes fs t g _ c.name ([], []) x (λ p m. m)).1

  pub called_fine : (p : ℤ) (m : ℕ) {w : Word} {es : List Expression} → CallTyped fs t g w es → Fine (call_action t p m w (expressions_of es) (t.callee_of w.number))
  called_fine p m (rules.function_called {w = w} {es = es} c e h) = subst (λ (z : Callee). Fine (call_action t p m w (expressions_of es) z)) (sym c.named) (arguments_ordered h)
  called_fine p m (rules.printf_called {w = w} {nd = nd} {bytes = bytes} {es = es} c e h) =
      subst (λ (z : Callee). Fine (call_action t p m w (expressions_of (expression nd (text bytes) ∷ es)) z)) (sym c.named) (both g [] (operands_of t (expressions_of es)).0 [] (printed_ordered h) tt)
  called_fine p m (rules.assert_called {w = w} {c = d} {m = e} c h r) =
      subst (λ (z : Callee). Fine (call_action t p m w (expressions_of (d ∷ e ∷ [])) z)) (sym c.named)
      (both g [] (operands_of t (expressions_of (d ∷ e ∷ []))).0 [] (and_ordered d (and_expression e no_expressions) (formed_ordered h) (and_ordered e no_expressions (formed_ordered r) tt)) tt)

  pub when_fine : {e : Expression} {b : Base} (d : Block) → HasType fs t g e b → Fine (when (outer t e) d)
  when_fine d h = one_outer [] h tt

  pub choose_fine : {e : Expression} {b : Base} (d f : Block) → HasType fs t g e b → Fine (choose (outer t e) d f)
  choose_fine d f h = one_outer [] h tt

  range_fine : (low high : Expression) (step : Option Expression) (v : ℕ) (u : Option ℕ) (d : Block) {b c : Base} → HasType fs t g low b → HasType fs t g high c → StepType fs t g step → Fine (range (outer t low) (outer t high) (option_map (outer t) step) v u d)
  range_fine low high None v u d h r rules.no_step = one_outer (outer_parts (outer t high ∷ [])) h (one_outer [] r tt)
  range_fine low high (Some step) v u d h r (rules.a_step q) = one_outer (outer_parts (outer t high ∷ outer t step ∷ [])) h (one_outer (outer_parts (outer t step ∷ [])) r (one_outer [] q tt))

  pub loop_fine : (v : Word) (u : Option Word) (o : Over) (d : Block) {b c : Base} → SourceType fs t g o b c → Fine (loop_action t v u o d)
  loop_fine v u (T.array w) d (rules.of_elements r) = tt
  loop_fine v u (T.range low high step) d (rules.of_range h r q) = range_fine low high step v.number (option_map (λ x. x.number) u) d h r q
