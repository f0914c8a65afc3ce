-- Where the names in the parts of typed expressions and statements come from.
use Rattle.std.specs.Prelude.{◌≡◌, ℕ, false, List, [], ◌∷◌, ◌++◌, refl}
use Rattle.std.proofs.Common.{inl, inr, sym, ap, subst}
use Rattle.language.specs.declared.tree.Base.{Base}
use Rattle.language.specs.declared.tree.Operator.{Operator}
use Rattle.language.specs.declared.tree.Shape.{Shape}
use Rattle.language.specs.Tree.{Word, Expression, expression, number, text, truth, variable, element, call, prefixed, chain, Expressions, no_expressions, and_expression}
use Rattle.language.specs.Core.{Name, here, Expr, whole, Form, compute, read, Cell, Call, Part, inner, calls, Awaited, Action, declare, assign, fill, insert, print, assert, when, choose, range, each, wait, Block}
use Rattle.language.specs.Members.{◌∈◌, first, later}
use Rattle.language.specs.Resolved.{refers, Formed, Operands, Arguments, form_of, operands_of, arguments_of, as_cell, as_operand, as_argument, variable_or_cell, call_form, call_to, number_of}
use Rattle.language.specs.Table.{Table, Builtin, Callee, built_in}
use Rattle.language.specs.Scopes.{Typ, one_of, many_of, Scope, Signature, Refers, Calls}
use Rattle.language.specs.Typing as rules
use Rattle.language.specs.Typing.{HasType, RestType, ArgumentTypes, BuiltinType, AllHaveType, RightType, ReferAll, StepType, SourceType, CallTyped, StatementTyped}
use Rattle.language.proofs.Members.{split_in, either, to_left, to_right}
use Rattle.code_laws.specs.Described.{is_array_shape}
use Rattle.code_laws.proofs.Scoping.{SeesAs, of_scope, of_cell, of_call, ExprComes, AllCome, FormComes, InputsCome, no_input_comes, array_comes, cell_comes, PartComes, PartsCome}

module _ (fs : List Signature) (t : Table) (g : Scope) where
  pub seen_as : {w : Word} {τ : Typ} → Refers g t w τ → SeesAs g (refers t w) (is_array_shape τ.shape)
  seen_as r = record { variable = r.variable; visible = r.visible; is = r.named; shape = ap (λ (τ : Typ). is_array_shape τ.shape) r.typed }

  module _ (all : List Part) where
    abbrev pub Sub : List Part → Type 0
    Sub ps = (p : Part) → p ∈ ps → p ∈ all

    left_sub : (ps qs : List Part) → Sub (ps ++ qs) → Sub ps
    left_sub ps qs s p m = s p (to_left ps qs m)

    right_sub : (ps qs : List Part) → Sub (ps ++ qs) → Sub qs
    right_sub ps qs s p m = s p (to_right ps qs m)

    pub none_come : PartsCome fs g all []
    none_come p m = elim m [ ]

    pub both_come : (ps qs : List Part) → PartsCome fs g all ps → PartsCome fs g all qs → PartsCome fs g all (ps ++ qs)
    both_come ps qs h k p m = elim (either ps qs m) [ inl i ↦ h p i | inr i ↦ k p i ]

    pub one_comes : (p : Part) (ps : List Part) → PartComes fs g all p → PartsCome fs g all ps → PartsCome fs g all (p ∷ ps)
    one_comes p ps h k q m = elim (split_in m) [ inl e ↦ subst (PartComes fs g all) (sym e) h | inr i ↦ k q i ]

    -- the parts before a cell, and what it is
    abbrev pub FormedComes : Formed → Type 0
    FormedComes f = Sub f.0 → PartsCome fs g all f.0 × FormComes g all f.1

    abbrev pub OperandsCome : Operands → Type 0
    OperandsCome o = Sub o.0 → PartsCome fs g all o.0 × AllCome g all o.1

    abbrev pub ArgumentsCome : Arguments → List Typ → Type 0
    ArgumentsCome a τs = Sub a.0 → PartsCome fs g all a.0 × InputsCome g all a.1 τs

    cell_parts : (m : ℕ) (f : Formed) → FormedComes f → Sub (as_cell m f) → PartsCome fs g all (as_cell m f)
    cell_parts m f h s =
        let q = h (left_sub f.0 _ s) in
        both_come f.0 (inner (record { node = m; form = f.1 }) ∷ []) q.0 (one_comes (inner (record { node = m; form = f.1 })) [] q.1 none_come)

    cell_there : (m : ℕ) (f : Formed) → Sub (as_cell m f) → inner (record { node = m; form = f.1 }) ∈ all
    cell_there m f s = right_sub f.0 (inner (record { node = m; form = f.1 }) ∷ []) s _ first

    operand_comes : (m : ℕ) (f : Formed) → FormedComes f → Sub (as_operand m f).0 → PartsCome fs g all (as_operand m f).0 × ExprComes g all (as_operand m f).1
    operand_comes m (ps, compute e) h s = h s
    operand_comes m (ps, read a i) h s = (cell_parts m (ps, read a i) h s, of_cell (cell_there m (ps, read a i) s))

    pub and_comes : (e : Expression) (es : Expressions) → FormedComes (form_of t e) → OperandsCome (operands_of t es) → OperandsCome (operands_of t (and_expression e es))
    and_comes e es h k s =
        let ps = (as_operand (number_of e) (form_of t e)).0 in
        let q = operand_comes (number_of e) (form_of t e) h (left_sub ps (operands_of t es).0 s) in
        let r = k (right_sub ps (operands_of t es).0 s) in
        (both_come ps (operands_of t es).0 q.0 r.0, (q.1, r.1))

    -- an argument that is a scalar is a cell
    abbrev CellArgument : List Part × Name → Type 0
    CellArgument a = Sub a.0 → PartsCome fs g all a.0 × ((c : Cell) × (inner c ∈ all) × (a.1 ≡ here c.node))

    cell_argument : (m : ℕ) (f : Formed) → FormedComes f → CellArgument (as_cell m f, here m)
    cell_argument m f h s = (cell_parts m f h s, (record { node = m; form = f.1 }, cell_there m f s, refl))

    scalar_argument : {e : Expression} {b : Base} → HasType fs t g e b → FormedComes (form_of t e) → CellArgument (as_argument t e (form_of t e))
    scalar_argument (rules.of_number {nd = nd} {z = z}) h = cell_argument nd.number (form_of t (expression nd (number z))) h
    scalar_argument (rules.of_text {nd = nd} {bytes = z}) h = cell_argument nd.number (form_of t (expression nd (text z))) h
    scalar_argument (rules.of_truth {nd = nd} {b = z}) h = cell_argument nd.number (form_of t (expression nd (truth z))) h
    scalar_argument (rules.of_variable {nd = nd} {w = w} r) h =
        subst (λ (sh : Shape). CellArgument (variable_or_cell sh t w nd.number (form_of t (expression nd (variable w))))) (sym r.shaped) (cell_argument nd.number (form_of t (expression nd (variable w))) h)
    scalar_argument (rules.of_element {nd = nd} {w = w} {i = i} r k) h = cell_argument nd.number (form_of t (expression nd (element w i))) h
    scalar_argument (rules.of_prefixed {nd = nd} {p = p} {e = e} q k) h = cell_argument nd.number (form_of t (expression nd (prefixed p e))) h
    scalar_argument (rules.of_chain {nd = nd} {os = os} {e = e} {es = es} k r) h = cell_argument nd.number (form_of t (expression nd (chain os (and_expression e es)))) h
    scalar_argument (rules.of_call {nd = nd} {w = w} {es = es} c k e) h = cell_argument nd.number (form_of t (expression nd (call w es))) h
    scalar_argument (rules.of_builtin {nd = nd} {w = w} {es = es} c k) h = cell_argument nd.number (form_of t (expression nd (call w es))) h

    behind_call : (w : Word) (f : Signature) (es : Expressions) (n : ℕ) (b : Base) → (c : Calls fs t w f) → f.outputs ≡ one_of b ∷ [] → ArgumentsCome (arguments_of t es) f.inputs
        → FormedComes ((arguments_of t es).0 ++ calls (call_to w c.place (arguments_of t es).1 (here n ∷ [])) ∷ [], compute (Rattle.language.specs.Core.name (here n)))
    behind_call w f es n b c e h s =
        let k = call_to w c.place (arguments_of t es).1 (here n ∷ []) in
        let q = h (left_sub (arguments_of t es).0 _ s) in (
          both_come (arguments_of t es).0 (calls k ∷ []) q.0
              (one_comes (calls k) [] (record { signature = f; there = c.there; inputs = q.1; outputs = record { node = n; is = refl; type = one_of b; typed = e; scalar = refl } }) none_come),
          of_call {c = k} (right_sub (arguments_of t es).0 (calls k ∷ []) s _ first) refl,
        )

    mutual
      pub expression_comes : {e : Expression} {b : Base} → HasType fs t g e b → FormedComes (form_of t e)
      expression_comes rules.of_number s = (none_come, tt)
      expression_comes rules.of_text s = (none_come, tt)
      expression_comes rules.of_truth s = (none_come, tt)
      expression_comes (rules.of_variable r) s = (none_come, of_scope (seen_as r))
      expression_comes (rules.of_element {i = i} r h) s = (cell_parts (number_of i) (form_of t i) (expression_comes h) s, seen_as r)
      expression_comes (rules.of_prefixed {e = e} p h) s = let q = operand_comes (number_of e) (form_of t e) (expression_comes h) s in (q.0, (q.1, tt))
      expression_comes (rules.of_chain {e = e} {es = es} h r) s = and_comes e es (expression_comes h) (rest_comes r) s
      expression_comes (rules.of_call {w = w} {es = es} {f = f} {b = b} c h e) s =
          subst (λ (z : Callee). FormedComes (call_form t w z es (arguments_of t es) (operands_of t es))) (sym c.named) (behind_call w f es w.number b c e (arguments_come h)) s
      expression_comes (rules.of_builtin {w = w} {es = es} {f = f} c h) s =
          subst (λ (z : Callee). FormedComes (call_form t w z es (arguments_of t es) (operands_of t es))) (sym c.named) (builtin_comes w (arguments_of t es) h) s

      rest_comes : {os : List Operator} {es : Expressions} {b c : Base} → RestType fs t g os es b c → OperandsCome (operands_of t es)
      rest_comes (rules.last_operand {e = e} o h) s = and_comes e no_expressions (expression_comes h) (λ z. (none_come, tt)) s
      rest_comes (rules.next_operand {e = e} {es = es} o h r) s = and_comes e es (expression_comes h) (rest_comes r) s

      pub arguments_come : {es : Expressions} {τs : List Typ} → ArgumentTypes fs t g es τs → ArgumentsCome (arguments_of t es) τs
      arguments_come rules.no_argument s = (none_come, no_input_comes)
      arguments_come (rules.scalar_argument {e = e} {es = es} h r) s =
          let ps = (as_argument t e (form_of t e)).0 in
          let q = scalar_argument h (expression_comes h) (left_sub ps (arguments_of t es).0 s) in
          let k = arguments_come r (right_sub ps (arguments_of t es).0 s) in
          (both_come ps (arguments_of t es).0 q.0 k.0, cell_comes refl (q.1).1 (q.1).2 k.1)
      arguments_come (rules.array_argument {nd = nd} {w = w} {es = es} {κ = κ} {b = b} {τs = τs} h r) s =
          subst (λ (sh : Shape). ArgumentsCome ((variable_or_cell sh t w nd.number (form_of t (expression nd (variable w)))).0 ++ (arguments_of t es).0, (variable_or_cell sh t w nd.number (form_of t (expression nd (variable w)))).1 ∷ (arguments_of t es).1) (many_of κ b ∷ τs)) (sym h.shaped)
          (λ z. (let k = arguments_come r z in (k.0, array_comes refl (seen_as h) k.1))) s

      pub builtin_comes : {f : Builtin} {es : Expressions} {b : Base} (w : Word) (xs : Arguments) → BuiltinType fs t g f es b → FormedComes (call_form t w (built_in f) es xs (operands_of t es))
      builtin_comes w xs (rules.of_strcat h) s = all_come h s
      builtin_comes w xs (rules.of_fromint {e = e} h) s = and_comes e no_expressions (expression_comes h) (λ z. (none_come, tt)) s
      builtin_comes w xs (rules.of_toint {e = e} h) s = and_comes e no_expressions (expression_comes h) (λ z. (none_come, tt)) s
      builtin_comes w xs (rules.of_size {w = a} r) s = (none_come, (seen_as r, tt))

      pub all_come : {es : Expressions} {b : Base} → AllHaveType fs t g es b → OperandsCome (operands_of t es)
      all_come rules.none_left s = (none_come, tt)
      all_come (rules.one_more {e = e} {es = es} h r) s = and_comes e es (expression_comes h) (all_come r) s

    -- what is printed
    pub printed_come : {es : Expressions} {bs : List Typ} → ArgumentTypes fs t g es bs → ((τ : Typ) → τ ∈ bs → is_array_shape τ.shape ≡ false) → OperandsCome (operands_of t es)
    printed_come rules.no_argument k s = (none_come, tt)
    printed_come (rules.scalar_argument {e = e} {es = es} h r) k s = and_comes e es (expression_comes h) (printed_come r (λ τ m. k τ (later m))) s
    printed_come (rules.array_argument {κ = κ} {b = b} h r) k s = absurd (let q = k (many_of κ b) first in cc (q))
