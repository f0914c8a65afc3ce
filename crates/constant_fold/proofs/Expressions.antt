-- A folded expression of a well typed script is the same in the core.
use Rattle.std.specs.Prelude.{◌≡◌, ℕ, ℤ, pos, List, [], ◌∷◌, ◌++◌, Option, Some, None, slice_get, refl}
use Rattle.std.proofs.Common.{sym, ap, subst, ◌∙◌}
use Rattle.std.proofs.lemmas.List.{append-nil}
use Rattle.std.proofs.lemmas.Option.{none-some, same_Some}
use Rattle.values.specs.declared.value.Scalar.{Scalar}
use Rattle.values.specs.declared.value.Scalar.TheVariants.{Number, Truth, Text}
use Rattle.values.specs.Operators as op
use Rattle.values.specs.Operators.{Operation}
use Rattle.language.specs.declared.tree.Base.{Base}
use Rattle.language.specs.declared.tree.Operator.{Operator}
use Rattle.language.specs.declared.tree.Prefix.{Prefix}
use Rattle.language.specs.declared.tree.Shape.{Shape}
use Rattle.language.specs.Core as C
use Rattle.language.specs.Core.{Name, assign, here, Expr, Exprs, none, also, compute, read, name, Part, inner, calls}
use Rattle.language.specs.Resolved.{Formed, Arguments, as_operand, one_operand, with_operand, as_argument, computes, call_to, call_form, call_right, composite_call, right_of, form_in, operands_of, arguments_of, chain_operation, prefix_operation}
use Rattle.language.specs.Scopes.{Typ, Scope, Signature, IsBuiltinName}
use Rattle.language.specs.Table as table
use Rattle.language.specs.Table.{Table, Builtin, builtin_text, Callee, composite, built_in}
use Rattle.language.specs.Tree.{Word, Node, value, Expression, expression, variable, element, call, prefixed, chain, Expressions, no_expressions, and_expression}
use Rattle.language.specs.Typing.{HasType, of_number, of_text, of_truth, of_variable, of_element, of_prefixed, of_chain, of_call, of_builtin, RestType, last_operand, next_operand, ArgumentTypes, no_argument, scalar_argument, array_argument, of_strcat, of_fromint, of_toint, of_size, AllHaveType, none_left, one_more}
use Rattle.fold_laws.specs.Same.{AllComeTo, no_operand, operand, same_none, same_also, Pairwise, no_pair, a_pair, same_compute, same_read, same_name, SamePart, same_call, SameAction, same_call_alone}
use Rattle.fold_laws.proofs.Listed.{pairs_both}
use Rattle.constant_fold.specs.Folded.{also_scalar, scalars_of, called_operation, called, folded, folded_form, folded_all}
use Rattle.constant_fold.specs.Literals.{scalar_in}
use Rattle.constant_fold.proofs.Forms.{parts_itself, SameFormed, formed_itself, same_as_cell, SameOperand, same_as_operand, Folds, FoldsExpression, FoldsAll, IsConstant, cell_argument, assigned_same, IsAssigned, itself, literal_itself, becomes, not_called}

pub record Both (x : Option Scalar) (y : Option (List Scalar)) (vs : List Scalar) : Type 0 where
  pub value : Scalar
  pub rest : List Scalar
  pub value_is : x ≡ Some value
  pub rest_is : y ≡ Some rest
  pub are : value ∷ rest ≡ vs

pub both : (x : Option Scalar) (y : Option (List Scalar)) (vs : List Scalar) → also_scalar x y ≡ Some vs → Both x y vs
both None y vs e = absurd (none-some vs e)
both (Some v) None vs e = absurd (none-some vs e)
both (Some v) (Some us) vs e = record { value = v; rest = us; value_is = refl; rest_is = refl; are = same_Some (v ∷ us) vs e }

one_is : (x : List Part × Expr) → one_operand x ≡ with_operand x ([], none)
one_is (ps, e) = ap (λ qs. (qs, also e none)) (sym (append-nil ps))

pair_is : (x : C.Form) (p : Formed) → p.0 ≡ [] → p.1 ≡ x → p ≡ ([], x)
pair_is x p a b = ap (λ qs. (qs, p.1)) a ∙ ap (λ g. ([], g)) b

module _ (t : Table) where
  pub variable_folds : (w : Word) → Folds t (variable w) (variable w)
  variable_folds w =
      record {
        same = formed_itself (form_in t (variable w));
        constant = λ v is. absurd (none-some v is);
        argument = λ nd. record { parts = parts_itself (as_argument t (expression nd (variable w)) (form_in t (variable w))).0; name_is = refl };
        right = assigned_same t (variable w) (variable w) (λ n x. refl) (λ n x. refl) (formed_itself (form_in t (variable w)));
      }

  element_folds : (w : Word) (i : Expression) → FoldsExpression t i → Folds t (element w i) (element w (folded i))
  element_folds w (expression nd f) h =
      let same : SameFormed (form_in t (element w (expression nd f))) (form_in t (element w (expression nd (folded_form f)))) =
      record { parts = same_as_cell nd.number h.same; form = same_read } in
      record { same = same; constant = λ v is. absurd (none-some v is); argument = cell_argument t (element w (expression nd f)) (element w (expression nd (folded_form f))) (λ n x. refl) (λ n x. refl) same; right = assigned_same t (element w (expression nd f)) (element w (expression nd (folded_form f))) (λ n x. refl) (λ n x. refl) same }

  pub none_fold : FoldsAll t no_expressions no_expressions
  none_fold =
      record {
        parts = no_pair;
        exprs = same_none;
        constants = λ vs is. (refl, subst (λ us. AllComeTo none us) (same_Some [] vs is) no_operand);
        argument_parts = no_pair;
        names = refl;
      }

  pub also_folds : (e : Expression) (es ds : Expressions) → FoldsExpression t e → FoldsAll t es ds → FoldsAll t (and_expression e es) (and_expression (folded e) ds)
  also_folds (expression nd f) es ds h hs =
      let n = nd.number in
      let o : SameOperand (as_operand n (form_in t f)) (as_operand n (form_in t (folded_form f))) =
      same_as_operand n (form_in t f).0 (form_in t (folded_form f)).0 h.same.parts h.same.form in
      let a = h.argument nd in
      record {
        parts = pairs_both o.parts hs.parts;
        exprs = same_also o.expr hs.exprs;
        constants = λ vs is. (let b = both (scalar_in (folded_form f)) (scalars_of ds) vs is in constants vs b (h.constant b.value b.value_is) (hs.constants b.rest b.rest_is));
        argument_parts = pairs_both a.parts hs.argument_parts;
        names = ap (λ x. x ∷ (arguments_of t es).1) a.name_is ∙ ap (λ xs. (as_argument t (expression nd (folded_form f)) (form_in t (folded_form f))).1 ∷ xs) hs.names;
      }
    where
      constants : (vs : List Scalar) (b : Both (scalar_in (folded_form f)) (scalars_of ds) vs) → IsConstant t f b.value → ((operands_of t es).0 ≡ []) × AllComeTo (operands_of t es).1 b.rest
          → ((operands_of t (and_expression (expression nd f) es)).0 ≡ []) × AllComeTo (operands_of t (and_expression (expression nd f) es)).1 vs
      constants vs b c r =
          let is : form_in t f ≡ ([], compute c.expr) = pair_is (compute c.expr) (form_in t f) c.bare c.is in
          let whole : as_operand nd.number (form_in t f) ≡ ([], c.expr) = ap (as_operand nd.number) is in (
            ap (λ x. x.0 ++ (operands_of t es).0) whole ∙ r.0,
            subst (λ us. AllComeTo (operands_of t (and_expression (expression nd f) es)).1 us) b.are
                (subst (λ x. AllComeTo (also x (operands_of t es).1) (b.value ∷ b.rest)) (sym (ap (λ x. x.1) whole)) (operand c.comes r.1)),
          )

  prefixed_folds : (p : Prefix) (e : Expression) → FoldsExpression t e → Folds t (prefixed p e) (folded_form (prefixed p e))
  prefixed_folds p (expression nd f) h =
      becomes t (prefix_operation p) (prefixed p (expression nd f)) (prefixed p (expression nd (folded_form f))) (and_expression (expression nd f) no_expressions) (and_expression (expression nd (folded_form f)) no_expressions)
      (ap (computes (prefix_operation p)) (one_is (as_operand nd.number (form_in t f))))
      (ap (computes (prefix_operation p)) (one_is (as_operand nd.number (form_in t (folded_form f)))))
      (also_folds (expression nd f) no_expressions no_expressions h none_fold) (λ n x. refl) (λ n x. refl) (λ n x. refl) (λ n x. refl) refl

  chain_folds : (os : List Operator) (es : Expressions) → FoldsAll t es (folded_all es) → Folds t (chain os es) (folded_form (chain os es))
  chain_folds os es h = becomes t (chain_operation os) (chain os es) (chain os (folded_all es)) es (folded_all es) refl refl h (λ n x. refl) (λ n x. refl) (λ n x. refl) (λ n x. refl) refl

  pub same_composite : (p : ℤ) (w : Word) (i : ℕ) (a b : Arguments) (xs : List Name) → Pairwise SamePart a.0 b.0 → a.1 ≡ b.1 → SameAction (composite_call p w i a xs) (composite_call p w i b xs)
  same_composite p w i a b xs h e = subst (λ ys. SameAction (composite_call p w i a xs) (composite_call p w i (b.0, ys) xs)) e (same_call_alone h)

  -- a call of a function of the script
  call_folds : (w : Word) (es : Expressions) (i : ℕ) → t.callee_of w.number ≡ composite i → called_operation w.text ≡ None → FoldsAll t es (folded_all es) → Folds t (call w es) (folded_form (call w es))
  call_folds w es i callee unfolded h =
      subst (λ x. Folds t (call w es) (called x (scalars_of (folded_all es)) (call w (folded_all es)))) (sym unfolded)
      (record { same = same; constant = λ v is. absurd (none-some v is); argument = cell_argument t (call w es) (call w (folded_all es)) (λ n x. refl) (λ n x. refl) same; right = right })
    where
      called_right : (ds : Expressions) (nd : Node) (x : Name) → right_of t x Shape.Scalar (value (expression nd (call w ds))) ≡ composite_call (pos 0) w i (arguments_of t ds) (x ∷ [])
      called_right ds nd x = ap (call_right t x (expression nd (call w ds)) w ds) callee

      right : (nd : Node) (x : Name) → SameAction (right_of t x Shape.Scalar (value (expression nd (call w es)))) (right_of t x Shape.Scalar (value (expression nd (call w (folded_all es)))))
      right nd x =
          subst (λ y. SameAction y (right_of t x Shape.Scalar (value (expression nd (call w (folded_all es)))))) (sym (called_right es nd x))
          (subst (λ y. SameAction (composite_call (pos 0) w i (arguments_of t es) (x ∷ [])) y) (sym (called_right (folded_all es) nd x)) (same_composite (pos 0) w i (arguments_of t es) (arguments_of t (folded_all es)) (x ∷ []) h.argument_parts h.names))

      formed : (ds : Expressions) → form_in t (call w ds) ≡ ((arguments_of t ds).0 ++ calls (call_to w i (arguments_of t ds).1 (here w.number ∷ [])) ∷ [], compute (name (here w.number)))
      formed ds = ap (λ x. call_form t w x ds (arguments_of t ds) (operands_of t ds)) callee

      same : SameFormed (form_in t (call w es)) (form_in t (call w (folded_all es)))
      same =
          subst (λ x. SameFormed x (form_in t (call w (folded_all es)))) (sym (formed es)) (subst (λ x. SameFormed ((arguments_of t es).0 ++ calls (call_to w i (arguments_of t es).1 (here w.number ∷ [])) ∷ [], compute (name (here w.number))) x) (sym (formed (folded_all es)))
          (subst (λ xs. SameFormed ((arguments_of t es).0 ++ calls (call_to w i (arguments_of t es).1 (here w.number ∷ [])) ∷ [], compute (name (here w.number))) ((arguments_of t (folded_all es)).0 ++ calls (call_to w i xs (here w.number ∷ [])) ∷ [], compute (name (here w.number)))) h.names
          (record { parts = pairs_both h.argument_parts (a_pair same_call no_pair); form = same_compute same_name })))

  -- one of a built-in function that is folded
  built_in_folds : (w : Word) (es : Expressions) (o : Operation) (k : Builtin) → t.callee_of w.number ≡ built_in k → ((ds : Expressions) → form_in t (call w ds) ≡ computes o (operands_of t ds)) → called_operation w.text ≡ Some o → FoldsAll t es (folded_all es)
      → Folds t (call w es) (folded_form (call w es))
  built_in_folds w es o k callee formed by h =
      subst (λ x. Folds t (call w es) (called x (scalars_of (folded_all es)) (call w (folded_all es)))) (sym by)
      (becomes t o (call w es) (call w (folded_all es)) es (folded_all es) (formed es) (formed (folded_all es)) h (λ n x. refl) (λ n x. refl) (set es) (set (folded_all es)) refl)
    where
      set : (ds : Expressions) → IsAssigned t (call w ds)
      set ds nd x = ap (call_right t x (expression nd (call w ds)) w ds) callee

  -- and of `size`
  size_folds : (w v : Word) (nd : Node) → t.callee_of w.number ≡ built_in table.size → called_operation w.text ≡ None → Folds t (call w (and_expression (expression nd (variable v)) no_expressions)) (folded_form (call w (and_expression (expression nd (variable v)) no_expressions)))
  size_folds w v nd callee unfolded =
      let es = and_expression (expression nd (variable v)) no_expressions in
      subst (λ x. Folds t (call w es) (called x (scalars_of (folded_all es)) (call w es))) (sym unfolded) (itself t (call w es) (λ n x. refl) (λ n x. ap (call_right t x (expression n (call w es)) w es) callee) (λ u is. absurd (none-some u is)))

  module _ (fs : List Signature) (g : Scope) (unnamed : (n : ℕ) (f : Signature) → slice_get fs n ≡ Some f → IsBuiltinName f.text → ⊥) where
    mutual
      pub folds : {e : Expression} {b : Base} → HasType fs t g e b → FoldsExpression t e
      folds (of_number {z}) = literal_itself t (Number z)
      folds (of_text {bytes}) = literal_itself t (Text bytes)
      folds (of_truth {b}) = literal_itself t (Truth b)
      folds (of_variable {w} r) = variable_folds w
      folds (of_element {w} {i} r h) = element_folds w i (folds h)
      folds (of_prefixed {p} {e} x h) = prefixed_folds p e (folds h)
      folds (of_chain {os} {e} {es} h hs) = chain_folds os (and_expression e es) (also_folds e es (folded_all es) (folds h) (rest_folds hs))
      folds (of_call {w} {es} {f} c h outs) = call_folds w es c.place c.named (not_called w.text (λ x. unnamed c.place f c.there (x.0, c.same ∙ x.1))) (argument_folds h)
      folds (of_builtin {w} {es} c (of_strcat h)) =
          built_in_folds w es op.join table.strcat c.named (λ ds. ap (λ x. call_form t w x ds (arguments_of t ds) (operands_of t ds)) c.named) (ap called_operation c.same) (all_folds h)
      folds (of_builtin {w} c (of_fromint {e} h)) =
          built_in_folds w (and_expression e no_expressions) op.from_int table.fromint c.named (λ ds. ap (λ x. call_form t w x ds (arguments_of t ds) (operands_of t ds)) c.named) (ap called_operation c.same) (also_folds e no_expressions no_expressions (folds h) none_fold)
      folds (of_builtin {w} c (of_toint {e} h)) =
          built_in_folds w (and_expression e no_expressions) op.to_int table.toint c.named (λ ds. ap (λ x. call_form t w x ds (arguments_of t ds) (operands_of t ds)) c.named) (ap called_operation c.same) (also_folds e no_expressions no_expressions (folds h) none_fold)
      folds (of_builtin {w} c (of_size {nd} {w = v} r)) = size_folds w v nd c.named (ap called_operation c.same)

      rest_folds : {os : List Operator} {es : Expressions} {b c : Base} → RestType fs t g os es b c → FoldsAll t es (folded_all es)
      rest_folds (last_operand {e} o h) = also_folds e no_expressions no_expressions (folds h) none_fold
      rest_folds (next_operand {e} {es} o h hs) = also_folds e es (folded_all es) (folds h) (rest_folds hs)

      pub argument_folds : {es : Expressions} {τs : List Typ} → ArgumentTypes fs t g es τs → FoldsAll t es (folded_all es)
      argument_folds no_argument = none_fold
      argument_folds (scalar_argument {e} {es} h hs) = also_folds e es (folded_all es) (folds h) (argument_folds hs)
      argument_folds (array_argument {nd} {w} {es} r hs) = also_folds (expression nd (variable w)) es (folded_all es) (variable_folds w) (argument_folds hs)

      pub all_folds : {es : Expressions} {b : Base} → AllHaveType fs t g es b → FoldsAll t es (folded_all es)
      all_folds none_left = none_fold
      all_folds (one_more {e} {es} h hs) = also_folds e es (folded_all es) (folds h) (all_folds hs)
