-- A folded expression is the same in the core.
use Rattle.std.specs.Prelude.{◌≡◌, ℕ, Bool, true, false, List, [], ◌∷◌, map, Option, Some, None, Result, Ok, Err, bytes_eq, refl, if◌then◌else◌}
use Rattle.std.proofs.Common.{sym, ap, subst, ◌∙◌}
use Rattle.std.proofs.lemmas.Option.{none-some, same_Some}
use Rattle.std.proofs.lemmas.Slice.Eq.{bytes_eq-Decides}
use Rattle.values.specs.declared.fault.OpFault.{OpFault}
use Rattle.values.specs.declared.value.Scalar.{Scalar}
use Rattle.values.specs.declared.value.Scalar.TheVariants.{Number, Truth, Text}
use Rattle.values.specs.declared.value.Value.{Value}
use Rattle.values.specs.declared.value.Value.TheVariants.{One, Many}
use Rattle.values.specs.Operators as op
use Rattle.values.specs.Operators.{Operation, evaluated}
use Rattle.language.specs.declared.tree.Shape.{Shape}
use Rattle.language.specs.Core as C
use Rattle.language.specs.Core.{Name, assign, here, Expr, literal, name, operator, Exprs, none, also, Form, compute, read, Part, inner, calls}
use Rattle.language.specs.Resolved.{Formed, as_cell, as_operand, as_argument, computes, form_in, operands_of, arguments_of, outer, right_of}
use Rattle.language.specs.Scopes.{IsBuiltinName}
use Rattle.language.specs.Table as table
use Rattle.language.specs.Table.{Table, Builtin, builtin_text, Callee, composite, built_in}
use Rattle.language.specs.Tree as T
use Rattle.language.specs.Tree.{Word, Node, value, Expression, expression, number, text, truth, variable, element, call, prefixed, chain, Expressions, no_expressions, and_expression}
use Rattle.fold_laws.specs.Same.{ComesTo, a_literal, an_operator, AllComeTo, SameExpr, same_literal, same_name, same_whole, same_operator, same_constant, SameExprs, same_none, same_also, Pairwise, no_pair, a_pair, SameForm, same_compute, same_read, SamePart, same_inner, same_call, SameAction, same_assign}
use Rattle.fold_laws.proofs.Listed.{pairs_both}
use Rattle.constant_fold.specs.Folded.{scalars_of, collapsed, called_operation, folded_form}
use Rattle.constant_fold.specs.Literals.{scalar_in, literal_of, literal_or}

-- WHAT IS THE SAME AS ITSELF

mutual
  pub expr_itself : (e : Expr) → SameExpr e e
  expr_itself (literal v) = same_literal
  expr_itself (name x) = same_name
  expr_itself (C.whole a) = same_whole
  expr_itself (operator o es) = same_operator (exprs_itself es)

  pub exprs_itself : (es : Exprs) → SameExprs es es
  exprs_itself none = same_none
  exprs_itself (also e es) = same_also (expr_itself e) (exprs_itself es)

pub form_itself : (f : Form) → SameForm f f
form_itself (compute e) = same_compute (expr_itself e)
form_itself (read a i) = same_read

pub parts_itself : (ps : List Part) → Pairwise SamePart ps ps
parts_itself [] = no_pair
parts_itself (inner c ∷ ps) = a_pair (same_inner (record { node = refl; form = form_itself c.form })) (parts_itself ps)
parts_itself (calls c ∷ ps) = a_pair same_call (parts_itself ps)

-- a form with the parts before it
pub record SameFormed (f g : Formed) : Type 0 where
  pub parts : Pairwise SamePart f.0 g.0
  pub form : SameForm f.1 g.1

pub formed_itself : (f : Formed) → SameFormed f f
formed_itself f = record { parts = parts_itself f.0; form = form_itself f.1 }

pub same_as_cell : (n : ℕ) {f g : Formed} → SameFormed f g → Pairwise SamePart (as_cell n f) (as_cell n g)
same_as_cell n h = pairs_both h.parts (a_pair (same_inner (record { node = refl; form = h.form })) no_pair)

pub record SameOperand (x y : List Part × Expr) : Type 0 where
  pub parts : Pairwise SamePart x.0 y.0
  pub expr : SameExpr x.1 y.1

pub same_as_operand : (n : ℕ) (ps qs : List Part) {f g : Form} → Pairwise SamePart ps qs → SameForm f g → SameOperand (as_operand n (ps, f)) (as_operand n (qs, g))
same_as_operand n ps qs h (same_compute k) = record { parts = h; expr = k }
same_as_operand n ps qs h (same_read {a} {i}) = record { parts = same_as_cell n {f = (ps, read a i)} {g = (qs, read a i)} (record { parts = h; form = same_read }); expr = same_name }

-- LITERALS

pub formed_literal : (t : Table) (v : Scalar) → form_in t (literal_of v) ≡ ([], compute (literal v))
formed_literal t (Number z) = refl
formed_literal t (Text bytes) = refl
formed_literal t (Truth b) = refl

scalar_literal : (v : Scalar) → scalar_in (literal_of v) ≡ Some v
scalar_literal (Number z) = refl
scalar_literal (Text bytes) = refl
scalar_literal (Truth b) = refl

-- CALLED NAMES

not_equal : (a b : List ℕ) → (a ≡ b → ⊥) → bytes_eq a b ≡ false
not_equal a b apart = by (bytes_eq a b) refl
  where
    by : (x : Bool) → bytes_eq a b ≡ x → bytes_eq a b ≡ false
    by false e = e
    by true e = absurd (apart ((bytes_eq-Decides a b).0 e))

pub not_called : (w : List ℕ) → ¬ IsBuiltinName w → called_operation w ≡ None
not_called w unnamed =
    ap (λ x. if x then Some op.join else (if bytes_eq w (builtin_text table.fromint) then Some op.from_int else (if bytes_eq w (builtin_text table.toint) then Some op.to_int else None))) (not_equal w (builtin_text table.strcat) (λ e. unnamed (table.strcat, e)))
    ∙ ap (λ x. if x then Some op.from_int else (if bytes_eq w (builtin_text table.toint) then Some op.to_int else None)) (not_equal w (builtin_text table.fromint) (λ e. unnamed (table.fromint, e)))
    ∙ ap (λ x. if x then Some op.to_int else None) (not_equal w (builtin_text table.toint) (λ e. unnamed (table.toint, e)))

-- FOLDED FORMS

module _ (t : Table) where
  -- it comes to a scalar, and nothing stands before it
  pub record IsConstant (f : T.Form) (v : Scalar) : Type 0 where
    pub bare : (form_in t f).0 ≡ []
    pub expr : Expr
    pub is : (form_in t f).1 ≡ compute expr
    pub comes : ComesTo expr v

  -- an argument that is not a variable's name is a cell
  abbrev pub IsCellArgument : T.Form → Type 0
  IsCellArgument f = (nd : Node) (x : Formed) → as_argument t (expression nd f) x ≡ (as_cell nd.number x, here nd.number)

  -- and it is assigned as the value of a cell
  abbrev pub IsAssigned : T.Form → Type 0
  IsAssigned f = (nd : Node) (x : Name) → right_of t x Shape.Scalar (value (expression nd f)) ≡ assign x (outer t (expression nd f))

  pub record SameArgument (x y : List Part × Name) : Type 0 where
    pub parts : Pairwise SamePart x.0 y.0
    pub name_is : x.1 ≡ y.1

  -- a form that stands for another one
  pub record Folds (f g : T.Form) : Type 0 where
    pub same : SameFormed (form_in t f) (form_in t g)
    pub constant : (v : Scalar) → scalar_in g ≡ Some v → IsConstant f v
    pub argument : (nd : Node) → SameArgument (as_argument t (expression nd f) (form_in t f)) (as_argument t (expression nd g) (form_in t g))
    pub right : (nd : Node) (x : Name) → SameAction (right_of t x Shape.Scalar (value (expression nd f))) (right_of t x Shape.Scalar (value (expression nd g)))

  abbrev pub FoldsExpression : Expression → Type 0
  FoldsExpression (expression nd f) = Folds f (folded_form f)

  pub record FoldsAll (es ds : Expressions) : Type 0 where
    pub parts : Pairwise SamePart (operands_of t es).0 (operands_of t ds).0
    pub exprs : SameExprs (operands_of t es).1 (operands_of t ds).1
    pub constants : (vs : List Scalar) → scalars_of ds ≡ Some vs → ((operands_of t es).0 ≡ []) × AllComeTo (operands_of t es).1 vs
    pub argument_parts : Pairwise SamePart (arguments_of t es).0 (arguments_of t ds).0
    pub names : (arguments_of t es).1 ≡ (arguments_of t ds).1

  pub cell_argument : (f g : T.Form) → IsCellArgument f → IsCellArgument g → SameFormed (form_in t f) (form_in t g) → (nd : Node) → SameArgument (as_argument t (expression nd f) (form_in t f)) (as_argument t (expression nd g) (form_in t g))
  cell_argument f g a b h nd =
      record {
        parts = subst (λ x. Pairwise SamePart x.0 (as_argument t (expression nd g) (form_in t g)).0) (sym (a nd (form_in t f)))
            (subst (λ x. Pairwise SamePart (as_cell nd.number (form_in t f)) x.0) (sym (b nd (form_in t g))) (same_as_cell nd.number h));
        name_is = ap (λ x. x.1) (a nd (form_in t f)) ∙ sym (ap (λ x. x.1) (b nd (form_in t g)));
      }

  pub assigned_same : (f g : T.Form) → IsAssigned f → IsAssigned g → SameFormed (form_in t f) (form_in t g) → (nd : Node) (x : Name) → SameAction (right_of t x Shape.Scalar (value (expression nd f))) (right_of t x Shape.Scalar (value (expression nd g)))
  assigned_same f g a b h nd x =
      subst (λ y. SameAction y (right_of t x Shape.Scalar (value (expression nd g)))) (sym (a nd x)) (subst (λ y. SameAction (assign x (outer t (expression nd f))) y) (sym (b nd x))
      (same_assign (record { parts = h.parts; cell = record { node = refl; form = h.form } })))

  literal_assigned : (v : Scalar) → IsAssigned (literal_of v)
  literal_assigned (Number z) nd x = refl
  literal_assigned (Text bytes) nd x = refl
  literal_assigned (Truth b) nd x = refl

  literal_argument : (v : Scalar) → IsCellArgument (literal_of v)
  literal_argument (Number z) nd x = refl
  literal_argument (Text bytes) nd x = refl
  literal_argument (Truth b) nd x = refl

  pub itself : (f : T.Form) → IsCellArgument f → IsAssigned f → ((v : Scalar) → scalar_in f ≡ Some v → IsConstant f v) → Folds f f
  itself f a r c =
      record {
        same = formed_itself (form_in t f);
        constant = c;
        argument = cell_argument f f a a (formed_itself (form_in t f));
        right = assigned_same f f r r (formed_itself (form_in t f));
      }

  pub literal_itself : (u : Scalar) → Folds (literal_of u) (literal_of u)
  literal_itself u = itself (literal_of u) (literal_argument u) (literal_assigned u)
      (λ v is. record { bare = ap (λ x. x.0) (formed_literal t u); expr = literal v; is = ap (λ x. x.1) (formed_literal t u) ∙ ap (λ z. compute (literal z)) (same_Some u v (sym (scalar_literal u) ∙ is)); comes = a_literal })

  -- AN OPERATION AND ITS LITERAL

  module _ (o : Operation) (f g : T.Form) (es ds : Expressions) (is_f : form_in t f ≡ computes o (operands_of t es)) (is_g : form_in t g ≡ computes o (operands_of t ds)) (all : FoldsAll es ds) (cell_f : IsCellArgument f) (cell_g : IsCellArgument g) (set_f : IsAssigned f) (set_g : IsAssigned g)
      (none_g : scalar_in g ≡ None) where
    stays_same : SameFormed (form_in t f) (form_in t g)
    stays_same =
        subst (λ x. SameFormed x (form_in t g)) (sym is_f) (subst (λ x. SameFormed (computes o (operands_of t es)) x) (sym is_g)
        (record { parts = all.parts; form = same_compute (same_operator all.exprs) }))

    stays : Folds f g
    stays = record { same = stays_same; constant = λ v is. absurd (none-some v (sym none_g ∙ is)); argument = cell_argument f g cell_f cell_g stays_same; right = assigned_same f g set_f set_g stays_same }

    constant_is : (vs : List Scalar) (v : Scalar) → scalars_of ds ≡ Some vs → evaluated o (map (λ u. Ok (One u)) vs) ≡ Ok (One v) → IsConstant f v
    constant_is vs v are gives =
        let k = all.constants vs are in
        record { bare = ap (λ x. x.0) is_f ∙ k.0; expr = operator o (operands_of t es).1; is = ap (λ x. x.1) is_f; comes = an_operator k.1 gives }

    turns : (vs : List Scalar) (v : Scalar) → scalars_of ds ≡ Some vs → evaluated o (map (λ u. Ok (One u)) vs) ≡ Ok (One v) → Folds f (literal_of v)
    turns vs v are gives =
        let c = constant_is vs v are gives in
        let same : SameFormed (form_in t f) (form_in t (literal_of v)) =
        subst (λ x. SameFormed (form_in t f) x) (sym (formed_literal t v))
        (record {
          parts = subst (λ ps. Pairwise SamePart ps []) (sym c.bare) no_pair;
          form = subst (λ x. SameForm x (compute (literal v))) (sym c.is) (same_compute (same_constant c.comes a_literal));
        }) in
        record {
          same = same;
          constant = λ u is. subst (λ z. IsConstant f z) (same_Some v u (sym (scalar_literal v) ∙ is)) c;
          argument = cell_argument f (literal_of v) cell_f (literal_argument v) same;
          right = assigned_same f (literal_of v) set_f (literal_assigned v) same;
        }

    pub becomes : Folds f (collapsed o (scalars_of ds) g)
    becomes = by (scalars_of ds) refl
      where
        by_result : (vs : List Scalar) → scalars_of ds ≡ Some vs → (r : Result Value OpFault) → evaluated o (map (λ u. Ok (One u)) vs) ≡ r → Folds f (literal_or g r)
        by_result vs are (Ok (One v)) gives = turns vs v are gives
        by_result vs are (Ok (Many es)) gives = stays
        by_result vs are (Err fault) gives = stays

        by : (x : Option (List Scalar)) → scalars_of ds ≡ x → Folds f (collapsed o x g)
        by None are = stays
        by (Some vs) are = by_result vs are (evaluated o (map (λ u. Ok (One u)) vs)) refl
