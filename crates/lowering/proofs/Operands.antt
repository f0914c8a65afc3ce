-- Operands and arguments, one after another.
use Rattle.std.proofs.Common.{◌≡◌, ℕ, ◌+◌, ◌<◌, ◌≤◌, List, [], ◌∷◌, ◌++◌, map, drop, length, get_or, refl, sym, ap, ◌∙◌, append_assoc}
use Rattle.std.proofs.lemmas.List.{drop_more, drop_all, map-append, append-nil}
use Rattle.language.specs.Tree.{Expression, Expressions, no_expressions, and_expression, expressions_of}
use Rattle.language.specs.Table.{Table}
use Rattle.language.specs.Core as core
use Rattle.language.specs.Core.{none, also}
use Rattle.language.specs.Resolved.{Operands, Arguments, form_of, operands_of, arguments_of, with_operand, with_argument, as_operand, as_argument, number_of}
use Rattle.flow.specs.declared.cell.CellPart.{CellPart}
use Rattle.flow.specs.declared.expression.Expr.{Expr}
use Rattle.flow.specs.declared.name.Name.{Name}
use Rattle.flow.specs.View.{parts_view, expr_view, exprs_view, name_view, names_view, operands}
use Rattle.lowering.specs.View.{Leaves}

-- expressions before operands
abbrev pub before : List core.Expr → core.Exprs → core.Exprs
before [] os = os
before (x ∷ xs) os = also x (before xs os)

before_more : (xs : List core.Expr) (x : core.Expr) (os : core.Exprs) → before (xs ++ x ∷ []) os ≡ before xs (also x os)
before_more [] x os = refl
before_more (y ∷ xs) x os = ap (also y) (before_more xs x os)

before_none : (xs : List core.Expr) → before xs none ≡ operands xs
before_none [] = refl
before_none (x ∷ xs) = ap (also x) (before_none xs)

-- what is done, with what is left, is the whole
abbrev pub SoFar : {A R : Type 0} → List (CellPart A) → List (CellPart A) → (R → R) → List core.Part × R → List core.Part × R → Type 0
SoFar start now join whole rest = (parts_view now ++ rest.0 ≡ parts_view start ++ whole.0) × (join rest.1 ≡ whole.1)

operand_parts : (o : List core.Part × core.Expr) (r : Operands) → (with_operand o r).0 ≡ o.0 ++ r.0
operand_parts (ps, e) (qs, es) = refl

operand_rest : (o : List core.Part × core.Expr) (r : Operands) → (with_operand o r).1 ≡ also o.1 r.1
operand_rest (ps, e) (qs, es) = refl

argument_parts : (o : List core.Part × core.Name) (r : Arguments) → (with_argument o r).0 ≡ o.0 ++ r.0
argument_parts (ps, e) (qs, es) = refl

argument_rest : (o : List core.Part × core.Name) (r : Arguments) → (with_argument o r).1 ≡ o.1 ∷ r.1
argument_rest (ps, e) (qs, es) = refl

-- more parts behind those that are there
shifted : {A : Type 0} (now after : List (CellPart A)) (ps qs all : List core.Part) → parts_view after ≡ parts_view now ++ ps → parts_view now ++ (ps ++ qs) ≡ all → parts_view after ++ qs ≡ all
shifted now after ps qs all more is = ap (λ xs. xs ++ qs) more ∙ append_assoc (parts_view now) ps qs ∙ is

-- the expressions from a place on
abbrev pub from_on : {X : Type 0} → (X → Expression) → List X → ℕ → Expressions
from_on view xs i = expressions_of (map view (drop i xs))

module _ {A X : Type 0} (view : X → Expression) (t : Table) (xs : List X) (i : ℕ) (x : X) (start now after : List (CellPart A)) (below : i < length xs) (is : x ≡ get_or xs i x) where
  opened : from_on view xs i ≡ and_expression (view x) (from_on view xs (i + 1))
  opened = ap (λ ys. expressions_of (map view ys)) (drop_more xs i x below ∙ ap (λ y. y ∷ drop (i + 1) xs) (sym is))

  pub operands_more : (found : List (Expr A)) (one : Expr A) (whole : Operands)
      → SoFar start now (before (map expr_view found)) whole (operands_of t (from_on view xs i))
      → Leaves now after (expr_view one) (as_operand (number_of (view x)) (form_of t (view x)))
      → SoFar start after (before (map expr_view (found ++ one ∷ []))) whole (operands_of t (from_on view xs (i + 1)))
  operands_more found one whole so_far leaves =
      let o = as_operand (number_of (view x)) (form_of t (view x)) in
      let rest = operands_of t (from_on view xs (i + 1)) in (
        shifted now after o.0 rest.0 (parts_view start ++ whole.0) leaves.0
            (ap (λ ps. parts_view now ++ ps) (sym (ap (λ es. (operands_of t es).0) opened ∙ operand_parts o rest)) ∙ so_far.0),
        ap (λ ys. before ys rest.1) (map-append expr_view found (one ∷ [])) ∙ before_more (map expr_view found) (expr_view one) rest.1
            ∙ ap (λ e. before (map expr_view found) (also e rest.1)) leaves.1
            ∙ ap (before (map expr_view found)) (sym (ap (λ es. (operands_of t es).1) opened ∙ operand_rest o rest)) ∙ so_far.1,
      )

  pub arguments_more : (found : List Name) (one : Name) (whole : Arguments)
      → SoFar start now (λ ys. names_view found ++ ys) whole (arguments_of t (from_on view xs i))
      → Leaves now after (name_view one) (as_argument t (view x) (form_of t (view x)))
      → SoFar start after (λ ys. names_view (found ++ one ∷ []) ++ ys) whole (arguments_of t (from_on view xs (i + 1)))
  arguments_more found one whole so_far leaves =
      let o = as_argument t (view x) (form_of t (view x)) in
      let rest = arguments_of t (from_on view xs (i + 1)) in (
        shifted now after o.0 rest.0 (parts_view start ++ whole.0) leaves.0
            (ap (λ ps. parts_view now ++ ps) (sym (ap (λ es. (arguments_of t es).0) opened ∙ argument_parts o rest)) ∙ so_far.0),
        ap (λ ys. ys ++ rest.1) (map-append name_view found (one ∷ [])) ∙ append_assoc (names_view found) (name_view one ∷ []) rest.1
            ∙ ap (λ y. names_view found ++ y ∷ rest.1) leaves.1
            ∙ ap (λ ys. names_view found ++ ys) (sym (ap (λ es. (arguments_of t es).1) opened ∙ argument_rest o rest)) ∙ so_far.1,
      )

module _ {A X : Type 0} (view : X → Expression) (t : Table) (xs : List X) (i : ℕ) (start now : List (CellPart A)) (done : length xs ≤ i) where
  ended : from_on view xs i ≡ no_expressions
  ended = ap (λ ys. expressions_of (map view ys)) (drop_all i xs done)

  pub operands_all : (found : List (Expr A)) (whole : Operands) → SoFar start now (before (map expr_view found)) whole (operands_of t (from_on view xs i)) → Leaves start now (exprs_view found) whole
  operands_all found whole so_far = (
    sym (append-nil (parts_view now)) ∙ ap (λ es. parts_view now ++ (operands_of t es).0) (sym ended) ∙ so_far.0,
    sym (before_none (map expr_view found)) ∙ ap (λ es. before (map expr_view found) (operands_of t es).1) (sym ended) ∙ so_far.1,
  )

  pub arguments_all : (found : List Name) (whole : Arguments) → SoFar start now (λ ys. names_view found ++ ys) whole (arguments_of t (from_on view xs i)) → Leaves start now (names_view found) whole
  arguments_all found whole so_far = (
    sym (append-nil (parts_view now)) ∙ ap (λ es. parts_view now ++ (arguments_of t es).0) (sym ended) ∙ so_far.0,
    sym (append-nil (names_view found)) ∙ ap (λ es. names_view found ++ (arguments_of t es).1) (sym ended) ∙ so_far.1,
  )
