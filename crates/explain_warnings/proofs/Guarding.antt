-- Chains that divide by a variable, and those that are to guard a division.
use Rattle.std.proofs.Common.{rules, ◌≡◌, ℕ, ◌<◌, ◌≤◌, ◌+◌, List, [], ◌∷◌, map, drop, length, get_or, slice_get, slice_index_or, Vec, ap, sym, ◌∙◌}
use Rattle.std.specs.Prelude.{Bool, true, false, ◌||◌, ◌&&◌}
use Rattle.std.proofs.lemmas.List.{drop_more}
use Rattle.language.specs.declared.tree.Operator.{Operator}
use Rattle.language.specs.Tree.{Expression, expressions_of}
use Rattle.syntax_trees.specs.View.{expression_view, form_view}
use Rattle.syntax_trees.specs.declared.tree.Expr.{Expr}
use Rattle.syntax_trees.specs.declared.tree.ExprKind.{ExprKind, Chain}
use Rattle.syntax_trees.proofs.Views.{view-Chain}
use Rattle.explain_warnings.specs.Guards.{is_divisor, divided_from, divided_by, form_divides, some_divides, some_fits, compares, right_compares, operands_compare, form_is_guard, chain_guards, guards_nothing}

-- what is left of the operands, from the next one on
divisor_split : {X : Type 0} (view : X → Expression) (name : List ℕ) (os : List Operator) (total : Bool) (xs : List X) (i : ℕ) (x : X)
    → total ≡ divided_from name os i (expressions_of (map view (drop i xs))) → i < length xs → x ≡ get_or xs i x
    → total ≡ (is_divisor name (slice_get os i) (view x) || divided_from name os (i + 1) (expressions_of (map view (drop (i + 1) xs))))
divisor_split {X = X} view name os total xs i x before below is =
    before
    ∙ ap (λ ys. divided_from name os i (expressions_of (map view ys))) (drop_more xs i x below)
    ∙ ap (λ (y : X). is_divisor name (slice_get os i) (view y) || divided_from name os (i + 1) (expressions_of (map view (drop (i + 1) xs)))) (sym is)

-- the next operand is no divisor
pub divisor_more : {X : Type 0} (view : X → Expression) (name : List ℕ) (os : List Operator) (total : Bool) (xs : List X) (i : ℕ) (x : X)
    → total ≡ divided_from name os i (expressions_of (map view (drop i xs))) → i < length xs → x ≡ get_or xs i x
    → is_divisor name (slice_get os i) (view x) ≡ false → total ≡ divided_from name os (i + 1) (expressions_of (map view (drop (i + 1) xs)))
divisor_more view name os total xs i x before below is lacks =
    divisor_split view name os total xs i x before below is
    ∙ ap (λ (b : Bool). b || divided_from name os (i + 1) (expressions_of (map view (drop (i + 1) xs)))) lacks

-- the next operand is a divisor
pub divisor_found : {X : Type 0} (view : X → Expression) (name : List ℕ) (os : List Operator) (total : Bool) (xs : List X) (i : ℕ) (x : X)
    → total ≡ divided_from name os i (expressions_of (map view (drop i xs))) → i < length xs → x ≡ get_or xs i x
    → is_divisor name (slice_get os i) (view x) ≡ true → true ≡ total
divisor_found view name os total xs i x before below is divided =
    sym (divisor_split view name os total xs i x before below is
    ∙ ap (λ (b : Bool). b || divided_from name os (i + 1) (expressions_of (map view (drop (i + 1) xs)))) divided)

-- a chain divides as an operand of its own, or inside of its operands
chain_divides : {A : Type 0} (name : List ℕ) (k : ExprKind A) (o : Vec Operator A) (v : Vec (Expr A) A) (os : List Operator) (es : List (Expr A)) (own : Bool)
    → k ≡ Chain o v → os ≡ o.items → es ≡ v.items → own ≡ divided_by name os (expressions_of (map expression_view es))
    → form_divides name (form_view k) ≡ (own || some_divides name (expressions_of (map expression_view v.items)))
chain_divides name k o v os es own is operators operands said =
    ap (form_divides name) (ap form_view is ∙ view-Chain o v)
    ∙ ap (λ (b : Bool). b || some_divides name (expressions_of (map expression_view v.items)))
    (sym (said ∙ ap (λ l. divided_by name l (expressions_of (map expression_view es))) operators
    ∙ ap (λ l. divided_by name o.items (expressions_of (map expression_view l))) operands))

pub divides_itself : {A : Type 0} (name : List ℕ) (k : ExprKind A) (o : Vec Operator A) (v : Vec (Expr A) A) (os : List Operator) (es : List (Expr A)) (own : Bool)
    → k ≡ Chain o v → os ≡ o.items → es ≡ v.items → own ≡ divided_by name os (expressions_of (map expression_view es)) → own ≡ true
    → own ≡ form_divides name (form_view k)
divides_itself name k o v os es own is operators operands said holds =
    holds ∙ sym (chain_divides name k o v os es own is operators operands said
    ∙ ap (λ (b : Bool). b || some_divides name (expressions_of (map expression_view v.items))) holds)

pub divides_inside : {A : Type 0} (name : List ℕ) (k : ExprKind A) (o : Vec Operator A) (v : Vec (Expr A) A) (os : List Operator) (es : List (Expr A)) (own inner : Bool)
    → k ≡ Chain o v → os ≡ o.items → es ≡ v.items → own ≡ divided_by name os (expressions_of (map expression_view es)) → own ≡ false
    → inner ≡ some_divides name (expressions_of (map expression_view v.items)) → inner ≡ form_divides name (form_view k)
divides_inside name k o v os es own inner is operators operands said fails within =
    within ∙ sym (chain_divides name k o v os es own is operators operands said
    ∙ ap (λ (b : Bool). b || some_divides name (expressions_of (map expression_view v.items))) fails)

-- the first of the operands is compared
pub first_right : {X : Type 0} (f : X → Expression) (next left : Expression) (xs : List X) (x : X) → 1 ≤ length xs → x ≡ slice_index_or xs 0 x
    → right_compares next left (expressions_of (map f xs)) ≡ compares next left (f x)
first_right f next left [] x h e = search rules
first_right f next left (y ∷ ys) x h e = ap (λ z. compares next left (f z)) (sym e)

pub first_left : {X : Type 0} (f : X → Expression) (next : Expression) (xs : List X) (x : X) → 1 ≤ length xs → x ≡ slice_index_or xs 0 x
    → operands_compare next (expressions_of (map f xs)) ≡ right_compares next (f x) (expressions_of (map f (drop 1 xs)))
first_left f next [] x h e = search rules
first_left f next (y ∷ ys) x h e = ap (λ z. right_compares next (f z) (expressions_of (map f ys))) (sym e)

-- a chain whose operator fits is a guard if its operands are compared so
pub chain_compares : {A : Type 0} (connective : Operator) (next : Expression) (k : ExprKind A) (o : Vec Operator A) (v : Vec (Expr A) A) (os : List Operator) (es : List (Expr A))
    (first rest : Bool) → k ≡ Chain o v → os ≡ o.items → es ≡ v.items → first ≡ some_fits connective (slice_get os 0) → first ≡ true
    → rest ≡ operands_compare next (expressions_of (map expression_view es)) → rest ≡ form_is_guard connective next (form_view k)
chain_compares connective next k o v os es first rest is operators operands fits holds said =
    said ∙ ap (λ l. operands_compare next (expressions_of (map expression_view l))) operands
    ∙ ap (λ (b : Bool). b && operands_compare next (expressions_of (map expression_view v.items)))
    (sym holds ∙ fits ∙ ap (λ l. some_fits connective (slice_get l 0)) operators)
    ∙ sym (ap (form_is_guard connective next) (ap form_view is ∙ view-Chain o v))

-- a chain guards nothing if one of its operands is to guard the next
pub chain_idle : {A : Type 0} (k : ExprKind A) (o : Vec Operator A) (v : Vec (Expr A) A) (os : List Operator) (es : List (Expr A)) (said : Bool)
    → k ≡ Chain o v → os ≡ o.items → es ≡ v.items → said ≡ chain_guards (slice_get os 0) (expressions_of (map expression_view es)) → said ≡ guards_nothing (form_view k)
chain_idle k o v os es said is operators operands holds =
    holds ∙ ap (λ l. chain_guards (slice_get os 0) (expressions_of (map expression_view l))) operands
    ∙ ap (λ l. chain_guards (slice_get l 0) (expressions_of (map expression_view v.items))) operators
    ∙ sym (ap guards_nothing (ap form_view is ∙ view-Chain o v))
