-- Numbers and sizes of lists, and of the variants that hold lists.
use Rattle.std.proofs.Common.{◌≡◌, ℕ, ◌<◌, ◌≤◌, ◌+◌, List, [], ◌∷◌, ◌++◌, map, take, length, get_or, ap, ap₂, refl, sym, ◌∙◌, Vec, Box, arith}
use Rattle.std.proofs.lemmas.List.{map_push, map_more, take_all}
use Rattle.std.proofs.lemmas.List.Sums.{sum_by-cons}
use Rattle.std.specs.List.{sum_by}
use Rattle.language.specs.Tree.{Expression, expressions_of, and_expression, call, chain, Statement, statements_of, and_statement, body}
use Rattle.syntax_trees.specs.View.{word_of, expression_view, form_view, statement_view, body_view}
use Rattle.language.specs.Numbered.{expression_size, expressions_size, form_size, statement_size, numbered_word, numbered_each, numbered_expression, numbered_expressions, numbered_form, numbered_statement, numbered_statements, numbered_body}
use Rattle.syntax_trees.specs.declared.tree.Name.{Name}
use Rattle.language.specs.declared.tree.Operator.{Operator}
use Rattle.syntax_trees.specs.declared.tree.Expr.{Expr}
use Rattle.syntax_trees.specs.declared.tree.ExprKind.{Call, Chain}
use Rattle.syntax_trees.specs.declared.tree.Block.{Block, out-Block}
use Rattle.syntax_trees.proofs.Views.{view-Call, view-Chain, view-Block}

-- one more behind the others
pub numbered_each-push : {X : Type 0} (f : ℕ → X → X) (size : X → ℕ) (n : ℕ) (xs : List X) (x : X)
    → numbered_each f size n (xs ++ x ∷ []) ≡ numbered_each f size n xs ++ f (n + sum_by size xs) x ∷ []
numbered_each-push f size n [] x = ap (λ m. f m x ∷ []) (omega arith)
numbered_each-push f size n (y ∷ xs) x =
    ap (λ ys. f n y ∷ ys) (numbered_each-push f size (n + size y) xs x
    ∙ ap (λ m. numbered_each f size (n + size y) xs ++ f m x ∷ []) (omega (arith, sum_by-cons size y xs)))

-- what is read at a place of a list, as it is viewed
pub viewed_more : {X Z : Type 0} (v : X → Z) (xs : List X) (i : ℕ) (x : X) → i < length xs → x ≡ get_or xs i x
    → map v (take (i + 1) xs) ≡ map v (take i xs) ++ v x ∷ []
viewed_more v xs i x below is = map_more v xs i x below ∙ ap (λ y. map v (take i xs) ++ v y ∷ []) (sym is)

-- a copy of one more
pub copied_more : {X Y Z : Type 0} (v : X → Z) (w : Y → Z) (xs : List X) (ys : List Y) (i : ℕ) (x : X) (y : Y)
    → map w ys ≡ map v (take i xs) → i < length xs → x ≡ get_or xs i x → w y ≡ v x
    → map w (ys ++ y ∷ []) ≡ map v (take (i + 1) xs)
copied_more v w xs ys i x y before below is here =
    map_push w ys y ∙ ap₂ (λ a b. a ++ b ∷ []) before here ∙ sym (viewed_more v xs i x below is)

-- the size of a list, and the list with numbers
pub expressions_size-expressions_of : (es : List Expression) → expressions_size (expressions_of es) ≡ sum_by expression_size es
expressions_size-expressions_of [] = refl
expressions_size-expressions_of (e ∷ es) = ap (λ n. expression_size e + n) (expressions_size-expressions_of es) ∙ sym (sum_by-cons expression_size e es)

pub numbered-expressions_of : (n : ℕ) (es : List Expression)
    → numbered_expressions n (expressions_of es) ≡ expressions_of (numbered_each numbered_expression expression_size n es)
numbered-expressions_of n [] = refl
numbered-expressions_of n (e ∷ es) = ap (and_expression (numbered_expression n e)) (numbered-expressions_of (n + expression_size e) es)

pub numbered-statements_of : (n : ℕ) (ss : List Statement)
    → numbered_statements n (statements_of ss) ≡ statements_of (numbered_each numbered_statement statement_size n ss)
numbered-statements_of n [] = refl
numbered-statements_of n (s ∷ ss) = ap (and_statement (numbered_statement n s)) (numbered-statements_of (n + statement_size s) ss)

-- the variants that hold lists
pub size-Call : (A : Type 0) (w : Box (Name A) A) (v : Vec (Expr A) A) → form_size (form_view (Call w v)) ≡ 1 + sum_by expression_size (map expression_view v.items)
size-Call A w v = ap form_size (view-Call w v) ∙ ap (λ n. 1 + n) (expressions_size-expressions_of (map expression_view v.items))

pub size-Chain : (A : Type 0) (o : Vec Operator A) (v : Vec (Expr A) A) → form_size (form_view (Chain o v)) ≡ sum_by expression_size (map expression_view v.items)
size-Chain A o v = ap form_size (view-Chain o v) ∙ expressions_size-expressions_of (map expression_view v.items)

pub numbered-Call : (A : Type 0) (n : ℕ) (w : Box (Name A) A) (v : Vec (Expr A) A)
    → numbered_form n (form_view (Call w v)) ≡ call (numbered_word n (word_of w.value)) (expressions_of (numbered_each numbered_expression expression_size (n + 1) (map expression_view v.items)))
numbered-Call A n w v = ap (numbered_form n) (view-Call w v) ∙ ap (call (numbered_word n (word_of w.value))) (numbered-expressions_of (n + 1) (map expression_view v.items))

pub numbered-Chain : (A : Type 0) (n : ℕ) (o : Vec Operator A) (v : Vec (Expr A) A)
    → numbered_form n (form_view (Chain o v)) ≡ chain o.items (expressions_of (numbered_each numbered_expression expression_size n (map expression_view v.items)))
numbered-Chain A n o v = ap (numbered_form n) (view-Chain o v) ∙ ap (chain o.items) (numbered-expressions_of n (map expression_view v.items))

pub numbered-Block : (A : Type 0) (n : ℕ) (b : Block A)
    → numbered_body n (body_view b) ≡ body (out-Block A b).from (statements_of (numbered_each numbered_statement statement_size n (map statement_view (out-Block A b).statements.items)))
numbered-Block A n b = ap (numbered_body n) (view-Block A b) ∙ ap (body (out-Block A b).from) (numbered-statements_of n (map statement_view (out-Block A b).statements.items))

-- once none is left, all are viewed
pub viewed_all : {X Z : Type 0} (v : X → Z) (xs : List X) (i : ℕ) → length xs ≤ i → map v (take i xs) ≡ map v xs
viewed_all v xs i done = ap (map v) (take_all i xs done)
