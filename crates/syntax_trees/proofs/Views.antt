-- The view of each variant, and lists that are viewed one by one.
use Rattle.std.proofs.Common.{◌≡◌, ℕ, ◌<◌, ◌≤◌, ◌+◌, List, [], ◌∷◌, Option, Some, None, map, length, get_or, rules, ap, subst, refl, sym, ◌∙◌, Vec, Box}
use Rattle.std.proofs.lemmas.List.{length-map, get_or-map}
use Rattle.std.proofs.lemmas.List.Sums.{get_or-le-sum_by, sum_by-cons}
use Rattle.std.specs.List.{sum_by}
use Rattle.std.specs.Prelude.{option_map}
use Rattle.language.specs.Tree.{call, chain, element, prefixed, expressions_of, Word, Over, Statement, statements_of, Body, body, choice_else, loop, waits, Expression}
use Rattle.syntax_trees.specs.View.{word_of, expression_view, form_view, words_view, over_of, statement_view, command_view, body_view}
use Rattle.language.specs.Tree.{choice_of}
use Rattle.language.specs.Numbered.{statements_size, statement_size, body_size}
use Rattle.syntax_trees.specs.declared.tree.Name.{Name}
use Rattle.language.specs.declared.tree.Operator.{Operator}
use Rattle.language.specs.declared.tree.Prefix.{Prefix}
use Rattle.syntax_trees.specs.declared.tree.Expr.{Expr}
use Rattle.syntax_trees.specs.declared.tree.ExprKind.{Call, Chain, Element, Prefixed, the_lemmas}
use Rattle.syntax_trees.specs.declared.tree.Header.{Header}
use Rattle.syntax_trees.specs.declared.tree.Block.{Block, out-Block}
use Rattle.syntax_trees.specs.declared.tree.StmtKind.{If, Foreach, Wait, the_lemmas as statement_lemmas}

pub view-Call : {A : Type 0} → (n : Box (Name A) A) (v : Vec (Expr A) A) → form_view (Call n v) ≡ call (word_of n.value) (expressions_of (map expression_view v.items))
view-Call n v = search (rules, the_lemmas)

pub view-Chain : {A : Type 0} → (o : Vec Operator A) (v : Vec (Expr A) A) → form_view (Chain o v) ≡ chain o.items (expressions_of (map expression_view v.items))
view-Chain n v = search (rules, the_lemmas)

pub view-Element : {A : Type 0} → (n : Box (Name A) A) (b : Box (Expr A) A) → form_view (Element n b) ≡ element (word_of n.value) (expression_view b.value)
view-Element n b = search (rules, the_lemmas)

pub view-Prefixed : {A : Type 0} → (p : Prefix) (b : Box (Expr A) A) → form_view (Prefixed p b) ≡ prefixed p (expression_view b.value)
view-Prefixed p b = search (rules, the_lemmas)

-- an element is no larger than the list
pub size_of_element : {X Y : Type 0} (f : X → Y) (size : Y → ℕ) (xs : List X) (i : ℕ) (x : X)
    → i < length xs → x ≡ get_or xs i x → size (f x) ≤ sum_by size (map f xs)
size_of_element f size xs i x below is =
    let here = get_or-le-sum_by size (map f xs) i (f x) (subst (λ n. i < n) (sym (length-map xs f)) below) in
    let same : f x ≡ get_or (map f xs) i (f x) = ap f is ∙ sym (get_or-map f xs i x (f x) below) in
    subst (λ y. size y ≤ sum_by size (map f xs)) (sym same) here

-- the size of statements, and of a block
pub size-statements_of : (ss : List Statement) → statements_size (statements_of ss) ≡ sum_by statement_size ss
size-statements_of [] = refl
size-statements_of (s ∷ ss) = ap (λ n. statement_size s + n) (size-statements_of ss) ∙ sym (sum_by-cons statement_size s ss)

pub view-Block : (A : Type 0) → (b : Block A) → body_view b ≡ body (out-Block A b).from (statements_of (map statement_view (out-Block A b).statements.items))
view-Block A b = search (rules, statement_lemmas)

pub block-size : (A : Type 0) → (b : Block A) → body_size (body_view b) ≡ sum_by statement_size (map statement_view (out-Block A b).statements.items)
block-size A b = ap body_size (view-Block A b) ∙ size-statements_of (map statement_view (out-Block A b).statements.items)

pub view-If : {A : Type 0} → (e : Box (Expr A) A) (b : Box (Block A) A) (o : Option (Box (Block A) A))
    → command_view (If e b o) ≡ choice_of (expression_view e.value) (body_view b.value) (option_map (λ it. body_view it.value) o)
view-If e b None = search (rules, statement_lemmas)
view-If e b (Some d) = search (rules, statement_lemmas)

pub view-Foreach : {A : Type 0} → (h : Box (Header A) A) (b : Box (Block A) A) → command_view (Foreach h b) ≡ loop (word_of h.value.value) (option_map word_of h.value.key) (over_of h.value.source) (body_view b.value)
view-Foreach h b = search (rules, statement_lemmas)

pub view-Wait : {A : Type 0} → (v : Vec (Name A) A) (b : Box (Block A) A) → command_view (Wait v b) ≡ waits (words_view v) (body_view b.value)
view-Wait v b = search (rules, statement_lemmas)

pub same_loop : {v v' : Word} {k k' : Option Word} {o o' : Over} {b b' : Body} → v ≡ v' → k ≡ k' → o ≡ o' → b ≡ b' → loop v k o b ≡ loop v' k' o' b'
same_loop value key source content = cc

pub same_choice : {e e' : Expression} {b b' d d' : Body} → e ≡ e' → b ≡ b' → d ≡ d' → choice_else e b d ≡ choice_else e' b' d'
same_choice test then other = cc
