-- What holds lists that are numbered in their places.
use Rattle.std.proofs.Common.{◌≡◌, ◌+◌, ℕ, false, map, rules, ap, ap₂, sym, ◌∙◌, Vec, Box}
use Rattle.syntax_trees.specs.declared.tree.Name.{Name}
use Rattle.language.specs.declared.tree.Operator.{Operator}
use Rattle.syntax_trees.specs.declared.tree.Expr.{Expr}
use Rattle.syntax_trees.specs.declared.tree.ExprKind.{ExprKind, Call, Chain}
use Rattle.syntax_trees.specs.declared.tree.Stmt.{Stmt}
use Rattle.syntax_trees.specs.declared.tree.Block.{Block, out-Block, roll-Block}
use Rattle.syntax_trees.specs.declared.tree.StmtKind.{the_lemmas}
use Rattle.language.specs.Tree.{call, chain, expressions_of, body, statements_of}
use Rattle.syntax_trees.specs.View.{word_of, expression_view, form_view, statement_view, body_view}
use Rattle.language.specs.Numbered.{expression_size, numbered_each, numbered_expression, numbered_form, numbered_word, numbered_statement, numbered_body, statement_size}
use Rattle.syntax_trees.proofs.Views.{view-Call, view-Chain}
use Rattle.syntax_trees.proofs.Numbering.{numbered-Call, numbered-Chain, numbered-Block}

-- A BLOCK

view_rolled : (A : Type 0) (from : ℕ) (v : Vec (Stmt A) A) → body_view (roll-Block A (record { from = from; statements = v })) ≡ body from (statements_of (map statement_view v.items))
-- A BLOCK

view_rolled A from v = search (rules, the_lemmas)

pub block_numbered : (A : Type 0) (n : ℕ) (b : Block A) (v : Vec (Stmt A) A)
    → map statement_view v.items ≡ numbered_each numbered_statement statement_size n (map statement_view (out-Block A b).statements.items)
    → body_view (roll-Block A (record { from = (out-Block A b).from; statements = v })) ≡ numbered_body n (body_view b)
block_numbered A n b v inner =
    view_rolled A (out-Block A b).from v
    ∙ ap (λ ss. body (out-Block A b).from (statements_of ss)) inner
    ∙ sym (numbered-Block A n b)

-- THE FORMS THAT HOLD EXPRESSIONS

pub call_numbered : (A : Type 0) (n : ℕ) (k : ExprKind A) (w w' : Box (Name A) A) (v v' : Vec (Expr A) A) → k ≡ Call w v → word_of w'.value ≡ numbered_word n (word_of w.value)
    → map expression_view v'.items ≡ numbered_each numbered_expression expression_size (n + 1) (map expression_view v.items)
    → form_view (Call w' v') ≡ numbered_form n (form_view k)
call_numbered A n k w w' v v' is word inner =
    view-Call w' v'
    ∙ ap₂ call word (ap expressions_of inner)
    ∙ sym (ap (λ (j : ExprKind A). numbered_form n (form_view j)) is ∙ numbered-Call A n w v)

pub chain_numbered : (A : Type 0) (n : ℕ) (k : ExprKind A) (o : Vec Operator A) (v v' : Vec (Expr A) A) → k ≡ Chain o v
    → map expression_view v'.items ≡ numbered_each numbered_expression expression_size n (map expression_view v.items)
    → form_view (Chain o v') ≡ numbered_form n (form_view k)
chain_numbered A n k o v v' is inner =
    view-Chain o v'
    ∙ ap (λ es. chain o.items (expressions_of es)) inner
    ∙ sym (ap (λ (j : ExprKind A). numbered_form n (form_view j)) is ∙ numbered-Chain A n o v)
