-- The fold of each form of expression and of statement, part by part.
use Rattle.std.proofs.Common.{◌≡◌, ℕ, ◌∷◌, [], List, map, rules, refl, ap, sym, ◌∙◌, Vec, Box}
use Rattle.syntax_trees.specs.declared.tree.Name.{Name}
use Rattle.language.specs.declared.tree.Operator.{Operator}
use Rattle.language.specs.declared.tree.Prefix.{Prefix}
use Rattle.syntax_trees.specs.declared.tree.Expr.{Expr, out-Expr, roll-Expr}
use Rattle.syntax_trees.specs.declared.tree.ExprKind.{ExprKind, Element, Call, Prefixed, Chain, the_lemmas}
use Rattle.syntax_trees.specs.declared.tree.Stmt.{Stmt, out-Stmt, roll-Stmt}
use Rattle.syntax_trees.specs.declared.tree.Block.{Block, out-Block, roll-Block}
use Rattle.syntax_trees.specs.declared.tree.StmtKind.{StmtKind, the_lemmas as statement_lemmas}
use Rattle.language.specs.Resolved.{chain_operation, prefix_operation}
use Rattle.language.specs.Tree.{Form, Expression, expression, expressions_of, number, text, truth, variable, element, call, prefixed, chain, Statement, statement, and_statement, statements_of, body}
use Rattle.syntax_trees.specs.View.{word_of, expression_view, form_view, statement_view, command_view, body_view}
use Rattle.constant_fold.specs.Folded.{scalars_of, called, called_operation, collapsed, folded, folded_form, folded_all, folded_statement, folded_command, folded_body, folded_statements}
use Rattle.constant_fold.specs.Made.{settled, with_folded_parts}
use Rattle.syntax_trees.proofs.Views.{view-Call, view-Chain, view-Element, view-Prefixed}
use Rattle.constant_fold.proofs.Scripts.{all_of}

-- EXPRESSIONS

lists : (xs ys : List Expression) → ys ≡ map folded xs → expressions_of ys ≡ folded_all (expressions_of xs)
lists xs ys same = ap expressions_of same ∙ all_of xs

module _ {A : Type 0} where
  pub element_parts : (k : ExprKind A) (n : Box (Name A) A) (b b' : Box (Expr A) A) → k ≡ Element n b → expression_view b'.value ≡ folded (expression_view b.value) → form_view (Element n b') ≡ with_folded_parts (form_view k)
  element_parts k n b b' is inner = view-Element n b' ∙ ap (element (word_of n.value)) inner ∙ sym (ap with_folded_parts (ap form_view is ∙ view-Element n b))

  pub call_parts : (k : ExprKind A) (n : Box (Name A) A) (v v' : Vec (Expr A) A) → k ≡ Call n v → map expression_view v'.items ≡ map folded (map expression_view v.items) → form_view (Call n v') ≡ with_folded_parts (form_view k)
  call_parts k n v v' is inner = view-Call n v' ∙ ap (call (word_of n.value)) (lists (map expression_view v.items) (map expression_view v'.items) inner) ∙ sym (ap with_folded_parts (ap form_view is ∙ view-Call n v))

  pub prefixed_parts : (k : ExprKind A) (p : Prefix) (b b' : Box (Expr A) A) → k ≡ Prefixed p b → expression_view b'.value ≡ folded (expression_view b.value) → form_view (Prefixed p b') ≡ with_folded_parts (form_view k)
  prefixed_parts k p b b' is inner = view-Prefixed p b' ∙ ap (prefixed p) inner ∙ sym (ap with_folded_parts (ap form_view is ∙ view-Prefixed p b))

  pub chain_parts : (k : ExprKind A) (o : Vec Operator A) (v v' : Vec (Expr A) A) → k ≡ Chain o v → map expression_view v'.items ≡ map folded (map expression_view v.items) → form_view (Chain o v') ≡ with_folded_parts (form_view k)
  chain_parts k o v v' is inner = view-Chain o v' ∙ ap (chain o.items) (lists (map expression_view v.items) (map expression_view v'.items) inner) ∙ sym (ap with_folded_parts (ap form_view is ∙ view-Chain o v))

  pub call_settled : (k : ExprKind A) (n : Box (Name A) A) (v : Vec (Expr A) A) → k ≡ Call n v → called (called_operation n.value.text.items) (scalars_of (expressions_of (map expression_view v.items))) (form_view k) ≡ settled (form_view k)
  call_settled k n v is = let same = ap form_view is ∙ view-Call n v in ap (called (called_operation n.value.text.items) (scalars_of (expressions_of (map expression_view v.items)))) same ∙ sym (ap settled same)

  pub prefixed_settled : (k : ExprKind A) (p : Prefix) (b : Box (Expr A) A) → k ≡ Prefixed p b → collapsed (prefix_operation p) (scalars_of (expressions_of (expression_view b.value ∷ []))) (form_view k) ≡ settled (form_view k)
  prefixed_settled k p b is = let same = ap form_view is ∙ view-Prefixed p b in ap (collapsed (prefix_operation p) (scalars_of (expressions_of (expression_view b.value ∷ [])))) same ∙ sym (ap settled same)

  pub chain_settled : (k : ExprKind A) (o : Vec Operator A) (v : Vec (Expr A) A) → k ≡ Chain o v → collapsed (chain_operation o.items) (scalars_of (expressions_of (map expression_view v.items))) (form_view k) ≡ settled (form_view k)
  chain_settled k o v is = let same = ap form_view is ∙ view-Chain o v in ap (collapsed (chain_operation o.items) (scalars_of (expressions_of (map expression_view v.items)))) same ∙ sym (ap settled same)

-- a form is folded by its parts first
pub by_parts : (f : Form) → settled (with_folded_parts f) ≡ folded_form f
by_parts (number z) = refl
by_parts (text bytes) = refl
by_parts (truth b) = refl
by_parts (variable w) = refl
by_parts (element w i) = refl
by_parts (call w es) = refl
by_parts (prefixed p e) = refl
by_parts (chain os es) = refl

pub view_expression : (A : Type 0) (e : Expr A) → expression_view e ≡ expression (record { number = (out-Expr A e).number; first = (out-Expr A e).first; to = (out-Expr A e).to }) (form_view (out-Expr A e).kind)
view_expression A e = search (rules, the_lemmas)

pub expression_folded : (A : Type 0) (e : Expr A) (k : ExprKind A) → form_view k ≡ folded_form (form_view (out-Expr A e).kind)
    → expression_view (roll-Expr A (record { number = (out-Expr A e).number; first = (out-Expr A e).first; to = (out-Expr A e).to; kind = k })) ≡ folded (expression_view e)
expression_folded A e k inner = view_expression A _ ∙ ap (expression (record { number = (out-Expr A e).number; first = (out-Expr A e).first; to = (out-Expr A e).to })) inner ∙ sym (ap folded (view_expression A e))

-- STATEMENTS

pub view_statement : (A : Type 0) (s : Stmt A) → statement_view s ≡ statement (record { number = (out-Stmt A s).number; first = (out-Stmt A s).first; to = (out-Stmt A s).to }) (command_view (out-Stmt A s).kind)
view_statement A s = search (rules, statement_lemmas)

pub statement_folded : (A : Type 0) (s : Stmt A) (k : StmtKind A) → command_view k ≡ folded_command (command_view (out-Stmt A s).kind)
    → statement_view (roll-Stmt A (record { number = (out-Stmt A s).number; first = (out-Stmt A s).first; to = (out-Stmt A s).to; kind = k })) ≡ folded_statement (statement_view s)
statement_folded A s k inner = view_statement A _ ∙ ap (statement (record { number = (out-Stmt A s).number; first = (out-Stmt A s).first; to = (out-Stmt A s).to })) inner ∙ sym (ap folded_statement (view_statement A s))

pub all_statements : (ss : List Statement) → statements_of (map folded_statement ss) ≡ folded_statements (statements_of ss)
all_statements [] = refl
all_statements (s ∷ ss) = ap (and_statement (folded_statement s)) (all_statements ss)

view_block : (A : Type 0) (b : Block A) → body_view b ≡ body (out-Block A b).from (statements_of (map statement_view (out-Block A b).statements.items))
view_block A b = search (rules, statement_lemmas)

view_rolled : (A : Type 0) (from : ℕ) (v : Vec (Stmt A) A) → body_view (roll-Block A (record { from = from; statements = v })) ≡ body from (statements_of (map statement_view v.items))
view_rolled A from v = search (rules, statement_lemmas)

pub block_folded : (A : Type 0) (b : Block A) (v : Vec (Stmt A) A) → map statement_view v.items ≡ map folded_statement (map statement_view (out-Block A b).statements.items)
    → body_view (roll-Block A (record { from = (out-Block A b).from; statements = v })) ≡ folded_body (body_view b)
block_folded A b v inner =
    view_rolled A (out-Block A b).from v
    ∙ ap (body (out-Block A b).from) (ap statements_of inner ∙ all_statements (map statement_view (out-Block A b).statements.items))
    ∙ sym (ap folded_body (view_block A b))
