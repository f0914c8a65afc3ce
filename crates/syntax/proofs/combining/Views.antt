-- The views of nodes as they are made.
use Rattle.std.proofs.Common.{rules, ◌≡◌, ℕ, ap, ap₂, ◌∙◌}
use Rattle.std.specs.Prelude.{ℤ, Vec, Box, Option, Some, None, option_map}
use Rattle.lexer.specs.declared.token.Span.{Span}
use Rattle.syntax_trees.specs.declared.tree.Name.{Name}
use Rattle.syntax_trees.specs.declared.tree.Expr.{Expr}
use Rattle.syntax_trees.specs.declared.tree.ExprKind.{ExprKind, Text, the_lemmas}
use Rattle.syntax_trees.specs.declared.tree.Call.{Call}
use Rattle.syntax_trees.specs.declared.tree.Stmt.{Stmt}
use Rattle.syntax_trees.specs.declared.tree.Block.{Block}
use Rattle.syntax_trees.specs.declared.tree.Header.{Header}
use Rattle.syntax_trees.specs.declared.tree.Decl.{Decl}
use Rattle.syntax_trees.specs.declared.tree.Function.{Function}
use Rattle.syntax.specs.Answers.{branch_view}
use Rattle.syntax_trees.specs.declared.tree.StmtKind.{StmtKind, AssignAll, If, Foreach, Wait, the_lemmas as statement_lemmas}
use Rattle.language.specs.Tree.{Composite, Command, statement, assign_all, calls, loop, waits, expression, Form, text}
use Rattle.syntax_trees.specs.View.{word_of, expression_view, form_view, words_view, calling_of, statement_view, command_view, body_view, over_of, composite_of, declarations_view}
use Rattle.language.specs.Tree.{choice_of}
use Rattle.language.specs.Rules.{Place}
use Rattle.language.specs.Grammar.{first_of, node, spans, does}

pub view-Text : {A : Type 0} (v : Vec ℕ A) → form_view {A = A} (Text v) ≡ text v.items
view-Text v = search (rules, the_lemmas)

pub view-AssignAll : {A : Type 0} (v : Vec (Name A) A) (c : Box (Call A) A) → command_view {A = A} (AssignAll v c) ≡ assign_all (words_view v) (calling_of c.value)
view-AssignAll v c = search (rules, statement_lemmas)

pub view-If : {A : Type 0} (e : Box (Expr A) A) (b : Box (Block A) A) (o : Option (Box (Block A) A)) → command_view {A = A} (If e b o) ≡ choice_of (expression_view e.value) (body_view b.value) (branch_view o)
view-If e b None = search (rules, statement_lemmas)
view-If e b (Some c) = search (rules, statement_lemmas)

pub view-Foreach : {A : Type 0} (h : Box (Header A) A) (b : Box (Block A) A) → command_view {A = A} (Foreach h b) ≡ loop (word_of h.value.value) (option_map word_of h.value.key) (over_of h.value.source) (body_view b.value)
view-Foreach h b = search (rules, statement_lemmas)

pub view-Wait : {A : Type 0} (v : Vec (Name A) A) (b : Box (Block A) A) → command_view {A = A} (Wait v b) ≡ waits (words_view v) (body_view b.value)
view-Wait v b = search (rules, statement_lemmas)

-- an expression from one place to another
pub spans_view : {A : Type 0} (s u : Place) (first : Span) (to : ℕ) (k : ExprKind A) (e : Expr A) (f : Form)
    → first ≡ first_of s.rest → to ≡ u.before → expression_view e ≡ expression (record { number = 0; first = first; to = to }) (form_view k) → form_view k ≡ f
    → expression_view e ≡ spans s f u
spans_view s u first to k e f one two is form = cc

-- an expression from a token to a place
pub chain_view : {A : Type 0} (start : Span) (u : Place) (to : ℕ) (k : ExprKind A) (e : Expr A) (f : Form)
    → to ≡ u.before → expression_view e ≡ expression (record { number = 0; first = start; to = to }) (form_view k) → form_view k ≡ f
    → expression_view e ≡ expression (record { number = 0; first = start; to = u.before }) f
chain_view start u to k e f one is form = cc

-- a statement from one place to another
pub does_view : {A : Type 0} (s u : Place) (first : Span) (to : ℕ) (k : StmtKind A) (e : Stmt A) (c : Command)
    → first ≡ first_of s.rest → to ≡ u.before → statement_view e ≡ statement (record { number = 0; first = first; to = to }) (command_view k) → command_view k ≡ c
    → statement_view e ≡ does s c u
does_view s u first to k e c one two is form = cc

pub calls_view : {A : Type 0} (s u : Place) (first : Span) (to : ℕ) (q p : ℤ) (b : Box (Call A) A) (c : Call A) (e : Stmt A)
    → first ≡ first_of s.rest → to ≡ u.before → statement_view e ≡ statement (record { number = 0; first = first; to = to }) (calls q (calling_of b.value)) → q ≡ p → b.value ≡ c
    → statement_view e ≡ does s (calls p (calling_of c)) u
calls_view s u first to q p b c e one two is same boxed = cc

pub composite_view : {A : Type 0} (s u : Place) (first : Span) (to : ℕ) (outputs inputs : Vec (Decl A) A) (n : Name A) (b : Block A) (f : Function A)
    → first ≡ first_of s.rest → to ≡ u.before → f ≡ record { number = 0; first = first; to = to; outputs = outputs; name = n; inputs = inputs; body = b }
    → composite_of f ≡ record { node = node s u; outputs = declarations_view outputs; name = word_of n; inputs = declarations_view inputs; body = body_view b }
composite_view s u first to outputs inputs n b f one two is =
    ap composite_of is
    ∙ ap₂ (λ x y. let c : Composite = record { node = record { number = 0; first = x; to = y }; outputs = declarations_view outputs; name = word_of n; inputs = declarations_view inputs; body = body_view b } in c) one two
