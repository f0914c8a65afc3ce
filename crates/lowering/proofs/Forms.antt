-- Forms of statements, where what they do was made.
use Rattle.std.proofs.Common.{rules, ◌≡◌, List, [], ◌∷◌, ◌++◌, Option, Some, None, option_map, Result, Ok, Err, sym, ap, ◌∙◌}
use Rattle.std.specs.Prelude.{IfOk, IsOkAnd, Box}
use Rattle.syntax_trees.specs.declared.tree.Name.{Name as Word'}
use Rattle.syntax_trees.specs.declared.tree.Right.{Right}
use Rattle.syntax_trees.specs.declared.tree.Expr.{Expr}
use Rattle.syntax_trees.specs.declared.tree.Block.{Block}
use Rattle.syntax_trees.specs.declared.tree.StmtKind.{Assign, Write, If, the_lemmas}
use Rattle.language.specs.Tree as T
use Rattle.language.specs.Tree.{Node, Command}
use Rattle.language.specs.Table.{Table}
use Rattle.syntax_trees.specs.View.{word_of, expression_view, right_of, command_view, body_view}
use Rattle.language.specs.Tree.{choice_of}
use Rattle.language.specs.Core as core
use Rattle.language.specs.Core.{Stmt, stmt}
use Rattle.language_accepted.specs.Types.{command_declarations}
use Rattle.flow.specs.declared.statement.Action.{Action}
use Rattle.flow.specs.View.{action_view}
use Rattle.flow.specs.Shapes.{Declared, action_declared}
use Rattle.lowering.specs.View.{command_alone}
use Rattle.lowering.specs.Shapes.{flagged}
use Rattle.lowering.proofs.Statements.{one_form}

pub view_assign : {A : Type 0} → (n : Word' A) (r : Right A) → command_view (Assign n r) ≡ T.assign (word_of n) (right_of r)
view_assign n r = search (rules, the_lemmas)

pub view_write : {A : Type 0} → (n : Word' A) (i e : Box (Expr A) A) → command_view (Write n i e) ≡ T.write (word_of n) (expression_view i.value) (expression_view e.value)
view_write n i e = search (rules, the_lemmas)

pub view_if : {A : Type 0} → (e : Box (Expr A) A) (b : Box (Block A) A) (o : Option (Box (Block A) A))
    → command_view (If e b o) ≡ choice_of (expression_view e.value) (body_view b.value) (option_map (λ it. body_view it.value) o)
view_if e b None = search (rules, the_lemmas)
view_if e b (Some d) = search (rules, the_lemmas)

-- one statement for a form
pub adds_form : {A E : Type 0} (made : Result (Action A) E) (t : Table) (nd : Node) (k k' : Command) (old now : List Stmt) (a b : core.Action)
    → k ≡ k' → command_alone t nd k' ≡ stmt nd.first.from nd.number b ∷ [] → IfOk made (λ x. action_view x ≡ a) → a ≡ b
    → IsOkAnd made (λ x. now ≡ old ++ stmt nd.first.from nd.number (action_view x) ∷ []) → now ≡ old ++ command_alone t nd k
adds_form (Ok x) t nd k k' old now a b is alone does same adds = one_form t nd k k' old now (action_view x) b is alone adds (does ∙ same)
adds_form (Err e) t nd k k' old now a b is alone does same adds = absurd adds

-- and what it declares
pub declares_form : {A E : Type 0} (made : Result (Action A) E) (k k' : Command) (old now ds : Declared)
    → k ≡ k' → IfOk made (λ x. action_declared x ≡ ds) → ds ≡ flagged (command_declarations k')
    → IsOkAnd made (λ x. now ≡ old ++ action_declared x) → now ≡ old ++ flagged (command_declarations k)
declares_form (Ok x) k k' old now ds is does same adds = adds ∙ ap (λ es. old ++ es) (does ∙ same ∙ ap (λ y. flagged (command_declarations y)) (sym is))
declares_form (Err e) k k' old now ds is does same adds = absurd adds

pub same_choice : {c c' : core.Outer} {b b' d d' : core.Block} → c ≡ c' → b ≡ b' → d ≡ d' → core.choose c b d ≡ core.choose c' b' d'
same_choice test then other = cc
