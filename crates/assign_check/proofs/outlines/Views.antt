-- Views of nodes, opened, and what a form of statement adds to the steps of a block.
use Rattle.std.proofs.Common.{◌≡◌, List, [], ◌∷◌, ◌++◌, ℤ, rules, ap, sym, ◌∙◌, append_assoc}
use Rattle.std.specs.Prelude.{Option, option_map, Box, Vec}
use Rattle.std.proofs.lemmas.List.{map-append}
use Rattle.language.specs.Table.{Table}
use Rattle.language.specs.Tree.{Node, Command, declare, assign, write, assign_all, calls, waits, statement}
use Rattle.syntax_trees.specs.View.{word_of, words_view, expression_view, declaration_of, right_of, calling_of, statement_view, command_view, body_view}
use Rattle.syntax_trees.specs.declared.tree.Block.{Block}
use Rattle.syntax_trees.specs.declared.tree.Call.{Call as Called}
use Rattle.syntax_trees.specs.declared.tree.Decl.{Decl}
use Rattle.syntax_trees.specs.declared.tree.Expr.{Expr}
use Rattle.syntax_trees.specs.declared.tree.Name.{Name}
use Rattle.syntax_trees.specs.declared.tree.Right.{Right}
use Rattle.syntax_trees.specs.declared.tree.Stmt.{Stmt, out-Stmt}
use Rattle.syntax_trees.specs.declared.tree.StmtKind.{Declare, Assign, Write, AssignAll, Call, Wait, the_lemmas}
use Rattle.assign_check.specs.declared.outlining.outline.OutlineStep.{OutlineStep as Code}
use Rattle.assign_check.specs.Outline.{Step, command_steps}
use Rattle.assign_check.specs.View.{step_view, steps_view}

pub view-Stmt : (A : Type 0) → (s : Stmt A)
    → statement_view s ≡ statement (record { number = (out-Stmt A s).number; first = (out-Stmt A s).first; to = (out-Stmt A s).to }) (command_view (out-Stmt A s).kind)
view-Stmt A s = search (rules, the_lemmas)

pub view-Declare : {A : Type 0} → (d : Decl A) (r : Option (Right A)) → command_view (Declare d r) ≡ declare (declaration_of d) (option_map right_of r)
view-Declare d r = search (rules, the_lemmas)

pub view-Assign : {A : Type 0} → (n : Name A) (r : Right A) → command_view (Assign n r) ≡ assign (word_of n) (right_of r)
view-Assign n r = search (rules, the_lemmas)

pub view-Write : {A : Type 0} → (n : Name A) (i e : Box (Expr A) A) → command_view (Write n i e) ≡ write (word_of n) (expression_view i.value) (expression_view e.value)
view-Write n i e = search (rules, the_lemmas)

pub view-AssignAll : {A : Type 0} → (ns : Vec (Name A) A) (k : Box (Called A) A) → command_view (AssignAll ns k) ≡ assign_all (words_view ns) (calling_of k.value)
view-AssignAll ns k = search (rules, the_lemmas)

pub view-Call : {A : Type 0} → (p : ℤ) (k : Box (Called A) A) → command_view (Call p k) ≡ calls p (calling_of k.value)
view-Call p k = search (rules, the_lemmas)

pub view-Wait : {A : Type 0} → (ns : Vec (Name A) A) (b : Box (Block A) A) → command_view (Wait ns b) ≡ waits (words_view ns) (body_view b.value)
view-Wait ns b = search (rules, the_lemmas)

-- one more step
pub step_added : (ss ts : List Code) (s : Code) → ts ≡ ss ++ s ∷ [] → steps_view ts ≡ steps_view ss ++ step_view s ∷ []
step_added ss ts s adds = ap steps_view adds ∙ map-append step_view ss (s ∷ [])

-- some steps, and then others
pub then_more : (one two before mid after : List Step) → mid ≡ before ++ one → after ≡ mid ++ two → after ≡ before ++ (one ++ two)
then_more one two before mid after first next = next ∙ ap (λ (ss : List Step). ss ++ two) first ∙ append_assoc before one two

-- the steps of a form of statement, seen as another value of the same form
pub form_added : (t : Table) (nd : Node) (x y : Command) (before after : List Step) → x ≡ y → after ≡ before ++ command_steps t nd y → after ≡ before ++ command_steps t nd x
form_added t nd x y before after is adds = adds ∙ ap (λ (z : Command). before ++ command_steps t nd z) (sym is)
