-- Views of nodes, opened.
use Rattle.std.proofs.Common.{◌≡◌, rules}
use Rattle.language.specs.Tree.{statement}
use Rattle.syntax_trees.specs.View.{statement_view, command_view}
use Rattle.syntax_trees.specs.declared.tree.Stmt.{Stmt, out-Stmt}
use Rattle.syntax_trees.specs.declared.tree.StmtKind.{the_lemmas}

pub view-Stmt : (A : Type 0) → (s : Stmt A)
    → statement_view s ≡ statement (record { number = (out-Stmt A s).number; first = (out-Stmt A s).first; to = (out-Stmt A s).to }) (command_view (out-Stmt A s).kind)
view-Stmt A s = search (rules, the_lemmas)
