-- What values of the program stand for: the variables and functions in use, and lists of statements.
use Rattle.std.specs.Prelude.{List, map}
use Rattle.std.specs.Borrow.{Bor}
use Rattle.language.specs.Tree.{Statement}
use Rattle.syntax_trees.specs.View.{statement_view}
use Rattle.syntax_trees.specs.declared.tree.Stmt.{Stmt}
use Rattle.explain_warnings.specs.declared.warning.NamesInUse.{NamesInUse}
use Rattle.explain_warnings.specs.Marks.{is_marked}
use Rattle.explain_warnings.specs.Warnings.{Uses}

abbrev pub uses_of : NamesInUse → Uses
uses_of u = record {
  read = is_marked u.read.now;
  written = is_marked u.written.now;
  element_read = is_marked u.element_read.now;
  called = is_marked u.called.now;
}

abbrev pub statements_in : {A : Type 0} → List (Bor (Stmt A)) → List Statement
statements_in ss = map (λ s. statement_view s.now) ss
