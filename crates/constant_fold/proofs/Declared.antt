-- The fold of a tree declares the variables of the tree.
use Rattle.std.specs.Prelude.{◌≡◌, List, [], ◌∷◌, ◌++◌, refl}
use Rattle.std.proofs.Common.{ap, ◌∙◌}
use Rattle.language.specs.Tree.{Statement, statement, Statements, no_statements, and_statement, Command, declare, assign, write, assign_all, calls, choice, choice_else, loop, waits, Body, body, Tree, import, function, single}
use Rattle.language_accepted.specs.Types.{statement_declarations, command_declarations, body_declarations, statements_declarations, tree_declarations}
use Rattle.constant_fold.specs.Folded.{folded_statement, folded_command, folded_body, folded_statements, folded_tree}

both : {X : Type 0} {a b c d : List X} → a ≡ b → c ≡ d → a ++ c ≡ b ++ d
both {b} {c} e f = ap (λ xs. xs ++ c) e ∙ ap (λ ys. b ++ ys) f

mutual
  statement_declares : (s : Statement) → statement_declarations (folded_statement s) ≡ statement_declarations s
  statement_declares (statement nd c) = command_declares c

  command_declares : (c : Command) → command_declarations (folded_command c) ≡ command_declarations c
  command_declares (declare d r) = refl
  command_declares (assign w r) = refl
  command_declares (write w i e) = refl
  command_declares (assign_all ws c) = refl
  command_declares (calls p c) = refl
  command_declares (choice e b) = body_declares b
  command_declares (choice_else e b d) = both (body_declares b) (body_declares d)
  command_declares (loop v k o b) = body_declares b
  command_declares (waits ws b) = body_declares b

  body_declares : (b : Body) → body_declarations (folded_body b) ≡ body_declarations b
  body_declares (body from ss) = statements_declare ss

  statements_declare : (ss : Statements) → statements_declarations (folded_statements ss) ≡ statements_declarations ss
  statements_declare no_statements = refl
  statements_declare (and_statement s ss) = both (statement_declares s) (statements_declare ss)

pub tree_declares : (tree : Tree) → tree_declarations (folded_tree tree) ≡ tree_declarations tree
tree_declares [] = refl
tree_declares (import sp ∷ ps) = tree_declares ps
tree_declares (function f ∷ ps) = both (body_declares f.body) (tree_declares ps)
tree_declares (single s ∷ ps) = both (statement_declares s) (tree_declares ps)
