use Rattle.std.proofs.Common.{◌≡◌, map, take}
use Rattle.syntax_trees.specs.View.{declaration_of}
use Rattle.syntax_trees.proofs.copy.copy_decls.Given as goal

abbrev pub invariant-loop-decl : goal.invariant-loop-decl
invariant-loop-decl g l = map declaration_of l.copies.items ≡ map declaration_of (take l.decl-index l.decls.items)
