use Rattle.std.proofs.Common.{◌≡◌, map, take}
use Rattle.syntax_trees.specs.View.{declaration_of}
use Rattle.lowering.specs.View.{declared, variable_of}
use Rattle.lowering.proofs.names.variables.Given as goal

abbrev pub invariant-loop-decl : goal.invariant-loop-decl
invariant-loop-decl g l = map declared l.found.items ≡ map variable_of (map declaration_of (take l.decl-index l.decls.items))
