use Rattle.std.proofs.Common.{◌≡◌, map, take}
use Rattle.types.specs.Known.{type_of}
use Rattle.language.specs.Scopes.{declared_type}
use Rattle.syntax_trees.specs.View.{declaration_of}
use Rattle.types.proofs.functions.types.Given as goal

abbrev pub invariant-loop-decl : goal.invariant-loop-decl
invariant-loop-decl g l = map type_of l.found.items ≡ map declared_type (map declaration_of (take l.decl-index l.decls.items))
