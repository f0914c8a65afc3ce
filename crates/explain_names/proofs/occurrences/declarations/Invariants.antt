use Rattle.std.proofs.Common.{◌≡◌, ◌++◌, map, drop}
use Rattle.syntax_trees.specs.View.{declaration_of}
use Rattle.explain_names.specs.Mentions.{declared_as}
use Rattle.explain_names.proofs.occurrences.declarations.Given as goal

abbrev pub invariant-loop-decl : goal.invariant-loop-decl
invariant-loop-decl g l =
    l.fn.occurrences.items ++ map (declared_as l.kind) (map declaration_of l.decls.items)
    ≡ l.occurrences.items ++ map (declared_as l.kind) (map declaration_of (drop l.decl-index l.decls.items))
