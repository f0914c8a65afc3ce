use Rattle.std.proofs.Common.{◌≡◌, List, map, drop}
use Rattle.types.specs.declared.typed.NameEntry.{NameEntry}
use Rattle.types.specs.declared.typed.Binding.TheVariants.{Input}
use Rattle.syntax_trees.specs.View.{declaration_of}
use Rattle.types.specs.Known.{around_of}
use Rattle.types.specs.Scripts.{parameters}
use Rattle.types.proofs.script.inputs.Given as goal

abbrev pub invariant-loop-i : goal.invariant-loop-i
invariant-loop-i g l =
    (settled : List NameEntry) → parameters Input (around_of l.fn.scope) 0 (map declaration_of l.decls) settled ≡ parameters Input (around_of l.scope) l.i (map declaration_of (drop l.i l.decls)) settled
