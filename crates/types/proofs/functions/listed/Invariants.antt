use Rattle.std.proofs.Common.{◌≡◌, ◌++◌, map, drop}
use Rattle.types.specs.Known.{signature_of}
use Rattle.language.specs.Scopes as scopes
use Rattle.syntax_trees.specs.View.{part_of}
use Rattle.types.proofs.functions.listed.Given as goal

abbrev pub invariant-loop-item : goal.invariant-loop-item
invariant-loop-item g l = scopes.signatures (map part_of l.items) ≡ map signature_of l.found.items ++ scopes.signatures (map part_of (drop l.item-index l.items))
