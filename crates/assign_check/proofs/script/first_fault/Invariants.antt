use Rattle.std.proofs.Common.{◌≡◌, [], map, drop}
use Rattle.std.specs.List.{flat_map}
use Rattle.language.specs.Core.{Owned}
use Rattle.syntax_trees.specs.View.{part_of, tree_of}
use Rattle.types.specs.Typed.{table_of}
use Rattle.assign_check.specs.Faults as faults
use Rattle.assign_check.specs.Outline.{function_outlines}
use Rattle.assign_check.specs.Sets.{are_empty}
use Rattle.assign_check.specs.Tables.{at}
use Rattle.assign_check.specs.Tallies.{unused}
use Rattle.assign_check.specs.Ways.{listed}
use Rattle.assign_check.proofs.script.first_fault.Given as goal

abbrev pub invariant-loop-item : goal.invariant-loop-item
invariant-loop-item g l = record {
  best : faults.first_fault (faults.faults (table_of l.typed) (tree_of l.script)) ≡ faults.first_among l.best (flat_map faults.faults_of (function_outlines (table_of l.typed) (map part_of (drop l.item-index l.script.items.items))));
  way : listed l.way ≡ [];
  branches : are_empty l.branches;
  tallied : (of : Owned) → at l.tallied of ≡ unused;
}
