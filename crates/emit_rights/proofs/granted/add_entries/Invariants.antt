use Rattle.std.proofs.Common.{◌≡◌, ◌++◌, map}
use Rattle.std.specs.Vec.Iter.{into_iter_items}
use Rattle.task_code.specs.View.{entry_view}
use Rattle.emit_rights.proofs.granted.add_entries.Given as goal

abbrev pub invariant-loop-entry : goal.invariant-loop-entry
invariant-loop-entry l = record {
  bodies : l.code.bodies ≡ l.fn.code.bodies;
  entries : l.code.entries ++ map entry_view (into_iter_items l.entry-iterator) ≡ l.fn.code.entries ++ map entry_view l.fn.entries.items;
}
