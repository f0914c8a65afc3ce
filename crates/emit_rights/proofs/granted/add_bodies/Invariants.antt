use Rattle.std.proofs.Common.{◌≡◌, ◌++◌, map}
use Rattle.std.specs.Vec.Iter.{into_iter_items}
use Rattle.task_code.specs.View.{body_view}
use Rattle.emit_rights.proofs.granted.add_bodies.Given as goal

abbrev pub invariant-loop-body : goal.invariant-loop-body
invariant-loop-body l = record {
  entries : l.code.entries ≡ l.fn.code.entries;
  bodies : l.code.bodies ++ map body_view (into_iter_items l.body-iterator) ≡ l.fn.code.bodies ++ map body_view l.fn.bodies.items;
}
