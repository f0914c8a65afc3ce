use Rattle.std.proofs.Common.{◌≡◌, map, take}
use Rattle.task_code.specs.View.{entry_view}
use Rattle.emit_rights.specs.Granted.{given_all}
use Rattle.emit_rights.proofs.grants.give_all.Given as goal

abbrev pub invariant-loop-next : goal.invariant-loop-next
invariant-loop-next l = map entry_view l.entries.items ≡ given_all l.right (map entry_view l.fn.entries.items) (take l.next l.leads.keys)
