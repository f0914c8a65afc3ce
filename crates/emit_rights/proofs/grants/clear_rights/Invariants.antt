use Rattle.std.proofs.Common.{◌≡◌, map}
use Rattle.task_code.specs.View.{entry_view}
use Rattle.emit_rights.specs.Granted.{bare_below}
use Rattle.emit_rights.proofs.grants.clear_rights.Given as goal

abbrev pub invariant-loop-number : goal.invariant-loop-number
invariant-loop-number l = map entry_view l.entries.items ≡ bare_below (map entry_view l.fn.entries.items) l.number
