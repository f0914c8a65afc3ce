use Rattle.std.proofs.Common.{◌≡◌, ◌≤◌, ◌+◌, ◌++◌, map, take, vec_capacity, vec_len}
use Rattle.board_instances.specs.View.{new_item}
use Rattle.board_instances.proofs.placing.push_items.Given as goal

abbrev pub invariant-loop-entry : goal.invariant-loop-entry
invariant-loop-entry l = (l.items.items ≡ l.fn.items.items ++ map (new_item l.instance) (take l.entry-index l.entries)) × (vec_len l.items ≡ vec_len l.fn.items + l.entry-index) × (vec_capacity l.fn.items ≤ vec_capacity l.items)
