use Rattle.std.proofs.Common.{◌≡◌, drop}
use Rattle.std.specs.List.{list_any}
use Rattle.assign_check.specs.Sets.{names, is_apart}
use Rattle.assign_check.proofs.counts.count.differs.Given as goal

abbrev pub invariant-loop-part : goal.invariant-loop-part
invariant-loop-part l = list_any (is_apart l.number l.one l.other) (names l.parts) ≡ list_any (is_apart l.number l.one l.other) (names (drop l.part-index l.parts))
