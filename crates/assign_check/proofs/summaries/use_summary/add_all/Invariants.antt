use Rattle.std.proofs.Common.{◌≡◌, map, drop}
use Rattle.language.specs.Core.{Owned}
use Rattle.assign_check.specs.Tables.{at}
use Rattle.assign_check.specs.Tallies.{tally_from}
use Rattle.assign_check.specs.View.{use_view}
use Rattle.assign_check.proofs.summaries.use_summary.add_all.Given as goal

abbrev pub invariant-loop-one : goal.invariant-loop-one
invariant-loop-one l = (of : Owned) → tally_from (at l.fn.table of) of (map use_view l.uses) ≡ tally_from (at l.table of) of (map use_view (drop l.one-index l.uses))
