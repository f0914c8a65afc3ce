use Rattle.std.proofs.Common.{◌≡◌, map, drop}
use Rattle.std.specs.List.{flat_map}
use Rattle.assign_check.specs.Faults.{first_among}
use Rattle.assign_check.specs.Tables.{at}
use Rattle.assign_check.specs.Tallies.{tally_faults}
use Rattle.assign_check.specs.View.{declared_view}
use Rattle.assign_check.proofs.summaries.use_summary.note_all.Given as goal

abbrev pub invariant-loop-one : goal.invariant-loop-one
invariant-loop-one l =
    first_among l.fn.best (flat_map (λ d. tally_faults d.role d.shape d.span (at l.table d.what)) (map declared_view l.declared))
    ≡ first_among l.best (flat_map (λ d. tally_faults d.role d.shape d.span (at l.table d.what)) (map declared_view (drop l.one-index l.declared)))
