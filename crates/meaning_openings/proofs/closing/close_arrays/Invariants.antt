use Rattle.flow.specs.View.{core_of}
use Rattle.meaning_openings.proofs.LookedAt.{AreLookedAt}
use Rattle.meaning_openings.proofs.closing.close_arrays.Given as goal

abbrev pub invariant-loop-array : goal.invariant-loop-array
invariant-loop-array g l = AreLookedAt {A = g.row.A.Denot} (core_of {A = g.row.A.Denot} l.flow) l.arrays l.array-index l.fn.fact_base l.fact_base l.closed.items
