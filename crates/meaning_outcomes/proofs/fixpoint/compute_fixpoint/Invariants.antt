use Rattle.std.proofs.Common.{◌≡◌}
use Rattle.flow.specs.View.{core_of}
use Rattle.meaning_outcomes.proofs.Settling.{StaysBetween}
use Rattle.meaning_outcomes.proofs.fixpoint.compute_fixpoint.Given as goal

abbrev pub invariant-loop : goal.invariant-loop
invariant-loop g l = record {
  so : StaysBetween {A = g.row.A.Denot} (core_of {A = g.row.A.Denot} l.fn.state.flow.now) l.fn.state l.state;
  flow : l.state.flow.now ≡ l.fn.state.flow.now;
}
