use Rattle.std.proofs.Common.{◌≡◌, ℕ, map}
use Rattle.std.specs.Vec.Iter.{into_iter_items}
use Rattle.language.specs.Core.{Core}
use Rattle.language.specs.Members.{◌∈◌}
use Rattle.language.specs.WellFormed.{WellFormed}
use Rattle.meaning_invariants.specs.Active.{Active}
use Rattle.meaning_invariants.specs.Opened.{OffsetsApart}
use Rattle.meaning_round.specs.Made.{tasks_of, waiting_of}
use Rattle.meaning_round.specs.Standing.{active_of}
use Rattle.meaning_openings.specs.Opening.{AreWoken, IsGood, IsMore}
use Rattle.meaning_openings.proofs.opening.open_waiting.Given as goal

abbrev pub invariant-loop-task : goal.invariant-loop-task
invariant-loop-task g l = record {
  so : (s : Core) (n : ℕ) → WellFormed s → OffsetsApart s → IsGood {A = g.row.A.Denot} s n l.fn.state
      → ((a : Active) → a ∈ waiting_of {A = g.row.A.Denot} l.fn.state → a ∈ tasks_of {A = g.row.A.Denot} l.fn.state)
      → AreWoken {A = g.row.A.Denot} s n l.fn.state l.state (map (active_of {A = g.row.A.Denot}) (into_iter_items l.task-iterator));
  left : (a : Active) → a ∈ map (active_of {A = g.row.A.Denot}) (into_iter_items l.task-iterator) → a ∈ waiting_of {A = g.row.A.Denot} l.fn.state;
  more : IsMore {A = g.row.A.Denot} l.fn.state l.state;
  flow : l.state.flow.now ≡ l.fn.state.flow.now;
  passed : l.state.passed ≡ l.fn.state.passed;
}
