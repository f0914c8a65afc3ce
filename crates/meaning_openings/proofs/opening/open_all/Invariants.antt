use Rattle.std.proofs.Common.{◌≡◌, ℕ, take}
use Rattle.flow.specs.View.{core_of}
use Rattle.language.specs.Core.{Core}
use Rattle.language.specs.Meaning.{Known}
use Rattle.language.specs.Members.{◌∈◌}
use Rattle.language.specs.WellFormed.{WellFormed}
use Rattle.meaning_invariants.specs.Active.{Active}
use Rattle.meaning_invariants.specs.Opened.{ArePassed, OffsetsApart}
use Rattle.meaning_round.specs.Made.{tasks_of, waiting_of}
use Rattle.meaning_openings.specs.Opening.{ArePassedBy, IsGood, IsMore}
use Rattle.meaning_openings.proofs.opening.open_all.Given as goal

abbrev pub invariant-loop-i : goal.invariant-loop-i
invariant-loop-i g l = record {
  so : (s : Core) (n : ℕ) → s ≡ core_of {A = g.row.A.Denot} l.fn.state.flow.now → WellFormed s → OffsetsApart s → IsGood {A = g.row.A.Denot} s n l.fn.state
      → ArePassed s (Known s n) l.fn.state.fact_base (tasks_of {A = g.row.A.Denot} l.fn.state) (take l.fn.state.passed (tasks_of {A = g.row.A.Denot} l.fn.state)) (waiting_of {A = g.row.A.Denot} l.fn.state)
      → ((a : Active) → a ∈ waiting_of {A = g.row.A.Denot} l.fn.state → a ∈ tasks_of {A = g.row.A.Denot} l.fn.state)
      → ArePassedBy {A = g.row.A.Denot} s n l.fn.state l.state (take l.i (tasks_of {A = g.row.A.Denot} l.state));
  more : IsMore {A = g.row.A.Denot} l.fn.state l.state;
  flow : l.state.flow.now ≡ l.fn.state.flow.now;
}
