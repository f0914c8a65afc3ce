use Rattle.std.proofs.Common.{◌≡◌, ℕ, Some}
use Rattle.flow.specs.View.{action_view}
use Rattle.language.specs.Core.{Core, stmt}
use Rattle.language.specs.Members.{◌∈◌}
use Rattle.language.specs.WellFormed.{WellFormed}
use Rattle.meaning_cells.specs.Chosen.{choice_view, chosen_in}
use Rattle.meaning_facts.specs.Sighted.{sight_of}
use Rattle.meaning_invariants.specs.Active.{active}
use Rattle.meaning_invariants.specs.Opened.{OffsetsApart}
use Rattle.meaning_round.specs.Made.{tasks_of, waiting_of}
use Rattle.meaning_openings.specs.Opening.{AreTurned, IsGood, IsMore}
use Rattle.meaning_openings.proofs.turns.open_choice.Given as goal

abbrev pub invariant-loop-i : goal.invariant-loop-i
invariant-loop-i g l = record {
  so : (s : Core) (n : ℕ) → WellFormed s → OffsetsApart s → IsGood {A = g.row.A.Denot} s n l.fn.state → (node : ℕ)
      → active l.instance (stmt l.at node (action_view {A = g.row.A.Denot} l.action)) ∈ tasks_of {A = g.row.A.Denot} l.fn.state
      → chosen_in (sight_of l.fn.state.fact_base l.instance) (action_view {A = g.row.A.Denot} l.action) ≡ Some (choice_view l.choice)
      → AreTurned {A = g.row.A.Denot} s n l.fn.state l.state l.instance l.at (action_view {A = g.row.A.Denot} l.action) (choice_view l.choice) l.i;
  more : IsMore {A = g.row.A.Denot} l.fn.state l.state;
  flow : l.state.flow.now ≡ l.fn.state.flow.now;
  passed : l.state.passed ≡ l.fn.state.passed;
  waiting : waiting_of {A = g.row.A.Denot} l.state ≡ waiting_of {A = g.row.A.Denot} l.fn.state;
}
