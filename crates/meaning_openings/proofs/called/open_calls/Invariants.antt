use Rattle.std.proofs.Common.{◌≡◌, ℕ, take}
use Rattle.flow.specs.View.{core_of}
use Rattle.language.specs.Core.{Core}
use Rattle.language.specs.Members.{◌∈◌}
use Rattle.language.specs.WellFormed.{WellFormed}
use Rattle.meaning_cells.specs.Listed.{calls_listed}
use Rattle.meaning_round.specs.Made.{tasks_of, waiting_of}
use Rattle.meaning_round.specs.Standing.{active_of}
use Rattle.meaning_openings.specs.Opening.{HaveBodies, IsGood, IsMore}
use Rattle.meaning_openings.proofs.called.open_calls.Given as goal

abbrev pub invariant-loop-call : goal.invariant-loop-call
invariant-loop-call g l = record {
  so : (s : Core) (n : ℕ) → s ≡ core_of {A = g.row.A.Denot} l.fn.state.flow.now → WellFormed s → IsGood {A = g.row.A.Denot} s n l.fn.state
      → active_of {A = g.row.A.Denot} l.task ∈ tasks_of {A = g.row.A.Denot} l.fn.state
      → HaveBodies {A = g.row.A.Denot} s n l.fn.state l.state l.task.site.instance (calls_listed {A = g.row.A.Denot} (take l.call-index l.call-items));
  more : IsMore {A = g.row.A.Denot} l.fn.state l.state;
  flow : l.state.flow.now ≡ l.fn.state.flow.now;
  passed : l.state.passed ≡ l.fn.state.passed;
  waiting : waiting_of {A = g.row.A.Denot} l.state ≡ waiting_of {A = g.row.A.Denot} l.fn.state;
}
