use Rattle.std.proofs.Common.{◌≡◌, List, ℕ}
use Rattle.flow.specs.View.{core_of}
use Rattle.language.specs.Reads.{Reads}
use Rattle.language.specs.Resolved.{core}
use Rattle.language.specs.Single.{SinglyAssigned}
use Rattle.language.specs.Table.{Table}
use Rattle.language.specs.Tree.{Tree}
use Rattle.language.specs.Typing.{WellTyped}
use Rattle.meaning_round.specs.Going.{IsBetween}
use Rattle.meaning.proofs.rounds_within.Given as goal

abbrev pub invariant-loop-round : goal.invariant-loop-round
invariant-loop-round g l = record {
  between : (bytes : List ℕ) (t : Table) (tree : Tree) → Reads bytes tree → WellTyped tree t → SinglyAssigned (core t tree) → core_of {A = g.row.A.Denot} l.flow ≡ core t tree
      → IsBetween {A = g.row.A.Denot} (core t tree) l.round l.state;
  flow : l.state.flow.now ≡ l.flow;
}
