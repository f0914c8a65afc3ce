use Rattle.std.proofs.Common.{◌≡◌, true, map}
use Rattle.std.specs.HashSet.{contains}
use Rattle.meaning_facts.specs.declared.facts.Place.{Place as Spot}
use Rattle.meaning_facts.specs.Store.{same_place}
use Rattle.meaning_round.specs.Standing.{active_of}
use Rattle.meaning_openings.specs.Larger.{IsOwn}
use Rattle.meaning_openings.proofs.live_limits.has_more_statements.Given as goal

abbrev pub invariant-loop-task : goal.invariant-loop-task
invariant-loop-task g l = (p : Spot) → contains same_place l.places p ≡ true → IsOwn (map (active_of {A = g.row.A.Denot}) l.tasks) p
