use Rattle.std.proofs.Common.{◌≡◌, drop}
use Rattle.explain_names.specs.Lookups.{fits, last_behind, last_fitting}
use Rattle.explain_names.proofs.lookup.last_before.Given as goal

abbrev pub invariant-loop-occurrence : goal.invariant-loop-occurrence
invariant-loop-occurrence l =
    last_behind l.found (fits l.text l.wanted l.name l.before) (drop l.occurrence-index l.occurrences)
    ≡ last_fitting (fits l.text l.wanted l.name l.before) l.occurrences
