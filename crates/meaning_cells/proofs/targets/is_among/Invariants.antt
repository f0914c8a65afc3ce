use Rattle.std.proofs.Common.{◌≡◌, drop}
use Rattle.flow.specs.View.{names_view, owned_view}
use Rattle.meaning_cells.specs.Targeted.{names_owned}
use Rattle.meaning_cells.proofs.targets.is_among.Given as goal

abbrev pub invariant-loop-name : goal.invariant-loop-name
invariant-loop-name l = names_owned (owned_view l.what) (names_view l.names) ≡ names_owned (owned_view l.what) (names_view (drop l.name-index l.names))
