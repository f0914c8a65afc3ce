use Rattle.std.proofs.Common.{◌≡◌, drop}
use Rattle.meaning_cells.specs.Chosen.{all_seen}
use Rattle.meaning_facts.specs.Sighted.{sight_of}
use Rattle.meaning_cells.proofs.Seeing.{before, cells_listed}
use Rattle.meaning_cells.proofs.choices.known_values.Given as goal

abbrev pub invariant-loop-outer : goal.invariant-loop-outer
invariant-loop-outer g l =
    all_seen (sight_of l.fact_base l.instance) (cells_listed l.outers) ≡ before l.values.items (all_seen (sight_of l.fact_base l.instance) (cells_listed (drop l.outer-index l.outers)))
