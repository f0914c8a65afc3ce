use Rattle.std.proofs.Common.{◌≡◌, map, drop}
use Rattle.meaning_outcomes.specs.Stuck.{fails_among}
use Rattle.meaning_cells.specs.Listed.{outers_listed}
use Rattle.meaning_outcomes.proofs.blocked.fails_at_some.Given as goal

abbrev pub invariant-loop-outer : goal.invariant-loop-outer
invariant-loop-outer g l =
    fails_among l.fact_base l.instance l.at (map (λ o. o.cell) (outers_listed l.outers.items))
    ≡ fails_among l.fact_base l.instance l.at (map (λ o. o.cell) (outers_listed (drop l.outer-index l.outers.items)))
