use Rattle.std.proofs.Common.{◌≡◌, ◌++◌, drop}
use Rattle.language.specs.Parts.{part_calls, outer_parts}
use Rattle.meaning_cells.specs.Listed.{calls_listed, outers_listed}
use Rattle.meaning_cells.proofs.parts.add_outer_calls.Given as goal

abbrev pub invariant-loop-outer : goal.invariant-loop-outer
invariant-loop-outer g l =
    calls_listed l.initial.calls.items ++ part_calls (outer_parts (outers_listed l.outers)) ≡ calls_listed l.calls.items ++ part_calls (outer_parts (outers_listed (drop l.outer-index l.outers)))
