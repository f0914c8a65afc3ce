use Rattle.std.proofs.Common.{◌≡◌, ◌++◌, drop}
use Rattle.language.specs.Parts.{part_calls}
use Rattle.flow.specs.View.{parts_view}
use Rattle.meaning_cells.specs.Listed.{calls_listed}
use Rattle.meaning_cells.proofs.parts.add_calls.Given as goal

abbrev pub invariant-loop-part : goal.invariant-loop-part
invariant-loop-part g l =
    calls_listed l.initial.calls.items ++ part_calls (parts_view l.parts) ≡ calls_listed l.calls.items ++ part_calls (parts_view (drop l.part-index l.parts))
