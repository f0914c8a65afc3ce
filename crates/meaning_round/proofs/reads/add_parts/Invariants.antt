use Rattle.std.proofs.Common.{◌≡◌, ◌++◌, take}
use Rattle.flow.specs.View.{parts_view}
use Rattle.language.specs.Parts.{part_cells}
use Rattle.meaning_round.specs.Reads.{cells_reads}
use Rattle.meaning_round.proofs.reads.add_parts.Given as goal

abbrev pub invariant-loop-part : goal.invariant-loop-part
invariant-loop-part g l = l.events.items ≡ l.fn.events.items ++ cells_reads l.fact_base l.site (part_cells (parts_view (take l.part-index l.parts.items)))
