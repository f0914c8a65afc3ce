use Rattle.std.proofs.Common.{◌≡◌, ◌+◌, ◌*◌, ℕ}
use Rattle.std.specs.Prelude.{Some, length, slice_get}
use Rattle.explain_text.specs.declared.position.SourceLine.{SourceLine}
use Rattle.explain_text.specs.Positions.{IsLine}
use Rattle.explain_text.proofs.line_index.marks_of.Given as goal

abbrev pub invariant-loop-block : goal.invariant-loop-block
invariant-loop-block l =
    IsLine l.text (l.block * 256) l.line
    × (length l.marks.items ≡ l.block + 1)
    × ((k : ℕ) (line : SourceLine) → slice_get l.marks.items k ≡ Some line → IsLine l.text (k * 256) line)
