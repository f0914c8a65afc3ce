-- Lines at regular offsets, from which other lines are found.
use Rattle.std.specs.Prelude.{◌≡◌, ◌+◌, ◌*◌, ◌/◌, ℕ, List, Some, length, slice_get}
use Rattle.explain_text.specs.declared.position.SourceLine.{SourceLine}
use Rattle.explain_text.specs.Positions.{IsLine}

-- the lines of the offsets that are multiples of 256, from the beginning of the text to its end
pub record AreMarks (text : List ℕ) (marks : List SourceLine) : Type 0 where
  pub all : length marks ≡ length text / 256 + 1
  pub each : (k : ℕ) (line : SourceLine) → slice_get marks k ≡ Some line → IsLine text (k * 256) line
