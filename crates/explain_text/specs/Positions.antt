-- The line and the column of an offset in a text.
use Rattle.std.specs.Prelude.{◌≡◌, ◌≢◌, ◌⊎◌, ◌≤◌, ◌<◌, ◌+◌, ℕ, List, ◌∷◌, ◌++◌, length, nat_eq, take, slice_index}
use Rattle.std.specs.Fmt.{decimal}
use Rattle.std.specs.List.{count_by}
use Rattle.explain_text.specs.declared.position.SourceLine.{SourceLine}
use Rattle.explain_text.specs.declared.position.Position.{Position}

-- the byte between two lines
abbrev pub line_feed : ℕ
line_feed = 10

-- one more than the number of line feeds before the offset
abbrev pub line_of : List ℕ → ℕ → ℕ
line_of text at = count_by (λ b. nat_eq b line_feed) (take at text) + 1

-- the line of an offset begins here: at the beginning of the text or after a line feed, with no line feed between it
-- and the offset
pub record BeginsLine (text : List ℕ) (at from : ℕ) : Type 0 where
  pub before : from ≤ at
  pub begins : (from ≡ 0) ⊎ ((last : ℕ) × (from ≡ last + 1) × (slice_index text last ≡ line_feed))
  pub same_line : (k : ℕ) → from ≤ k → k < at → slice_index text k ≢ line_feed

-- the line of an offset ends here: at the end of the text or at a line feed, with no line feed between the offset and
-- it
pub record EndsLine (text : List ℕ) (at to : ℕ) : Type 0 where
  pub behind : at ≤ to
  pub within : to ≤ length text
  pub ends : (to ≡ length text) ⊎ (slice_index text to ≡ line_feed)
  pub same_line : (k : ℕ) → at ≤ k → k < to → slice_index text k ≢ line_feed

-- the line of an offset: its number, and the offset at which it begins
pub record IsLine (text : List ℕ) (at : ℕ) (line : SourceLine) : Type 0 where
  pub number_is : line.number ≡ line_of text at
  pub begins : BeginsLine text at line.begin

-- the column is one more than the number of bytes between the beginning of the line and the offset
pub record IsPosition (text : List ℕ) (at : ℕ) (p : Position) : Type 0 where
  pub line_is : p.line ≡ line_of text at
  pub begin : ℕ
  pub begins : BeginsLine text at begin
  pub column_is : p.column + begin ≡ at + 1

-- `FILE:LINE:COLUMN`
abbrev pub place_text : List ℕ → Position → List ℕ
place_text file p = file ++ 58 ∷ (decimal p.line ++ 58 ∷ decimal p.column)
