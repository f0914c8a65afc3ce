-- The part of a line that is shown.
use Rattle.std.specs.Prelude.{◌≡◌, ◌≤◌, ◌+◌, ℕ, List, min, nat_lt}
use Rattle.explain_text.specs.declared.quote.Window.{Window}
use Rattle.explain_text.specs.Positions.{BeginsLine, EndsLine}

-- a part of the offset's line, of at most 120 bytes, that contains the offset; and whether the line begins before it
-- and ends after it
pub record IsWindow (text : List ℕ) (at : ℕ) (w : Window) : Type 0 where
  pub begin : ℕ
  pub end : ℕ
  pub begins : BeginsLine text at begin
  pub ends : EndsLine text at end
  pub from_in : begin ≤ w.from
  pub from_before : w.from ≤ at
  pub to_behind : at ≤ w.to
  pub to_in : w.to ≤ end
  pub short : w.to ≤ w.from + 120
  pub before_is : w.cut_before ≡ nat_lt begin w.from
  pub behind_is : w.cut_behind ≡ nat_lt w.to end

-- the end of the offset's line, or 121 bytes after the offset if the line ends later
pub record IsNearEnd (text : List ℕ) (at near : ℕ) : Type 0 where
  pub end : ℕ
  pub ends : EndsLine text at end
  pub near_is : near ≡ min end (at + 121)
