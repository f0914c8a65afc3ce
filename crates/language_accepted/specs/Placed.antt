-- Trees whose numbers, called names and headers are placed as in the tree of a text; there may be gaps, where nodes
-- were removed.
use Rattle.std.specs.Prelude.{◌≡◌, ◌<◌, ℕ, true, List, [], ◌∷◌}
use Rattle.language.specs.Numbers.{numbers}
use Rattle.language.specs.Tree.{Tree}
use Rattle.language.specs.Distinct.{distinct}
use Rattle.language_laws.specs.Offsets.{tree_offsets}

-- the numbers rise strictly, and the first is greater than n
abbrev pub Rise : ℕ → List ℕ → Type 0
Rise n [] = Unit {0}
Rise n (m ∷ ms) = (n < m) × Rise m ms

pub record IsPlaced (tree : Tree) : Type 0 where
  -- the numbers are in reading order
  pub in_order : Rise 0 (numbers tree)
  -- no called name and no header stands at the offset of another
  pub apart : distinct (tree_offsets tree) ≡ true
