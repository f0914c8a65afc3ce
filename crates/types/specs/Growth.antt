-- Growth of the scope along statements, and its restoration after a block.
use Rattle.std.specs.Prelude.{◌≡◌, ℕ, ◌-◌, List, ◌++◌, take}
use Rattle.types.specs.Known.{Seen, Around}

-- the same depth, and the same variables followed by later ones
pub record Grown (g h : Around) : Type 0 where
  pub depth : h.depth ≡ g.depth
  pub later : List Seen
  pub names : h.names ≡ g.names ++ later

-- the scope after a block is closed: its first n variables
abbrev pub outside : Around → ℕ → Around
outside g n = record { depth = g.depth - 1; names = take n g.names }
