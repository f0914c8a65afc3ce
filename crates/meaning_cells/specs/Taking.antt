-- Environments of instances that see what is known and taken at their path, and choices of ready headers.
use Rattle.std.specs.Prelude.{◌≡◌, ℕ, ◌<◌, true, List, Some}
use Rattle.values.specs.declared.key.Key.{Key}
use Rattle.values.specs.declared.map.Element.{Element}
use Rattle.values.specs.declared.value.Value.{Value}
use Rattle.language.specs.Core.{Action, Block, Core, Name}
use Rattle.language.specs.Facts.{Elements, Knowledge, value}
use Rattle.language.specs.Openings.{Opens}
use Rattle.language.specs.Places.{Path, place}
use Rattle.meaning_steps.specs.Environment.{Sight}
use Rattle.meaning_steps.specs.Taken.{Taken}
use Rattle.meaning_cells.specs.Chosen.{Chosen, OpensAt, block_in, count_in, key_in}

-- the cells and arrays seen at a path are those known there and taken to be closed
pub record SeesBy (s : Core) (K : Knowledge) (T : Taken) (path : Path) (g : Sight) : Type 0 where
  pub cell_so : (n : ℕ) (v : Value) → g.cell n ≡ Some v → K (value (path, n) v)
  pub cell_all : (n : ℕ) (v : Value) → K (value (path, n) v) → g.cell n ≡ Some v
  pub closed_so : (a : Name) → g.closed a ≡ true → T.closed (place s path a)
  pub closed_all : (a : Name) → T.closed (place s path a) → g.closed a ≡ true
  pub elements_so : (a : Name) → T.closed (place s path a) → Elements K (place s path a) (g.elements a)
  pub elements_all : (a : Name) (es : List Element) → T.closed (place s path a) → Elements K (place s path a) es → es ≡ g.elements a

-- a header opens exactly the blocks of a choice, at their keys
pub record OpensBy (a : Action) (vs : List Value) (c : Chosen) : Type 0 where
  pub all : (k : Key) (b : Block) → Opens a vs k b → OpensAt a c k b
  pub so : (i : ℕ) (b : Block) → i < count_in c → block_in a c ≡ Some b → Opens a vs (key_in c i) b
