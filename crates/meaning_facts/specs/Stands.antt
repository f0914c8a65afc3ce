-- The path of an instance of a program: that of the script is empty, and each other is one step below its parent.
-- Inputs and outputs of an instance are at the places of the names of its call.
use Rattle.std.specs.Prelude.{◌≡◌, ℕ, List, [], ◌∷◌}
use Rattle.values.specs.declared.key.Key.{Key}
use Rattle.language.specs.Core.{Core}
use Rattle.language.specs.Parts.{call_at, input_name, output_name}
use Rattle.language.specs.Places.{Path, Place}
use Rattle.meaning_facts.specs.declared.facts.Place.{Place as Spot}
use Rattle.meaning_facts.specs.declared.instances.Instance.{Instance}
use Rattle.meaning_facts.specs.Store.{parent_of, inputs_of, outputs_of, given_at, spot}

pub data Stands (s : Core) (ns : List Instance) : ℕ → Path → Type 0 where
  at_root : parent_of ns 0 ≡ 0 → inputs_of ns 0 ≡ [] → outputs_of ns 0 ≡ [] → Stands s ns 0 []
  behind : {i at : ℕ} {k : Key} {path : Path} → Stands s ns (parent_of ns i) path
      → ((j : ℕ) → given_at (inputs_of ns i) j (parent_of ns i) ≡ spot ns (parent_of ns i) (input_name (call_at s at) j))
      → ((j : ℕ) → given_at (outputs_of ns i) j (parent_of ns i) ≡ spot ns (parent_of ns i) (output_name (call_at s at) j))
      → Stands s ns i ((at, k) ∷ path)

-- a place of a program is a place of the script
pub record IsPlace (s : Core) (ns : List Instance) (p : Spot) (q : Place) : Type 0 where
  pub stands : Stands s ns p.instance q.0
  pub node_is : p.node ≡ q.1
