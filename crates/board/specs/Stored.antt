-- The number of different data.
use Rattle.std.specs.Prelude.{◌≡◌, ◌↔◌, ℕ, List, length}
use Rattle.dataflow.specs.System.{Distinct, In}
use Rattle.task_code.specs.Places.{Place}

-- the data are those listed, each once, and this is their number
pub record AreSoMany (places : List Place) (count : ℕ) : Type 0 where
  pub listed : List Place
  pub same : (a : Place) → In a listed ↔ In a places
  pub once : Distinct listed
  pub count_is : count ≡ length listed
