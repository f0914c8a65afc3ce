-- The listing of the code of a flow.
use Rattle.std.specs.Prelude.{◌≡◌, ℕ, List}
use Rattle.task_code.specs.Code.{Code}
use Rattle.flow.specs.declared.script.Flow.{Flow}
use Rattle.code_listing.specs.declared.bodies.BodyPosition.{BodyPosition}
use Rattle.code_listing.specs.Blocks.{infos, variable_name}
use Rattle.code_listing.specs.Labels.{signatures_of}
use Rattle.code_listing.specs.Listing.{Labels, bodies_text}
use Rattle.code_listing.specs.Order.{ArePlaces, IsOrder, bodies_made, maker_among, numbers_of}

-- the bodies in the order of the text, with their places in it; what is shown beside the code; and the text
pub record IsListing {A : Type 0} (f : Flow A) (C : Code) (text : List ℕ) : Type 0 where
  pub order : List BodyPosition
  pub places : List ℕ
  pub labels : Labels
  pub ordered : IsOrder (infos f) order
  pub placed : ArePlaces order places
  pub names : (node : ℕ) → labels.names node ≡ variable_name f node
  pub functions : labels.functions ≡ signatures_of f.functions.items
  pub makers : (node : ℕ) → labels.makers node ≡ maker_among 0 (bodies_made C order) node
  pub written : text ≡ bodies_text C (infos f) labels places 0 (numbers_of order)
