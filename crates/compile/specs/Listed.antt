-- The listing of the code of a text.
use Rattle.std.specs.Prelude.{ℕ, List}
use Rattle.code_listing.specs.Listed.{IsListing}
use Rattle.compile.specs.Compiled.{IsCompiled, IsFoldedFlowOf}
use Rattle.compile.specs.declared.compile.CodeText.{CodeText}

-- the flow and the code are those of the text of a script, and this is their listing
pub record IsListingOf {A : Type 0} (src : List ℕ) (made : CodeText A) : Type 0 where
  pub flow : IsFoldedFlowOf src made.compiled.flow
  pub code : IsCompiled src made.compiled.code
  pub listing : IsListing made.compiled.flow made.compiled.code made.text.items
