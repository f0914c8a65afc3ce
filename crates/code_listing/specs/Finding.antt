-- What a part of a flow adds to a source map.
use Rattle.std.specs.Prelude.{◌≡◌, ℕ, false, List, ◌++◌}
use Rattle.code_listing.specs.declared.source_map.BodyInfo.{BodyInfo}
use Rattle.code_listing.specs.declared.source_map.SourceMap.{SourceMap}
use Rattle.code_listing.specs.Blocks.{Named, name_among}
use Rattle.code_listing.specs.Labels.{name_of}

-- these blocks were appended, and these variables named, if nothing is missing; nothing is said of a map that lacks something
pub record Gained (old new : SourceMap) (roots inner : List BodyInfo) (names : List Named) : Type 0 where
  pub whole : old.lacks ≡ false
  pub first : new.roots.items ≡ old.roots.items ++ roots
  pub later : new.inner.items ≡ old.inner.items ++ inner
  pub naming : (n : ℕ) → name_of new n ≡ name_among (name_of old n) names n

abbrev pub Gains : SourceMap → SourceMap → List BodyInfo → List BodyInfo → List Named → Type 0
Gains old new roots inner names = new.lacks ≡ false → Gained old new roots inner names
