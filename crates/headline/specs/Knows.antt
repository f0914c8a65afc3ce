-- The premises on knowledge for the comparison of the two meanings: it is closed under the rules, follows from itself,
-- and is consistent.
use Rattle.std.specs.Prelude.{◌≡◌, List}
use Rattle.values.specs.declared.map.Element.{Element}
use Rattle.values.specs.declared.key.Key.{Key}
use Rattle.values.specs.declared.value.Scalar.{Scalar}
use Rattle.values.specs.declared.value.Value.{Value}
use Rattle.language.specs.Core.{Core}
use Rattle.language.specs.Facts.{Fact, value, element, Knowledge, OneWriter, Elements}
use Rattle.language.specs.Meaning.{Closed, HasValue, New}
use Rattle.language.specs.Places.{Place}

pub record Knows (s : Core) (K : Knowledge) : Type 0 where
  pub shut : (f : Fact) → New s K f → K f
  pub backed : (f : Fact) → K f → New s K f
  pub one_value : (p : Place) (v u : Value) → K (value p v) → K (value p u) → v ≡ u
  pub one_element : (a : Place) (k : Key) (w : Place) (v u : Scalar) → K (element a k w v) → K (element a k w u) → v ≡ u
  pub one_writer : (a : Place) → OneWriter K a
  pub one_scalar : (p : Place) (v u : Scalar) → HasValue s K p v → HasValue s K p u → v ≡ u
  pub listed : (a : Place) → Closed s K a → (es : List Element) × Elements K a es
