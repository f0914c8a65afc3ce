-- The premises on knowledge in the lemmas from the script to the code: each fact follows from the rest, a scalar is
-- unique, and closed arrays can be listed. Closure under the rules and single writers are not required. So the
-- knowledge after some rounds can meet the premises.
use Rattle.std.specs.Prelude.{◌≡◌, List}
use Rattle.values.specs.declared.map.Element.{Element}
use Rattle.values.specs.declared.value.Scalar.{Scalar}
use Rattle.values.specs.declared.value.Scalar.TheVariants.{Text}
use Rattle.values.specs.declared.value.Value.TheVariants.{One}
use Rattle.language.specs.Core.{Core}
use Rattle.language.specs.Facts.{Fact, value, Knowledge, Elements}
use Rattle.language.specs.Meaning.{Closed, HasValue, New, cell_value, cell_fault, assigned, filled, inserted, printed, bad_range, too_deep_header, too_deep_call, written_twice}
use Rattle.language.specs.Places.{Place}

-- the values of the outermost cells of a statement are known before what it adds; only the value of a whole array and
-- its elements become known in one round
abbrev pub RightKnown : (s : Core) (K : Knowledge) {f : Fact} → New s K f → Type 0
RightKnown s K (assigned {path = path} {c = c} {v = v} h g) = K (value (path, c.cell.node) v)
RightKnown s K (inserted {path = path} {i = i} {c = c} {u = u} {v = v} h g k m) = K (value (path, i.cell.node) u) × K (value (path, c.cell.node) (One v))
RightKnown s K (printed {path = path} {c = c} {bytes = bytes} h g) = K (value (path, c.cell.node) (One (Text bytes)))
RightKnown s K (filled h g i) = Unit {0}
RightKnown s K (cell_value h i g) = Unit {0}
RightKnown s K (cell_fault h i g) = Unit {0}
RightKnown s K (bad_range h g e z) = Unit {0}
RightKnown s K (too_deep_header h g e z) = Unit {0}
RightKnown s K (too_deep_call h i e) = Unit {0}
RightKnown s K (written_twice h b z e) = Unit {0}

pub record Backs (s : Core) (K : Knowledge) : Type 0 where
  pub backed : (f : Fact) → K f → New s K f
  pub behind : (f : Fact) (k : K f) → RightKnown s K (backed f k)
  pub one_scalar : (p : Place) (v u : Scalar) → HasValue s K p v → HasValue s K p u → v ≡ u
  pub listed : (a : Place) → Closed s K a → (es : List Element) × Elements K a es
