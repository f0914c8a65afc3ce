-- Half a round: what is known after n rounds, and the scalars that follow from it. Elements, lines and faults are left
-- out, so no key gets a second writer.
use Rattle.std.specs.Prelude.{◌≡◌, ◌⊎◌, ℕ}
use Rattle.dataflow.specs.System.{Effect}
use Rattle.dataflow.specs.Facts.{Ever}
use Rattle.values.specs.declared.key.Key.{Key}
use Rattle.values.specs.declared.value.Scalar.{Scalar}
use Rattle.values.specs.declared.value.Value.TheVariants.{One}
use Rattle.language.specs.Core.{Core}
use Rattle.language.specs.Facts.{value, Knowledge}
use Rattle.language.specs.Meaning.{New, Known}
use Rattle.language.specs.Places.{Place}
use Rattle.task_code.specs.Code.{Code}
use Rattle.task_code.specs.Effects.{Task}
use Rattle.task_code.specs.Places as CodePlaces
use Rattle.task_code.specs.System.{code_system}
use Rattle.headline.specs.Inclusions.{Facts}

abbrev pub Half : Core → ℕ → Knowledge
Half s n f = Known s n f ⊎ ((p : Place) × (u : Scalar) × (f ≡ value p (One u)) × New s (Known s n) f)

-- every fact that half a round yields is a fact of the code
abbrev pub HalfIn : Core → Code → ℕ → Type 0
HalfIn s C n = (t : Task) (e : Effect Task CodePlaces.Place Key Scalar) → Facts s C (Half s n) t e → Ever (code_system C) t e
