-- Data with remaining readers or writers.
use Rattle.std.specs.Prelude.{◌≡◌, ℕ, false, Option, Some, None}
use Rattle.data_store.specs.declared.datum.Datum.{Datum}
use Rattle.data_store.specs.Data.{is_spent}
use Rattle.data_store.specs.Stores.{Store, at}

-- the datum, if there is one, has a remaining reader or writer
abbrev pub IsHeld : Option Datum → Type 0
IsHeld None = Unit {0}
IsHeld (Some x) = is_spent x ≡ false

-- each datum has a remaining reader or writer
abbrev pub EachIsHeld : Store → Type 0
EachIsHeld s = (d : ℕ) → IsHeld (at s d)
