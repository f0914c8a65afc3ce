-- The numbers by which events name items.
use Rattle.std.specs.Prelude.{ℕ, ◌^◌, ◌<◌, List}
use Rattle.dataflow.specs.System.{In}
use Rattle.dataflow.specs.Machine.{Back, Begin, End, Event}

abbrev pub number_in : Event → ℕ
number_in (Begin w n) = n
number_in (End w n) = n
number_in (Back w n) = n

-- each event names an item by a 64-bit number that is not 0
abbrev pub AreNumbered : List Event → Type 0
AreNumbered es = (e : Event) → In e es → (0 < number_in e) × (number_in e < 2 ^ 64)
