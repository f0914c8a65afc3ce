-- The bytes that a sink received.
use Rattle.std.specs.Prelude.{◌≡◌, ◌⊎◌, ℕ, ◌<◌, List, ◌++◌, Result, Ok, Err}
use Rattle.values.specs.Sinks.{Beginning}

-- the bytes that a sink has taken, and the number of its failed writes
pub record Held : Type 0 where
  pub bytes : List ℕ
  pub failures : ℕ

abbrev pub held : List ℕ → ℕ → Held
held bytes failures = record { bytes = bytes; failures = failures }

-- nothing was written
abbrev pub Kept : Held → Held → Type 0
Kept old new = new ≡ old

-- the text was taken whole, and no write failed
abbrev pub Took : Held → List ℕ → Held → Type 0
Took old text new = (new.bytes ≡ old.bytes ++ text) × (new.failures ≡ old.failures)

-- a write failed, and a prefix of the text was taken
abbrev pub Lost : Held → List ℕ → Held → Type 0
Lost old text new = Beginning old.bytes text new.bytes × (old.failures < new.failures)

-- the text was taken whole exactly if the result is Ok
abbrev pub Writes : {T E : Type 0} → Result T E → Held → List ℕ → Held → Type 0
Writes (Ok x) old text new = Took old text new
Writes (Err e) old text new = Lost old text new

-- the text was taken whole, or a write failed
abbrev pub Given : Held → List ℕ → Held → Type 0
Given old text new = Took old text new ⊎ Lost old text new
