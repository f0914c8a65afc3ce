-- How long the paths of calls in calls are.
use Rattle.std.specs.Prelude.{◌≡◌, ℕ, zero, suc, length, refl}
use Rattle.std.proofs.Common.{ap}
use Rattle.language_laws.specs.HeaderExamples.{nested_calls}

pub deep_length : (outer inward d : ℕ) → length (nested_calls outer inward d) ≡ suc d
deep_length outer inward zero = refl
deep_length outer inward (suc d) = ap suc (deep_length outer inward d)
