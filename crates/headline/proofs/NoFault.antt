-- What is no fault: an outcome with an effect, and a range whose turns are counted.
use Rattle.std.proofs.Common.{◌≡◌, ℕ, refl, ap, Result, Ok, Err}
use Rattle.dataflow.specs.System.{Effect, Outcome, Good, Bad}
use Rattle.values.specs.declared.fault.OpFault.{OpFault}
use Rattle.values.specs.declared.key.Key.{Key}
use Rattle.values.specs.declared.value.Scalar.{Scalar}
use Rattle.values.specs.declared.value.Value.{Value}
use Rattle.values.specs.Ranges.{range_count}
use Rattle.values.specs.Values.{number_of}
use Rattle.task_code.specs.Compute.{EntryFault, Fails, Turns, ranged, range_turns, turns_or}
use Rattle.task_code.specs.Effects.{Task}
use Rattle.task_code.specs.Places.{Place}

pub bad_good : {f : EntryFault} {e : Effect Task Place Key Scalar} → ◌≡◌ {A = Outcome Task Place Key Scalar EntryFault} (Bad f) (Good e) → ⊥
bad_good h = absurd (cc (h))

-- a range that is no fault
pub record RangeAll (rl rh rs : Result Value OpFault) : Type 0 where
  pub low : Value
  pub high : Value
  pub step : Value
  pub low_is : rl ≡ Ok low
  pub high_is : rh ≡ Ok high
  pub step_is : rs ≡ Ok step
  pub many : ℕ
  pub count : range_count (number_of low) (number_of high) (number_of step) ≡ Ok many
  pub turns_is : ranged rl rh rs ≡ Turns (range_turns (number_of low) (number_of step) 0 many)

pub range_all : (rl rh rs : Result Value OpFault) → ((f : EntryFault) → ranged rl rh rs ≡ Fails f → ⊥) → RangeAll rl rh rs
range_all (Err f) rh rs h = absurd (h _ refl)
range_all (Ok l) (Err f) rs h = absurd (h _ refl)
range_all (Ok l) (Ok g) (Err f) h = absurd (h _ refl)
range_all (Ok l) (Ok g) (Ok d) h = by (range_count (number_of l) (number_of g) (number_of d)) refl h
  where
    by : (c : Result ℕ OpFault) → range_count (number_of l) (number_of g) (number_of d) ≡ c → ((f : EntryFault) → turns_or c (number_of l) (number_of d) ≡ Fails f → ⊥) → RangeAll (Ok l) (Ok g) (Ok d)
    by (Err f) q h = absurd (h _ refl)
    by (Ok n) q h = record { low = l; high = g; step = d; low_is = refl; high_is = refl; step_is = refl; many = n; count = q; turns_is = ap (λ (c : Result ℕ OpFault). turns_or c (number_of l) (number_of d)) q }
