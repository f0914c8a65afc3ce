-- The numeric values of options.
use Rattle.std.specs.Prelude.{ℕ, ◌&&◌, nat_le, List, [], ◌∷◌, Option, Some, None, Result, Ok, Err, ℤ, pos, negsuc, if◌then◌else◌}
use Rattle.values.specs.declared.fault.OpFault.{OpFault}
use Rattle.values.specs.Numbers.{number_in}

-- a number from `least` to `most`
abbrev pub number_within : ℕ → ℕ → Result ℤ OpFault → Option ℕ
number_within least most (Ok (pos n)) = if nat_le least n && nat_le n most then Some n else None
number_within least most (Ok (negsuc n)) = None
number_within least most (Err fault) = None

-- the number given by an option's values: the default if there are none, and none if there are several
abbrev pub number_given : ℕ → ℕ → ℕ → List (List ℕ) → Option ℕ
number_given least most default [] = Some default
number_given least most default (w ∷ []) = number_within least most (number_in w)
number_given least most default (w ∷ v ∷ ws) = None
