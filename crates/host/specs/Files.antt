-- The bytes of files.
use Rattle.std.specs.Prelude.{ℕ, List, Option, option_map, Vec}

-- the bytes of a file, or none if it cannot be read
abbrev pub bytes_of : {A : Type 0} → Option (Vec ℕ A) → Option (List ℕ)
bytes_of file = option_map (λ bytes. bytes.items) file
