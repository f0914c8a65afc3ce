-- Paths and places: paths identify block instances, and places the data of names. States docs/LANGUAGE.md: Blocks and
-- paths; Calls.
use Rattle.std.specs.Prelude.{ℕ, zero, suc, List, [], ◌∷◌}
use Rattle.values.specs.declared.key.Key.{Key}
pub use Rattle.values.specs.Limits.{max_path_steps}
use Rattle.language.specs.Core.{Core, Name, Owned, local, input, output}
use Rattle.language.specs.Parts.{call_at, input_name, output_name}

-- a step: the offset of the statement or call that opens a block, and the key under which it opens it
abbrev pub Step : Type 0
Step = ℕ × Key

-- a path: the steps from the script to a block instance, the innermost step first (docs/LANGUAGE.md, Blocks and paths)
abbrev pub Path : Type 0
Path = List Step

-- a place: a path with a node
abbrev pub Place : Type 0
Place = Path × ℕ

-- the owner's node, as many block instances outwards as the name has steps; for an input or output of a function, the
-- place of what the calling block passes for it (docs/LANGUAGE.md, Calls)
abbrev pub place_of : Core → Path → ℕ → Owned → Place
place_of s [] up (local n) = ([], n)
place_of s [] up (input i) = ([], 0)
place_of s [] up (output i) = ([], 0)
place_of s (step ∷ path) (suc up) what = place_of s path up what
place_of s (step ∷ path) zero (local n) = (step ∷ path, n)
place_of s (step ∷ path) zero (input i) =
    let x = input_name (call_at s step.0) i in place_of s path x.up x.what
place_of s (step ∷ path) zero (output i) =
    let x = output_name (call_at s step.0) i in place_of s path x.up x.what

-- the place that a name denotes at a path
abbrev pub place : Core → Path → Name → Place
place s path x = place_of s path x.up x.what
