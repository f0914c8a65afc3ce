use Rattle.std.proofs.Common.{◌≡◌, ℕ, ◌-◌, List, map, drop, length}
use Rattle.std.specs.Map.{lookup}
use Rattle.std.specs.Str.{bytes_eq}
use Rattle.types.specs.Known.{signature_of}
use Rattle.types.specs.Names.{find_from, place_of}
use Rattle.types.proofs.functions.first_places.Given as goal

abbrev pub invariant-loop-behind : goal.invariant-loop-behind
invariant-loop-behind l =
    (text : List ℕ) → lookup (λ key. bytes_eq text key.items) l.places.entries
    ≡ place_of (find_from (length l.functions - l.behind) (map signature_of (drop (length l.functions - l.behind) l.functions)) text)
