-- Which inputs become known with an input.
use Rattle.std.specs.Prelude.{Bool, false, ◌==◌, ◌&&◌}
use Rattle.rules.specs.declared.input.Input.{Input}
use Rattle.rules.specs.declared.input.Input.TheVariants.{Whole, Element}

-- j is known once i is: they are equal, or i is a closed array and j one of its elements. Elements are distinguished by
-- the hashes of their keys.
abbrev pub covers : Input → Input → Bool
covers (Whole a) (Whole b) = a == b
covers (Whole a) (Element b k) = a == b
covers (Element a k) (Whole b) = false
covers (Element a k) (Element b l) = (a == b) && (k == l)
