-- The parts before another one, and calls among them with a given output.
use Rattle.std.specs.Prelude.{ℕ, Bool, false, List, [], ◌∷◌, Option, Some, None, take}
use Rattle.std.specs.List.{list_any}
use Rattle.language.specs.Core.{Name, Part, inner, calls}
use Rattle.code_rules.specs.Laying.{local_node, same_node}

-- the last of these parts, or the one before them
abbrev pub last_of : Option Part → List Part → Option Part
last_of p [] = p
last_of p (x ∷ xs) = last_of (Some x) xs

-- the part directly before an index
abbrev pub before : List Part → ℕ → Option Part
before ps i = last_of None (take i ps)

-- a variable of the block is among the names
abbrev pub is_among : ℕ → List Name → Bool
is_among n xs = list_any (λ x. same_node (Some n) (local_node x)) xs

-- the part is a call with the scalar of this node as an output
abbrev pub gives_node : Option Part → ℕ → Bool
gives_node (Some (calls c)) n = is_among n c.outputs
gives_node (Some (inner c)) n = false
gives_node None n = false
