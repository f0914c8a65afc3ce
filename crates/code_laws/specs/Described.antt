-- The description of a script's tree that emission receives: which inputs and outputs of its functions, and which of
-- its variables, are arrays.
use Rattle.std.specs.Prelude.{◌≡◌, ℕ, Bool, true, false, List, map}
use Rattle.language.specs.declared.tree.Shape.{Shape}
use Rattle.language.specs.declared.tree.Shape.TheVariants.{Scalar, Array}
use Rattle.language.specs.Members.{◌∈◌}
use Rattle.language.specs.Scopes.{Typ, Signature, signatures}
use Rattle.language.specs.Tree.{Declaration, Tree}
use Rattle.language_accepted.specs.Types.{tree_declarations}
use Rattle.code_rules.specs.Laying.{Kinds}

abbrev pub is_array_shape : Shape → Bool
is_array_shape Scalar = false
is_array_shape (Array κ) = true

abbrev pub kinds_of_signature : Signature → Kinds
kinds_of_signature f = (map (λ (τ : Typ). is_array_shape τ.shape) f.inputs, map (λ (τ : Typ). is_array_shape τ.shape) f.outputs)

-- the functions' inputs and outputs, in the order of the tree
abbrev pub KindsOf : List Kinds → Tree → Type 0
KindsOf fs tree = fs ≡ map kinds_of_signature (signatures tree)

-- each variable is declared in the tree, as an array or as a scalar
abbrev pub DeclaredIn : List (ℕ × Bool) → Tree → Type 0
DeclaredIn ds tree = (n : ℕ) (b : Bool) → ◌∈◌ {X = ℕ × Bool} (n, b) ds → (d : Declaration) × d ∈ tree_declarations tree × (d.name.number ≡ n) × (is_array_shape d.shape ≡ b)
