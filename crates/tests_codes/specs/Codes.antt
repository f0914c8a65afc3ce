-- Code that tests run.
use Rattle.std.specs.Prelude.{Bool, List, [], ◌∷◌, pos}
use Rattle.task_code.specs.Code.{Assert, ByMain, Code, Entry, Print, Set, Stored, constant, here, need, no_operand, operation, scalar}
use Rattle.values.specs.declared.format.FormatPiece.{FormatPiece}
use Rattle.values.specs.declared.value.Scalar.TheVariants.{Truth}
use Rattle.values.specs.Operators.{printf}

-- printf(FORMAT); without operands
abbrev pub print_entry : List FormatPiece → Entry
print_entry ps = record { node = 1; at = 0; offset = 0; priority = pos 0; needs = []; act = Print (operation (printf ps) no_operand); reads = []; writes = [] }

abbrev pub prints : List FormatPiece → Code
prints ps = record {
  entries = print_entry ps ∷ [];
  bodies = record { opener = ByMain; makes = []; entries = 0 ∷ [] } ∷ [];
}

-- x = truth;
abbrev pub set_entry : Bool → Entry
set_entry truth = record { node = 2; at = 0; offset = 0; priority = pos 0; needs = []; act = Set (here (scalar 1)) (constant (Truth truth)); reads = []; writes = here (scalar 1) ∷ [] }

-- assert(x, "");
abbrev pub assert_entry : Entry
assert_entry = record { node = 3; at = 18; offset = 18; priority = pos 0; needs = Stored (here (scalar 1)) ∷ []; act = Assert (need 0); reads = here (scalar 1) ∷ []; writes = [] }

-- boolean x = truth; assert(x, "");
abbrev pub asserts : Bool → Code
asserts truth = record {
  entries = set_entry truth ∷ assert_entry ∷ [];
  bodies = record { opener = ByMain; makes = scalar 1 ∷ []; entries = 0 ∷ 1 ∷ [] } ∷ [];
}
