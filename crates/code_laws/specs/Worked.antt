-- The code of two scripts as it is laid, and code in which one entry is in a wrong body.
use Rattle.std.specs.Prelude.{ℕ, Bool, true, false, pos, List, [], ◌∷◌, Some, None}
use Rattle.values.specs.Operators.{Operation, printf, compare, sum_of, product_of, size}
use Rattle.values.specs.declared.format.FormatPiece.TheVariants.{Byte, Number as digits}
use Rattle.values.specs.declared.key.Key.TheVariants.{Number as number_key}
use Rattle.values.specs.declared.op.Factor.TheVariants.{Times}
use Rattle.values.specs.declared.op.Order.TheVariants.{Less}
use Rattle.values.specs.declared.op.Sign.TheVariants.{Minus, Plus}
use Rattle.values.specs.declared.value.Scalar.TheVariants.{Number}
use Rattle.language.specs.Core.{Core}
use Rattle.language.specs.Resolved.{core}
use Rattle.language_laws.specs.ExampleTrees.{table_of_fibonacci, tree_of_fibonacci, table_of_filled_in_a_call, tree_of_filled_in_a_call}
use Rattle.task_code.specs.Code.{Variable, Name, Parameter, Stored, Closed, AtKey, Expr, constant, need, operation, no_operand, operand, Named, Fixed, Cell, Read, Call, Set, InsertElement, Print, If, Range, Entry, ByMain, ByCalls, ByStep, Code, here, scalar}
use Rattle.code_rules.specs.Laying.{Kinds}

abbrev pub two : Operation → Expr → Expr → Expr
two o a b = operation o (operand a (operand b no_operand))

abbrev pub num : ℕ → Expr
num n = constant (Number (pos n))

-- (int r) fib(int n) { if (n < 2) { r = n; } else { r = fib(n-1) + fib(n-2); } } printf("%i", fib(10));
abbrev pub fibonacci : Core
fibonacci = core table_of_fibonacci tree_of_fibonacci

abbrev pub fibonacci_kinds : List Kinds
fibonacci_kinds = (false ∷ [], false ∷ []) ∷ []

abbrev n : Name
n = record { up = 0; owned = Parameter 0 false }

abbrev n1 : Name
n1 = record { up = 1; owned = Parameter 0 false }

abbrev r : Name
r = record { up = 0; owned = Parameter 1 false }

abbrev r1 : Name
r1 = record { up = 1; owned = Parameter 1 false }

-- the entries of the branches before the branch's own
abbrev pub fibonacci_entries : List Entry
fibonacci_entries =
    record { node = 34; at = 79; offset = 92; priority = pos 0; needs = []; act = Call 1 (Fixed (Number (pos 10)) ∷ []) (here (scalar 34) ∷ []); reads = []; writes = here (scalar 34) ∷ [] }
    ∷ record { node = 29; at = 79; offset = 79; priority = pos 0; needs = Stored (here (scalar 34)) ∷ []; act = Print (operation (printf (digits ∷ [])) (operand (need 0) no_operand)); reads = here (scalar 34) ∷ []; writes = [] }
    ∷ record { node = 6; at = 21; offset = 25; priority = pos 0; needs = Stored n ∷ []; act = Cell (two (compare Less) (need 0) (num 2)); reads = n ∷ []; writes = here (scalar 6) ∷ [] }
    ∷ record { node = 10; at = 34; offset = 34; priority = pos 0; needs = Stored n1 ∷ []; act = Set r1 (need 0); reads = n1 ∷ []; writes = r1 ∷ [] }
    ∷ record { node = 19; at = 50; offset = 58; priority = pos 0; needs = Stored n1 ∷ []; act = Cell (two (sum_of (Minus ∷ [])) (need 0) (num 1)); reads = n1 ∷ []; writes = here (scalar 19) ∷ [] }
    ∷ record { node = 18; at = 50; offset = 54; priority = pos 0; needs = []; act = Call 1 (Named (here (scalar 19)) ∷ []) (here (scalar 18) ∷ []); reads = here (scalar 19) ∷ []; writes = here (scalar 18) ∷ [] }
    ∷ record { node = 25; at = 50; offset = 69; priority = pos 0; needs = Stored n1 ∷ []; act = Cell (two (sum_of (Minus ∷ [])) (need 0) (num 2)); reads = n1 ∷ []; writes = here (scalar 25) ∷ [] }
    ∷ record { node = 24; at = 50; offset = 65; priority = pos 0; needs = []; act = Call 1 (Named (here (scalar 25)) ∷ []) (here (scalar 24) ∷ []); reads = here (scalar 25) ∷ []; writes = here (scalar 24) ∷ [] }
    ∷ record { node = 14; at = 50; offset = 50; priority = pos 0; needs = Stored (here (scalar 18)) ∷ Stored (here (scalar 24)) ∷ []; act = Set r1 (two (sum_of (Plus ∷ [])) (need 0) (need 1)); reads = here (scalar 18) ∷ here (scalar 24) ∷ []; writes = r1 ∷ [] }
    ∷ record { node = 5; at = 21; offset = 21; priority = pos 0; needs = Stored (here (scalar 6)) ∷ []; act = If (need 0) 2 (Some 3); reads = here (scalar 6) ∷ n ∷ []; writes = r ∷ [] }
    ∷ []

abbrev pub fibonacci_code : Code
fibonacci_code = record {
  entries = fibonacci_entries;
  bodies =
      record { opener = ByMain; makes = scalar 34 ∷ []; entries = 0 ∷ 1 ∷ [] }
      ∷ record { opener = ByCalls; makes = scalar 6 ∷ []; entries = 2 ∷ 9 ∷ [] }
      ∷ record { opener = ByStep 9; makes = []; entries = 3 ∷ [] }
      ∷ record { opener = ByStep 9; makes = scalar 19 ∷ scalar 18 ∷ scalar 25 ∷ scalar 24 ∷ []; entries = 4 ∷ 5 ∷ 6 ∷ 7 ∷ 8 ∷ [] }
      ∷ [];
}

-- the assignment of the first branch is moved into the function's own body
abbrev pub misplaced_code : Code
misplaced_code = record {
  entries = fibonacci_entries;
  bodies =
      record { opener = ByMain; makes = scalar 34 ∷ []; entries = 0 ∷ 1 ∷ [] }
      ∷ record { opener = ByCalls; makes = scalar 6 ∷ []; entries = 2 ∷ 3 ∷ 9 ∷ [] }
      ∷ record { opener = ByStep 9; makes = []; entries = [] }
      ∷ record { opener = ByStep 9; makes = scalar 19 ∷ scalar 18 ∷ scalar 25 ∷ scalar 24 ∷ []; entries = 4 ∷ 5 ∷ 6 ∷ 7 ∷ 8 ∷ [] }
      ∷ [];
}

-- (int B[]) g(int m) { foreach i in [0:m-1] { B[i] = i*i; } } int C[]; C = g(4); printf("%i %i", size(C), C[3]);
abbrev pub filled : Core
filled = core table_of_filled_in_a_call tree_of_filled_in_a_call

abbrev pub filled_kinds : List Kinds
filled_kinds = (false ∷ [], true ∷ []) ∷ []

abbrev pub filled_declared : List (ℕ × Bool)
filled_declared = (22, true) ∷ []

abbrev c : Variable
c = record { node = 22; array = true }

abbrev b : Name
b = record { up = 0; owned = Parameter 1 true }

abbrev b1 : Name
b1 = record { up = 1; owned = Parameter 1 true }

-- the entries of the loop's body before the loop's own
abbrev pub filled_code : Code
filled_code = record {
  entries =
      record { node = 23; at = 69; offset = 73; priority = pos 0; needs = []; act = Call 1 (Fixed (Number (pos 4)) ∷ []) (here c ∷ []); reads = []; writes = here c ∷ [] }
      ∷ record { node = 36; at = 79; offset = 104; priority = pos 0; needs = AtKey (here c) (number_key (pos 3)) ∷ []; act = Read; reads = here c ∷ []; writes = here (scalar 36) ∷ [] }
      ∷ record { node = 28; at = 79; offset = 79; priority = pos 0; needs = Closed (here c) ∷ Stored (here (scalar 36)) ∷ []; act = Print (operation (printf (digits ∷ Byte 32 ∷ digits ∷ [])) (operand (operation size (operand (need 0) no_operand)) (operand (need 1) no_operand))); reads = here c ∷ here (scalar 36) ∷ []; writes = [] }
      ∷ record { node = 8; at = 21; offset = 37; priority = pos 0; needs = Stored n ∷ []; act = Cell (two (sum_of (Minus ∷ [])) (need 0) (num 1)); reads = n ∷ []; writes = here (scalar 8) ∷ [] }
      ∷ record { node = 16; at = 44; offset = 51; priority = pos 0; needs = Stored (here (scalar 6)) ∷ []; act = Cell (two (product_of (Times ∷ [])) (need 0) (need 0)); reads = here (scalar 6) ∷ []; writes = here (scalar 16) ∷ [] }
      ∷ record { node = 12; at = 44; offset = 44; priority = pos 0; needs = Stored (here (scalar 6)) ∷ Stored (here (scalar 16)) ∷ []; act = InsertElement b1 (need 0) (need 1); reads = here (scalar 6) ∷ here (scalar 16) ∷ []; writes = b1 ∷ [] }
      ∷ record { node = 5; at = 21; offset = 21; priority = pos 0; needs = Stored (here (scalar 8)) ∷ []; act = Range (num 0) (need 0) (num 1) (record { body = 2; value = 6; turn = None }); reads = here (scalar 8) ∷ []; writes = b ∷ [] }
      ∷ [];
  bodies =
      record { opener = ByMain; makes = c ∷ scalar 36 ∷ []; entries = 0 ∷ 1 ∷ 2 ∷ [] }
      ∷ record { opener = ByCalls; makes = scalar 8 ∷ []; entries = 3 ∷ 6 ∷ [] }
      ∷ record { opener = ByStep 6; makes = scalar 6 ∷ scalar 16 ∷ []; entries = 4 ∷ 5 ∷ [] }
      ∷ [];
}
