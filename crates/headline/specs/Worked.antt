-- The code of two scripts: a recursive function, and a function that fills an array of its caller in a loop.
use Rattle.std.specs.Prelude.{ℕ, ◌||◌, true, false, pos, nat_eq, [], ◌∷◌, Some, None}
use Rattle.values.specs.Operators.{Operation, printf, compare, sum_of, product_of, size}
use Rattle.values.specs.declared.format.FormatPiece.TheVariants.{Byte, Number as digits}
use Rattle.values.specs.declared.key.Key.TheVariants.{Number as number_key}
use Rattle.values.specs.declared.op.Factor.TheVariants.{Times}
use Rattle.values.specs.declared.op.Order.TheVariants.{Less}
use Rattle.values.specs.declared.op.Sign.TheVariants.{Minus, Plus}
use Rattle.values.specs.declared.value.Scalar.TheVariants.{Number}
use Rattle.language.specs.Core.{Core}
use Rattle.language_laws.specs.ExampleTrees.{table_of_fibonacci, tree_of_fibonacci, table_of_filled_in_a_call, tree_of_filled_in_a_call}
use Rattle.language.specs.Resolved.{core}
use Rattle.task_code.specs.Code.{Variable, Name, Parameter, Stored, Closed, AtKey, Expr, constant, need, operation, no_operand, operand, Named, Fixed, Cell, Read, Call, Set, InsertElement, Print, If, Range, ByMain, ByCalls, ByStep, Code, here, scalar}
use Rattle.code_rules.specs.IsCodeOf.{Layout}

abbrev two : Operation → Expr → Expr → Expr
two o a b = operation o (operand a (operand b no_operand))

abbrev num : ℕ → Expr
num n = constant (Number (pos n))

-- (int r) fib(int n) { if (n < 2) { r = n; } else { r = fib(n-1) + fib(n-2); } } printf("%i", fib(10));
abbrev pub fibonacci : Core
fibonacci = core table_of_fibonacci tree_of_fibonacci

abbrev pub fibonacci_layout : Layout
fibonacci_layout = record { plain = λ n. nat_eq n 35 || (nat_eq n 30 || (nat_eq n 12 || nat_eq n 16)); array = λ n. false; body_of = λ f. 1 }

abbrev pub fibonacci_code : Code
fibonacci_code =
    let result = scalar 34 in
    let small = scalar 6 in
    let below1 = scalar 19 in
    let fib1 = scalar 18 in
    let below2 = scalar 25 in
    let fib2 = scalar 24 in
    let n : Name = record { up = 0; owned = Parameter 0 false } in
    let n1 : Name = record { up = 1; owned = Parameter 0 false } in
    let r : Name = record { up = 0; owned = Parameter 1 false } in
    let r1 : Name = record { up = 1; owned = Parameter 1 false } in
    record {
      entries =
          record { node = 34; at = 79; offset = 92; priority = pos 0; needs = []; act = Call 1 (Fixed (Number (pos 10)) ∷ []) (here result ∷ []); reads = []; writes = here result ∷ [] }
          ∷ record { node = 29; at = 79; offset = 79; priority = pos 0; needs = Stored (here result) ∷ []; act = Print (operation (printf (digits ∷ [])) (operand (need 0) no_operand)); reads = here result ∷ []; writes = [] }
          ∷ record { node = 6; at = 21; offset = 25; priority = pos 0; needs = Stored n ∷ []; act = Cell (two (compare Less) (need 0) (num 2)); reads = n ∷ []; writes = here small ∷ [] }
          ∷ record { node = 5; at = 21; offset = 21; priority = pos 0; needs = Stored (here small) ∷ []; act = If (need 0) 2 (Some 3); reads = here small ∷ n ∷ []; writes = r ∷ [] }
          ∷ record { node = 10; at = 34; offset = 34; priority = pos 0; needs = Stored n1 ∷ []; act = Set r1 (need 0); reads = n1 ∷ []; writes = r1 ∷ [] }
          ∷ record { node = 19; at = 50; offset = 58; priority = pos 0; needs = Stored n1 ∷ []; act = Cell (two (sum_of (Minus ∷ [])) (need 0) (num 1)); reads = n1 ∷ []; writes = here below1 ∷ [] }
          ∷ record { node = 18; at = 50; offset = 54; priority = pos 0; needs = []; act = Call 1 (Named (here below1) ∷ []) (here fib1 ∷ []); reads = here below1 ∷ []; writes = here fib1 ∷ [] }
          ∷ record { node = 25; at = 50; offset = 69; priority = pos 0; needs = Stored n1 ∷ []; act = Cell (two (sum_of (Minus ∷ [])) (need 0) (num 2)); reads = n1 ∷ []; writes = here below2 ∷ [] }
          ∷ record { node = 24; at = 50; offset = 65; priority = pos 0; needs = []; act = Call 1 (Named (here below2) ∷ []) (here fib2 ∷ []); reads = here below2 ∷ []; writes = here fib2 ∷ [] }
          ∷ record { node = 14; at = 50; offset = 50; priority = pos 0; needs = Stored (here fib1) ∷ Stored (here fib2) ∷ []; act = Set r1 (two (sum_of (Plus ∷ [])) (need 0) (need 1)); reads = here fib1 ∷ here fib2 ∷ []; writes = r1 ∷ [] }
          ∷ [];
      bodies =
          record { opener = ByMain; makes = result ∷ []; entries = 0 ∷ 1 ∷ [] }
          ∷ record { opener = ByCalls; makes = small ∷ []; entries = 2 ∷ 3 ∷ [] }
          ∷ record { opener = ByStep 3; makes = []; entries = 4 ∷ [] }
          ∷ record { opener = ByStep 3; makes = below1 ∷ fib1 ∷ below2 ∷ fib2 ∷ []; entries = 5 ∷ 6 ∷ 7 ∷ 8 ∷ 9 ∷ [] }
          ∷ [];
    }

-- (int B[]) g(int m) { foreach i in [0:m-1] { B[i] = i*i; } } int C[]; C = g(4); printf("%i %i", size(C), C[3]);
abbrev pub filled : Core
filled = core table_of_filled_in_a_call tree_of_filled_in_a_call

abbrev pub filled_layout : Layout
filled_layout = record { plain = λ n. nat_eq n 27 || (nat_eq n 38 || (nat_eq n 7 || (nat_eq n 14 || nat_eq n 29))); array = λ n. nat_eq n 22; body_of = λ f. 1 }

abbrev pub filled_code : Code
filled_code =
    let c : Variable = record { node = 22; array = true } in
    let found = scalar 36 in
    let last = scalar 8 in
    let i = scalar 6 in
    let square = scalar 16 in
    let m : Name = record { up = 0; owned = Parameter 0 false } in
    let b : Name = record { up = 0; owned = Parameter 1 true } in
    let b1 : Name = record { up = 1; owned = Parameter 1 true } in
    record {
      entries =
          record { node = 23; at = 69; offset = 73; priority = pos 0; needs = []; act = Call 1 (Fixed (Number (pos 4)) ∷ []) (here c ∷ []); reads = []; writes = here c ∷ [] }
          ∷ record { node = 36; at = 79; offset = 104; priority = pos 0; needs = AtKey (here c) (number_key (pos 3)) ∷ []; act = Read; reads = here c ∷ []; writes = here found ∷ [] }
          ∷ record { node = 28; at = 79; offset = 79; priority = pos 0; needs = Closed (here c) ∷ Stored (here found) ∷ []; act = Print (operation (printf (digits ∷ Byte 32 ∷ digits ∷ [])) (operand (operation size (operand (need 0) no_operand)) (operand (need 1) no_operand))); reads = here c ∷ here found ∷ []; writes = [] }
          ∷ record { node = 8; at = 21; offset = 37; priority = pos 0; needs = Stored m ∷ []; act = Cell (two (sum_of (Minus ∷ [])) (need 0) (num 1)); reads = m ∷ []; writes = here last ∷ [] }
          ∷ record { node = 5; at = 21; offset = 21; priority = pos 0; needs = Stored (here last) ∷ []; act = Range (num 0) (need 0) (num 1) (record { body = 2; value = 6; turn = None }); reads = here last ∷ []; writes = b ∷ [] }
          ∷ record { node = 16; at = 44; offset = 51; priority = pos 0; needs = Stored (here i) ∷ []; act = Cell (two (product_of (Times ∷ [])) (need 0) (need 0)); reads = here i ∷ []; writes = here square ∷ [] }
          ∷ record { node = 12; at = 44; offset = 44; priority = pos 0; needs = Stored (here i) ∷ Stored (here square) ∷ []; act = InsertElement b1 (need 0) (need 1); reads = here i ∷ here square ∷ []; writes = b1 ∷ [] }
          ∷ [];
      bodies =
          record { opener = ByMain; makes = c ∷ found ∷ []; entries = 0 ∷ 1 ∷ 2 ∷ [] }
          ∷ record { opener = ByCalls; makes = last ∷ []; entries = 3 ∷ 4 ∷ [] }
          ∷ record { opener = ByStep 4; makes = i ∷ square ∷ []; entries = 5 ∷ 6 ∷ [] }
          ∷ [];
    }
