-- Worked scripts as code, codes that are not whole, and effects of their items.
use Rattle.std.specs.Prelude.{◌≡◌, ℕ, true, false, length, [], ◌∷◌, Option, None, Some, pos}
use Rattle.dataflow.specs.Machine.{Begin, ElementTwice, End, Quiet, Run}
use Rattle.dataflow.specs.System.{Answer, Bad, Found, Good, Missing, Outcome}
use Rattle.task_code.specs.Code.{At, AtKey, Each, ByCalls, ByMain, ByStep, ByWait, Call, Cell, Closed, Code, Expr, Fill, Fixed, If, Local, Name, Named, Parameter, Print, InsertElement, Range, Read, Set, Stored, Variable, Wait, constant, here, need, no_operand, operand, operation, scalar}
use Rattle.task_code.specs.Compute.{EntryFault, InOperation, NoElement, range_turns}
use Rattle.task_code.specs.Effects.{Item, Task, chunk, only}
use Rattle.task_code.specs.Places.{Constant, Datum, Place, Step, place_at}
use Rattle.task_code.specs.Machine.{CodeState, Enabled}
use Rattle.task_code.specs.System.{code_system}
use Rattle.values.specs.Operators.{Operation, equal, compare, printf, product_of, size, sum_of}
use Rattle.values.specs.declared.fault.OpFault.TheVariants.{Overflow}
use Rattle.values.specs.declared.key.Key.{Key}
use Rattle.values.specs.declared.key.Key.TheVariants.{Number as number_key}
use Rattle.values.specs.declared.value.Scalar.{Scalar}
use Rattle.values.specs.declared.value.Scalar.TheVariants.{Number, Text, Truth}
use Rattle.values.specs.declared.format.FormatPiece.TheVariants.{Byte, Number as digits}
use Rattle.values.specs.declared.op.Sign.TheVariants.{Plus, Minus}
use Rattle.values.specs.declared.op.Factor.TheVariants.{Times}
use Rattle.values.specs.declared.op.Order.TheVariants.{Less}
use Rattle.values.specs.Limits.{chunk_size}

-- the array of a node
abbrev array : ℕ → Variable
array n = record { node = n; array = true }

-- a variable of the block that lies one step further out
abbrev outer : Variable → Name
outer v = record { up = 1; owned = Local v }

-- a scalar or an array parameter
abbrev parameter : ℕ → ℕ → Name
parameter up k = record { up = up; owned = Parameter k false }

abbrev array_parameter : ℕ → ℕ → Name
array_parameter up k = record { up = up; owned = Parameter k true }

-- an operation on two operands
abbrev two : Operation → Expr → Expr → Expr
two o a b = operation o (operand a (operand b no_operand))

-- a number
abbrev num : ℕ → Expr
num n = constant (Number (pos n))

-- printf("%i", ..) of the first need
abbrev print_number : Expr
print_number = operation (printf (digits ∷ [])) (operand (need 0) no_operand)

-- printf("hello");
abbrev pub hello : Code
hello =
    record {
      entries =
          record { node = 1; at = 0; offset = 0; priority = pos 0; needs = []; act = Print (operation (printf (Byte 104 ∷ Byte 101 ∷ Byte 108 ∷ Byte 108 ∷ Byte 111 ∷ [])) no_operand); reads = []; writes = [] }
          ∷ [];
      bodies =
          record { opener = ByMain; makes = []; entries = 0 ∷ [] }
          ∷ [];
    }

-- int x; int y; x = y + 1; y = 2; printf("%i", x);
abbrev pub used_before_assigned : Code
used_before_assigned =
    let x = scalar 1 in
    let y = scalar 2 in
    record {
      entries =
          record { node = 3; at = 14; offset = 14; priority = pos 0; needs = Stored (here y) ∷ []; act = Set (here x) (two (sum_of (Plus ∷ [])) (need 0) (num 1)); reads = here y ∷ []; writes = here x ∷ [] }
          ∷ record { node = 4; at = 25; offset = 25; priority = pos 0; needs = []; act = Set (here y) (num 2); reads = []; writes = here y ∷ [] }
          ∷ record { node = 5; at = 32; offset = 32; priority = pos 0; needs = Stored (here x) ∷ []; act = Print print_number; reads = here x ∷ []; writes = [] }
          ∷ [];
      bodies =
          record { opener = ByMain; makes = x ∷ y ∷ []; entries = 0 ∷ 1 ∷ 2 ∷ [] }
          ∷ [];
    }

-- int A[]; A[0] = 1; foreach i in [1:5] { A[i] = A[i-1] * 2; } printf("%i", A[5]);
abbrev pub filled_by_loop : Code
filled_by_loop =
    let a = array 1 in
    let i = scalar 3 in
    let before = scalar 5 in
    let found = scalar 6 in
    let double = scalar 7 in
    let last = scalar 9 in
    record {
      entries =
          record { node = 2; at = 9; offset = 9; priority = pos 0; needs = []; act = InsertElement (here a) (num 0) (num 1); reads = []; writes = here a ∷ [] }
          ∷ record { node = 4; at = 19; offset = 19; priority = pos 0; needs = []; act = Range (num 1) (num 5) (num 1) (record { body = 1; value = 3; turn = None }); reads = here a ∷ []; writes = here a ∷ [] }
          ∷ record { node = 9; at = 61; offset = 74; priority = pos 0; needs = AtKey (here a) (number_key (pos 5)) ∷ []; act = Read; reads = here a ∷ []; writes = here last ∷ [] }
          ∷ record { node = 10; at = 61; offset = 61; priority = pos 0; needs = Stored (here last) ∷ []; act = Print print_number; reads = here last ∷ []; writes = [] }
          ∷ record { node = 5; at = 40; offset = 49; priority = pos 0; needs = Stored (here i) ∷ []; act = Cell (two (sum_of (Minus ∷ [])) (need 0) (num 1)); reads = here i ∷ []; writes = here before ∷ [] }
          ∷ record { node = 6; at = 40; offset = 47; priority = pos 0; needs = At (outer a) (here before) ∷ []; act = Read; reads = outer a ∷ here before ∷ []; writes = here found ∷ [] }
          ∷ record { node = 7; at = 40; offset = 47; priority = pos 0; needs = Stored (here found) ∷ []; act = Cell (two (product_of (Times ∷ [])) (need 0) (num 2)); reads = here found ∷ []; writes = here double ∷ [] }
          ∷ record { node = 8; at = 40; offset = 40; priority = pos 0; needs = Stored (here i) ∷ Stored (here double) ∷ []; act = InsertElement (outer a) (need 0) (need 1); reads = here i ∷ here double ∷ []; writes = outer a ∷ [] }
          ∷ [];
      bodies =
          record { opener = ByMain; makes = a ∷ last ∷ []; entries = 0 ∷ 1 ∷ 2 ∷ 3 ∷ [] }
          ∷ record { opener = ByStep 1; makes = i ∷ before ∷ found ∷ double ∷ []; entries = 4 ∷ 5 ∷ 6 ∷ 7 ∷ [] }
          ∷ [];
    }

-- int A[]; A[0] = 1; A[0] = 2; printf("%i", A[0]);
abbrev pub key_written_twice : Code
key_written_twice =
    let a = array 1 in
    let found = scalar 4 in
    record {
      entries =
          record { node = 2; at = 9; offset = 9; priority = pos 0; needs = []; act = InsertElement (here a) (num 0) (num 1); reads = []; writes = here a ∷ [] }
          ∷ record { node = 3; at = 19; offset = 19; priority = pos 0; needs = []; act = InsertElement (here a) (num 0) (num 2); reads = []; writes = here a ∷ [] }
          ∷ record { node = 4; at = 29; offset = 42; priority = pos 0; needs = AtKey (here a) (number_key (pos 0)) ∷ []; act = Read; reads = here a ∷ []; writes = here found ∷ [] }
          ∷ record { node = 5; at = 29; offset = 29; priority = pos 0; needs = Stored (here found) ∷ []; act = Print print_number; reads = here found ∷ []; writes = [] }
          ∷ [];
      bodies =
          record { opener = ByMain; makes = a ∷ found ∷ []; entries = 0 ∷ 1 ∷ 2 ∷ 3 ∷ [] }
          ∷ [];
    }

-- (int r) fib(int n) { if (n < 2) { r = n; } else { r = fib(n-1) + fib(n-2); } } printf("%i", fib(10));
-- the parameters of fib are its input n, 0, and its output r, 1
abbrev pub fibonacci : Code
fibonacci =
    let result = scalar 1 in
    let small = scalar 3 in
    let below1 = scalar 6 in
    let fib1 = scalar 7 in
    let below2 = scalar 8 in
    let fib2 = scalar 9 in
    let n = parameter 0 0 in
    let n1 = parameter 1 0 in
    let r1 = parameter 1 1 in
    record {
      entries =
          record { node = 1; at = 79; offset = 92; priority = pos 0; needs = []; act = Call 1 (Fixed (Number (pos 10)) ∷ []) (here result ∷ []); reads = []; writes = here result ∷ [] }
          ∷ record { node = 2; at = 79; offset = 79; priority = pos 0; needs = Stored (here result) ∷ []; act = Print print_number; reads = here result ∷ []; writes = [] }
          ∷ record { node = 3; at = 21; offset = 25; priority = pos 0; needs = Stored n ∷ []; act = Cell (two (compare Less) (need 0) (num 2)); reads = n ∷ []; writes = here small ∷ [] }
          ∷ record { node = 4; at = 21; offset = 21; priority = pos 0; needs = Stored (here small) ∷ []; act = If (need 0) 2 (Some 3); reads = here small ∷ n ∷ []; writes = parameter 0 1 ∷ [] }
          ∷ record { node = 5; at = 34; offset = 34; priority = pos 0; needs = Stored n1 ∷ []; act = Set r1 (need 0); reads = n1 ∷ []; writes = r1 ∷ [] }
          ∷ record { node = 6; at = 50; offset = 58; priority = pos 0; needs = Stored n1 ∷ []; act = Cell (two (sum_of (Minus ∷ [])) (need 0) (num 1)); reads = n1 ∷ []; writes = here below1 ∷ [] }
          ∷ record { node = 7; at = 50; offset = 54; priority = pos 0; needs = []; act = Call 1 (Named (here below1) ∷ []) (here fib1 ∷ []); reads = here below1 ∷ []; writes = here fib1 ∷ [] }
          ∷ record { node = 8; at = 50; offset = 69; priority = pos 0; needs = Stored n1 ∷ []; act = Cell (two (sum_of (Minus ∷ [])) (need 0) (num 2)); reads = n1 ∷ []; writes = here below2 ∷ [] }
          ∷ record { node = 9; at = 50; offset = 65; priority = pos 0; needs = []; act = Call 1 (Named (here below2) ∷ []) (here fib2 ∷ []); reads = here below2 ∷ []; writes = here fib2 ∷ [] }
          ∷ record { node = 10; at = 50; offset = 50; priority = pos 0; needs = Stored (here fib1) ∷ Stored (here fib2) ∷ []; act = Set r1 (two (sum_of (Plus ∷ [])) (need 0) (need 1)); reads = here fib1 ∷ here fib2 ∷ []; writes = r1 ∷ [] }
          ∷ [];
      bodies =
          record { opener = ByMain; makes = result ∷ []; entries = 0 ∷ 1 ∷ [] }
          ∷ record { opener = ByCalls; makes = small ∷ []; entries = 2 ∷ 3 ∷ [] }
          ∷ record { opener = ByStep 3; makes = []; entries = 4 ∷ [] }
          ∷ record { opener = ByStep 3; makes = below1 ∷ fib1 ∷ below2 ∷ fib2 ∷ []; entries = 5 ∷ 6 ∷ 7 ∷ 8 ∷ 9 ∷ [] }
          ∷ [];
    }

-- (int B[]) fill(int n) { B[0] = n; B[1] = n + 1; } int A[]; A = fill(5); printf("%i", size(A));
-- the parameters of fill are its input n, 0, and its output B, 1
abbrev pub filled_by_call : Code
filled_by_call =
    let a = array 1 in
    let next = scalar 5 in
    let n = parameter 0 0 in
    let b = array_parameter 0 1 in
    record {
      entries =
          record { node = 2; at = 59; offset = 63; priority = pos 0; needs = []; act = Call 1 (Fixed (Number (pos 5)) ∷ []) (here a ∷ []); reads = []; writes = here a ∷ [] }
          ∷ record { node = 3; at = 72; offset = 72; priority = pos 0; needs = Closed (here a) ∷ []; act = Print (operation (printf (digits ∷ [])) (operand (operation size (operand (need 0) no_operand)) no_operand)); reads = here a ∷ []; writes = [] }
          ∷ record { node = 4; at = 24; offset = 24; priority = pos 0; needs = Stored n ∷ []; act = InsertElement b (num 0) (need 0); reads = n ∷ []; writes = b ∷ [] }
          ∷ record { node = 5; at = 34; offset = 41; priority = pos 0; needs = Stored n ∷ []; act = Cell (two (sum_of (Plus ∷ [])) (need 0) (num 1)); reads = n ∷ []; writes = here next ∷ [] }
          ∷ record { node = 6; at = 34; offset = 34; priority = pos 0; needs = Stored (here next) ∷ []; act = InsertElement b (num 1) (need 0); reads = here next ∷ []; writes = b ∷ [] }
          ∷ [];
      bodies =
          record { opener = ByMain; makes = a ∷ []; entries = 0 ∷ 1 ∷ [] }
          ∷ record { opener = ByCalls; makes = next ∷ []; entries = 2 ∷ 3 ∷ 4 ∷ [] }
          ∷ [];
    }

-- int x; x = 1; x = 2;
abbrev pub assigned_twice : Code
assigned_twice =
    let x = scalar 1 in
    record {
      entries =
          record { node = 2; at = 7; offset = 7; priority = pos 0; needs = []; act = Set (here x) (num 1); reads = []; writes = here x ∷ [] }
          ∷ record { node = 3; at = 14; offset = 14; priority = pos 0; needs = []; act = Set (here x) (num 2); reads = []; writes = here x ∷ [] }
          ∷ [];
      bodies =
          record { opener = ByMain; makes = x ∷ []; entries = 0 ∷ 1 ∷ [] }
          ∷ [];
    }

-- int A[]; foreach i in [1:5] { A[i] = i; }, with a loop that lacks its body's right to write A
abbrev pub loop_without_right : Code
loop_without_right =
    let a = array 1 in
    let i = scalar 3 in
    record {
      entries =
          record { node = 2; at = 9; offset = 9; priority = pos 0; needs = []; act = Range (num 1) (num 5) (num 1) (record { body = 1; value = 3; turn = None }); reads = []; writes = [] }
          ∷ record { node = 4; at = 30; offset = 30; priority = pos 0; needs = Stored (here i) ∷ []; act = InsertElement (outer a) (need 0) (need 0); reads = here i ∷ []; writes = outer a ∷ [] }
          ∷ [];
      bodies =
          record { opener = ByMain; makes = a ∷ []; entries = 0 ∷ [] }
          ∷ record { opener = ByStep 0; makes = i ∷ []; entries = 1 ∷ [] }
          ∷ [];
    }

-- (int a, int b) two() { a = 1; b = 2; } int p; (p, p) = two();
abbrev pub one_output_twice : Code
one_output_twice =
    let p = scalar 1 in
    record {
      entries =
          record { node = 2; at = 46; offset = 55; priority = pos 0; needs = []; act = Call 1 [] (here p ∷ here p ∷ []); reads = []; writes = here p ∷ [] }
          ∷ record { node = 3; at = 23; offset = 23; priority = pos 0; needs = []; act = Set (parameter 0 0) (num 1); reads = []; writes = parameter 0 0 ∷ [] }
          ∷ record { node = 4; at = 30; offset = 30; priority = pos 0; needs = []; act = Set (parameter 0 1) (num 2); reads = []; writes = parameter 0 1 ∷ [] }
          ∷ [];
      bodies =
          record { opener = ByMain; makes = p ∷ []; entries = 0 ∷ [] }
          ∷ record { opener = ByCalls; makes = []; entries = 1 ∷ 2 ∷ [] }
          ∷ [];
    }

-- printf("%i", x);, with an x that nothing declares
abbrev pub name_undeclared : Code
name_undeclared =
    let x = scalar 1 in
    record {
      entries =
          record { node = 2; at = 0; offset = 0; priority = pos 0; needs = Stored (here x) ∷ []; act = Print print_number; reads = here x ∷ []; writes = [] }
          ∷ [];
      bodies =
          record { opener = ByMain; makes = []; entries = 0 ∷ [] }
          ∷ [];
    }

-- int x; foreach i in [1:3] { x = i; }
abbrev pub assigned_in_loop : Code
assigned_in_loop =
    let x = scalar 1 in
    let i = scalar 3 in
    record {
      entries =
          record { node = 2; at = 7; offset = 7; priority = pos 0; needs = []; act = Range (num 1) (num 3) (num 1) (record { body = 1; value = 3; turn = None }); reads = []; writes = here x ∷ [] }
          ∷ record { node = 4; at = 28; offset = 28; priority = pos 0; needs = Stored (here i) ∷ []; act = Set (outer x) (need 0); reads = here i ∷ []; writes = outer x ∷ [] }
          ∷ [];
      bodies =
          record { opener = ByMain; makes = x ∷ []; entries = 0 ∷ [] }
          ∷ record { opener = ByStep 0; makes = i ∷ []; entries = 1 ∷ [] }
          ∷ [];
    }

-- foreach i in [1:3] { i = 1; }
abbrev pub loop_variable_assigned : Code
loop_variable_assigned =
    let i = scalar 3 in
    record {
      entries =
          record { node = 2; at = 0; offset = 0; priority = pos 0; needs = []; act = Range (num 1) (num 3) (num 1) (record { body = 1; value = 3; turn = None }); reads = []; writes = [] }
          ∷ record { node = 4; at = 21; offset = 21; priority = pos 0; needs = []; act = Set (here i) (num 1); reads = []; writes = here i ∷ [] }
          ∷ [];
      bodies =
          record { opener = ByMain; makes = []; entries = 0 ∷ [] }
          ∷ record { opener = ByStep 0; makes = i ∷ []; entries = 1 ∷ [] }
          ∷ [];
    }

-- int x; x = 1;, with an entry that occurs twice in its body
abbrev pub entry_twice : Code
entry_twice =
    let x = scalar 1 in
    record {
      entries =
          record { node = 2; at = 7; offset = 7; priority = pos 0; needs = []; act = Set (here x) (num 1); reads = []; writes = here x ∷ [] }
          ∷ [];
      bodies =
          record { opener = ByMain; makes = x ∷ []; entries = 0 ∷ 0 ∷ [] }
          ∷ [];
    }

-- int x; x = 1; wait (x) { printf("hello"); }, whose body names another opener
abbrev pub opened_by_another : Code
opened_by_another =
    let x = scalar 1 in
    record {
      entries =
          record { node = 2; at = 7; offset = 7; priority = pos 0; needs = []; act = Set (here x) (num 1); reads = []; writes = here x ∷ [] }
          ∷ record { node = 3; at = 14; offset = 14; priority = pos 0; needs = Stored (here x) ∷ []; act = Wait (record { at = 14; needs = Stored (here x) ∷ [] } ∷ []) 1; reads = here x ∷ []; writes = [] }
          ∷ record { node = 4; at = 25; offset = 25; priority = pos 0; needs = []; act = Print (operation (printf (Byte 104 ∷ [])) no_operand); reads = []; writes = [] }
          ∷ [];
      bodies =
          record { opener = ByMain; makes = x ∷ []; entries = 0 ∷ 1 ∷ [] }
          ∷ record { opener = ByWait 0; makes = []; entries = 2 ∷ [] }
          ∷ [];
    }

-- int x; x = [1];, which stores elements into a scalar
abbrev pub scalar_filled : Code
scalar_filled =
    let x = scalar 1 in
    record {
      entries =
          record { node = 2; at = 7; offset = 7; priority = pos 0; needs = []; act = Fill (here x) (operand (num 1) no_operand); reads = []; writes = here x ∷ [] }
          ∷ [];
      bodies =
          record { opener = ByMain; makes = x ∷ []; entries = 0 ∷ [] }
          ∷ [];
    }

-- printf("hello"); with int x;, and an unused right to read x
abbrev pub right_without_use : Code
right_without_use =
    let x = scalar 1 in
    record {
      entries =
          record { node = 2; at = 0; offset = 0; priority = pos 0; needs = []; act = Print (operation (printf (Byte 104 ∷ [])) no_operand); reads = here x ∷ []; writes = [] }
          ∷ [];
      bodies =
          record { opener = ByMain; makes = x ∷ []; entries = 0 ∷ [] }
          ∷ [];
    }

-- (int B[]) f(int n) { B = f(n + 1); } int A[]; A = f(0); printf("%i", size(A));, whose calls have no right to write their outputs
abbrev pub calls_without_right : Code
calls_without_right =
    let a = array 1 in
    let n = parameter 0 0 in
    let b = array_parameter 0 1 in
    record {
      entries =
          record { node = 2; at = 46; offset = 50; priority = pos 0; needs = []; act = Call 1 (Fixed (Number (pos 0)) ∷ []) (here a ∷ []); reads = []; writes = [] }
          ∷ record { node = 3; at = 56; offset = 56; priority = pos 0; needs = Closed (here a) ∷ []; act = Print (operation (printf (digits ∷ [])) (operand (operation size (operand (need 0) no_operand)) no_operand)); reads = here a ∷ []; writes = [] }
          ∷ record { node = 4; at = 21; offset = 27; priority = pos 0; needs = Stored n ∷ []; act = Cell (two (sum_of (Plus ∷ [])) (need 0) (num 1)); reads = n ∷ []; writes = here (scalar 4) ∷ [] }
          ∷ record { node = 6; at = 21; offset = 25; priority = pos 0; needs = []; act = Call 1 (Named (here (scalar 4)) ∷ []) (b ∷ []); reads = here (scalar 4) ∷ []; writes = [] }
          ∷ [];
      bodies =
          record { opener = ByMain; makes = a ∷ []; entries = 0 ∷ 1 ∷ [] }
          ∷ record { opener = ByCalls; makes = scalar 4 ∷ []; entries = 2 ∷ 3 ∷ [] }
          ∷ [];
    }

-- the same script, whose calls have that right: A is never closed, since each call may still write it
abbrev pub filled_without_end : Code
filled_without_end =
    let a = array 1 in
    let n = parameter 0 0 in
    let b = array_parameter 0 1 in
    record {
      entries =
          record { node = 2; at = 46; offset = 50; priority = pos 0; needs = []; act = Call 1 (Fixed (Number (pos 0)) ∷ []) (here a ∷ []); reads = []; writes = here a ∷ [] }
          ∷ record { node = 3; at = 56; offset = 56; priority = pos 0; needs = Closed (here a) ∷ []; act = Print (operation (printf (digits ∷ [])) (operand (operation size (operand (need 0) no_operand)) no_operand)); reads = here a ∷ []; writes = [] }
          ∷ record { node = 4; at = 21; offset = 27; priority = pos 0; needs = Stored n ∷ []; act = Cell (two (sum_of (Plus ∷ [])) (need 0) (num 1)); reads = n ∷ []; writes = here (scalar 4) ∷ [] }
          ∷ record { node = 6; at = 21; offset = 25; priority = pos 0; needs = []; act = Call 1 (Named (here (scalar 4)) ∷ []) (b ∷ []); reads = here (scalar 4) ∷ []; writes = b ∷ [] }
          ∷ [];
      bodies =
          record { opener = ByMain; makes = a ∷ []; entries = 0 ∷ 1 ∷ [] }
          ∷ record { opener = ByCalls; makes = scalar 4 ∷ []; entries = 2 ∷ 3 ∷ [] }
          ∷ [];
    }

-- (int B[], int s) g(int m, int A[]) { foreach v, k in A { if (v < m) { B[k] = v; } } s = size(B); wait (s) { printf("%i", s); } }
-- () h(int q) { } int A[] = [1]; int C[]; int x; (C, x) = g(5, A); h(x);
abbrev pub several_outputs : Code
several_outputs =
    let a = array 1 in
    let c = array 2 in
    let x = scalar 3 in
    let m = parameter 0 0 in
    let pa = array_parameter 0 1 in
    let pb = array_parameter 0 2 in
    let ps = parameter 0 3 in
    let v = scalar 20 in
    let k = scalar 21 in
    let t = scalar 22 in
    record {
      entries =
          record { node = 10; at = 80; offset = 80; priority = pos 0; needs = []; act = Fill (here a) (operand (num 1) no_operand); reads = []; writes = here a ∷ [] }
          ∷ record { node = 11; at = 95; offset = 100; priority = pos 0; needs = []; act = Call 1 (Fixed (Number (pos 5)) ∷ Named (here a) ∷ []) (here c ∷ here x ∷ []); reads = here a ∷ here c ∷ here x ∷ []; writes = here c ∷ here x ∷ [] }
          ∷ record { node = 12; at = 110; offset = 110; priority = pos 0; needs = []; act = Call 5 (Named (here x) ∷ []) []; reads = []; writes = [] }
          ∷ record { node = 13; at = 30; offset = 30; priority = pos 0; needs = Closed pa ∷ []; act = Each (record { body = 2; value = 20; turn = Some 21 }); reads = pa ∷ m ∷ []; writes = pb ∷ [] }
          ∷ record { node = 14; at = 60; offset = 60; priority = pos 0; needs = Closed pb ∷ []; act = Set ps (operation size (operand (need 0) no_operand)); reads = pb ∷ []; writes = ps ∷ [] }
          ∷ record { node = 15; at = 70; offset = 70; priority = pos 0; needs = Stored ps ∷ []; act = Wait (record { at = 70; needs = Stored ps ∷ [] } ∷ []) 4; reads = ps ∷ []; writes = [] }
          ∷ record { node = 22; at = 40; offset = 43; priority = pos 0; needs = Stored (here v) ∷ Stored (parameter 1 0) ∷ []; act = Cell (two (compare Less) (need 0) (need 1)); reads = here v ∷ parameter 1 0 ∷ []; writes = here t ∷ [] }
          ∷ record { node = 16; at = 40; offset = 40; priority = pos 0; needs = Stored (here t) ∷ []; act = If (need 0) 3 None; reads = here t ∷ here k ∷ here v ∷ []; writes = array_parameter 1 2 ∷ [] }
          ∷ record { node = 17; at = 50; offset = 50; priority = pos 0; needs = Stored (outer k) ∷ Stored (outer v) ∷ []; act = InsertElement (array_parameter 2 2) (need 0) (need 1); reads = outer k ∷ outer v ∷ []; writes = array_parameter 2 2 ∷ [] }
          ∷ record { node = 18; at = 75; offset = 75; priority = pos 0; needs = Stored ps ∷ []; act = Print print_number; reads = ps ∷ []; writes = [] }
          ∷ [];
      bodies =
          record { opener = ByMain; makes = a ∷ c ∷ x ∷ []; entries = 0 ∷ 1 ∷ 2 ∷ [] }
          ∷ record { opener = ByCalls; makes = []; entries = 3 ∷ 4 ∷ 5 ∷ [] }
          ∷ record { opener = ByStep 3; makes = v ∷ k ∷ t ∷ []; entries = 6 ∷ 7 ∷ [] }
          ∷ record { opener = ByStep 7; makes = []; entries = 8 ∷ [] }
          ∷ record { opener = ByWait 5; makes = []; entries = 9 ∷ [] }
          ∷ record { opener = ByCalls; makes = []; entries = [] }
          ∷ [];
    }

-- (int p, int q) both(int A[], int B[], int k) { p = A[k]; q = p + B[0]; } (int o) same(int n) { o = n; } () none() { }
-- int a[] = [4]; int p; int q; (p, q) = both(a, a, 0); printf("%i", same(same(p))); int z = same(q); none();
-- foreach i in [0:2] { int w = same(i); if (i == 1) { none(); } }
abbrev pub called_everywhere : Code
called_everywhere =
    let a = array 1 in
    let p = scalar 2 in
    let q = scalar 3 in
    let o1 = scalar 4 in
    let c1 = scalar 5 in
    let o2 = scalar 6 in
    let z = scalar 7 in
    let i = scalar 8 in
    let w = scalar 9 in
    let t = scalar 10 in
    let f1 = scalar 11 in
    let f2 = scalar 12 in
    record {
      entries =
          record { node = 30; at = 1; offset = 1; priority = pos 0; needs = []; act = Fill (here a) (operand (num 4) no_operand); reads = []; writes = here a ∷ [] }
          ∷ record { node = 31; at = 2; offset = 195; priority = pos 0; needs = []; act = Call 1 (Named (here a) ∷ Named (here a) ∷ Fixed (Number (pos 0)) ∷ []) (here p ∷ here q ∷ []); reads = here a ∷ here p ∷ []; writes = here p ∷ here q ∷ [] }
          ∷ record { node = 32; at = 3; offset = 201; priority = pos 0; needs = []; act = Call 2 (Named (here p) ∷ []) (here o1 ∷ []); reads = here p ∷ []; writes = here o1 ∷ [] }
          ∷ record { node = 5; at = 3; offset = 201; priority = pos 0; needs = Stored (here o1) ∷ []; act = Cell (need 0); reads = here o1 ∷ []; writes = here c1 ∷ [] }
          ∷ record { node = 33; at = 3; offset = 200; priority = pos 0; needs = []; act = Call 2 (Named (here c1) ∷ []) (here o2 ∷ []); reads = here c1 ∷ []; writes = here o2 ∷ [] }
          ∷ record { node = 34; at = 3; offset = 3; priority = pos 0; needs = Stored (here o2) ∷ []; act = Print print_number; reads = here o2 ∷ []; writes = [] }
          ∷ record { node = 35; at = 4; offset = 210; priority = pos 0; needs = []; act = Call 2 (Named (here q) ∷ []) (here z ∷ []); reads = here q ∷ []; writes = here z ∷ [] }
          ∷ record { node = 36; at = 220; offset = 220; priority = pos 0; needs = []; act = Call 3 [] []; reads = []; writes = [] }
          ∷ record { node = 37; at = 225; offset = 225; priority = pos 0; needs = []; act = Range (num 0) (num 2) (num 1) (record { body = 4; value = 8; turn = None }); reads = []; writes = [] }
          ∷ record { node = 11; at = 10; offset = 12; priority = pos 0; needs = At (array_parameter 0 0) (parameter 0 2) ∷ []; act = Read; reads = array_parameter 0 0 ∷ parameter 0 2 ∷ []; writes = here f1 ∷ [] }
          ∷ record { node = 38; at = 10; offset = 10; priority = pos 0; needs = Stored (here f1) ∷ []; act = Set (parameter 0 3) (need 0); reads = here f1 ∷ []; writes = parameter 0 3 ∷ [] }
          ∷ record { node = 12; at = 15; offset = 17; priority = pos 0; needs = AtKey (array_parameter 0 1) (number_key (pos 0)) ∷ []; act = Read; reads = array_parameter 0 1 ∷ []; writes = here f2 ∷ [] }
          ∷ record { node = 39; at = 15; offset = 15; priority = pos 0; needs = Stored (parameter 0 3) ∷ Stored (here f2) ∷ []; act = Set (parameter 0 4) (two (sum_of (Plus ∷ [])) (need 0) (need 1)); reads = parameter 0 3 ∷ here f2 ∷ []; writes = parameter 0 4 ∷ [] }
          ∷ record { node = 40; at = 20; offset = 20; priority = pos 0; needs = Stored (parameter 0 0) ∷ []; act = Set (parameter 0 1) (need 0); reads = parameter 0 0 ∷ []; writes = parameter 0 1 ∷ [] }
          ∷ record { node = 41; at = 228; offset = 230; priority = pos 0; needs = []; act = Call 2 (Named (here i) ∷ []) (here w ∷ []); reads = here i ∷ []; writes = here w ∷ [] }
          ∷ record { node = 10; at = 240; offset = 244; priority = pos 0; needs = Stored (here i) ∷ []; act = Cell (two equal (need 0) (num 1)); reads = here i ∷ []; writes = here t ∷ [] }
          ∷ record { node = 42; at = 240; offset = 240; priority = pos 0; needs = Stored (here t) ∷ []; act = If (need 0) 5 None; reads = here t ∷ []; writes = [] }
          ∷ record { node = 43; at = 250; offset = 250; priority = pos 0; needs = []; act = Call 3 [] []; reads = []; writes = [] }
          ∷ [];
      bodies =
          record { opener = ByMain; makes = a ∷ p ∷ q ∷ o1 ∷ c1 ∷ o2 ∷ z ∷ []; entries = 0 ∷ 1 ∷ 2 ∷ 3 ∷ 4 ∷ 5 ∷ 6 ∷ 7 ∷ 8 ∷ [] }
          ∷ record { opener = ByCalls; makes = f1 ∷ f2 ∷ []; entries = 9 ∷ 10 ∷ 11 ∷ 12 ∷ [] }
          ∷ record { opener = ByCalls; makes = []; entries = 13 ∷ [] }
          ∷ record { opener = ByCalls; makes = []; entries = [] }
          ∷ record { opener = ByStep 8; makes = i ∷ w ∷ t ∷ []; entries = 14 ∷ 15 ∷ 16 ∷ [] }
          ∷ record { opener = ByStep 16; makes = []; entries = 17 ∷ [] }
          ∷ [];
    }

-- the effects of items of these codes
abbrev pub step : ℕ → ℕ → Step
step at k = record { offset = at; key = number_key (pos k) }

-- the answer with this scalar
abbrev pub gives : ℕ → Answer Key Scalar
gives n = Found (Number (pos n))

-- x = y + 1 with 2 for y stores 3
abbrev pub StoresThree : Type 0
StoresThree = (code_system used_before_assigned).effect (Item 0 [] 0) (gives 2 ∷ []) ≡ Good (record { writes = record { place = Datum [] (scalar 1); key = only; value = Number (pos 3) } ∷ []; lines = []; opens = [] })

-- the greatest number plus 1 is out of range
abbrev pub Overflows : Type 0
Overflows = (code_system used_before_assigned).effect (Item 0 [] 0) (gives 9223372036854775807 ∷ []) ≡ Bad (InOperation Overflow)

-- printf prints the text
abbrev pub PrintsHello : Type 0
PrintsHello = (code_system hello).effect (Item 0 [] 0) [] ≡ Good (record { writes = []; lines = Text (104 ∷ 101 ∷ 108 ∷ 108 ∷ 111 ∷ []) ∷ []; opens = [] })

-- a missing element of a closed array is a fault
abbrev pub LacksElement : Type 0
LacksElement = (code_system key_written_twice).effect (Item 2 [] 0) (Missing ∷ []) ≡ Bad NoElement

-- the number of blocks that are opened
abbrev pub opened_by : Outcome Task Place Key Scalar EntryFault → Option ℕ
opened_by (Bad f) = None
opened_by (Good e) = Some (length e.opens)

-- a loop of five turns opens five blocks, and leaves nothing to another item
abbrev pub OpensTurns : Type 0
OpensTurns = opened_by ((code_system filled_by_loop).effect (Item 1 [] 0) []) ≡ Some 5

-- at its first call, the input of fib is 10, and its output is the node of the caller
abbrev pub MeansTen : Type 0
MeansTen = place_at fibonacci (step 21 1 ∷ step 92 0 ∷ []) (parameter 1 0) ≡ Constant (Number (pos 10))

abbrev pub MeansResult : Type 0
MeansResult = place_at fibonacci (step 21 1 ∷ step 92 0 ∷ []) (parameter 1 1) ≡ Datum [] (scalar 1)

-- within the first inner call it is a node of the calling block
abbrev pub MeansInner : Type 0
MeansInner = place_at fibonacci (step 21 0 ∷ step 54 0 ∷ step 21 1 ∷ step 92 0 ∷ []) (parameter 1 1) ≡ Datum (step 21 1 ∷ step 92 0 ∷ []) (scalar 7)

-- a called function writes its caller's array
abbrev pub MeansCallersArray : Type 0
MeansCallersArray = place_at filled_by_call (step 63 0 ∷ []) (array_parameter 0 1) ≡ Datum [] (array 1)

-- a parameter that is a literal is not an input of an item: n < 2 with 10 for n is false
abbrev pub ComparesTen : Type 0
ComparesTen = (code_system fibonacci).effect (Item 2 (step 92 0 ∷ []) 0) [] ≡ Good (record { writes = record { place = Datum (step 92 0 ∷ []) (scalar 3); key = only; value = Truth false } ∷ []; lines = []; opens = [] })

-- 65 turns are a chunk of 64 and a chunk of one
abbrev pub Chunks : Type 0
Chunks =
    (length (chunk 0 (range_turns (pos 1) (pos 1) 0 65)) ≡ chunk_size)
    × (length (chunk 1 (range_turns (pos 1) (pos 1) 0 65)) ≡ 1)
    × (length (chunk 2 (range_turns (pos 1) (pos 1) 0 65)) ≡ 0)

-- worker 0 begins and ends the item that opens the script, worker 1 the one that prints: then the code is quiet, and
-- the line is printed
abbrev pub HelloRuns : Type 0
HelloRuns =
    (s : CodeState)
    × Run (code_system hello) (Begin 0 1 ∷ End 0 1 ∷ Begin 1 2 ∷ End 1 2 ∷ []) s
    × Quiet (code_system hello) s
    × (s.lines ≡ Text (104 ∷ 101 ∷ 108 ∷ 108 ∷ 111 ∷ []) ∷ [])

-- x = y + 1 is not enabled when the script has been opened; once y = 2 has ended it is, and 3 is printed
abbrev pub WaitsForAssignment : Type 0
WaitsForAssignment =
    (opened : CodeState)
    × Run (code_system used_before_assigned) (Begin 0 1 ∷ End 0 1 ∷ []) opened
    × (Enabled used_before_assigned opened (Item 0 [] 0) → ⊥)
    × ((s : CodeState)
    × Run (code_system used_before_assigned) (Begin 0 1 ∷ End 0 1 ∷ Begin 1 3 ∷ End 1 3 ∷ Begin 1 2 ∷ End 1 2 ∷ Begin 1 4 ∷ End 1 4 ∷ []) s
    × Quiet (code_system used_before_assigned) s
    × (s.lines ≡ Text (51 ∷ []) ∷ []))

-- of two writes of one key the second is a fault, whichever item comes first
abbrev pub SecondWriteFaults : Type 0
SecondWriteFaults =
    ((s : CodeState) × Run (code_system key_written_twice) (Begin 0 1 ∷ End 0 1 ∷ Begin 1 2 ∷ End 1 2 ∷ Begin 1 3 ∷ End 1 3 ∷ []) s × (s.fault ≡ Some (Item 1 [] 0, ElementTwice)))
    × ((s : CodeState) × Run (code_system key_written_twice) (Begin 0 1 ∷ End 0 1 ∷ Begin 1 3 ∷ End 1 3 ∷ Begin 1 2 ∷ End 1 2 ∷ []) s × (s.fault ≡ Some (Item 0 [] 0, ElementTwice)))
