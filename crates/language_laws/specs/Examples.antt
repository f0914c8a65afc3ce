-- Cores of small scripts. The text of each precedes it; nodes are numbered in reading order.
use Rattle.std.specs.Prelude.{ℕ, pos, false, List, [], ◌∷◌, None}
use Rattle.values.specs.declared.format.FormatPiece.{FormatPiece}
use Rattle.values.specs.declared.op.Factor.TheVariants as Factor
use Rattle.values.specs.declared.op.Sign.TheVariants as Sign
use Rattle.values.specs.declared.value.Scalar.TheVariants.{Number, Truth}
use Rattle.values.specs.Operators.{sum_of, product_of, equal, all_true, printf}
use Rattle.language.specs.Core.{local, input, output, here, Expr, literal, name, operator, Exprs, none, also, compute, read, inner, calls, Outer, scalar, Stmt, stmt, declare, call_alone, assign, insert, print, range, wait, Block, no_stmts, stmts, Core}

-- a cell that is an expression, without nested cells
abbrev pub plain : ℕ → Expr → Outer
plain n e = record { parts = []; cell = record { node = n; form = compute e } }

abbrev pub num : ℕ → Expr
num n = literal (Number (pos n))

abbrev pub one : Expr → Exprs
one a = also a none

abbrev pub two : Expr → Expr → Exprs
two a b = also a (also b none)

abbrev pub variable : ℕ → Expr
variable n = name (here n)

-- printf of a format with "%i" alone
abbrev pub print_number : Expr → Expr
print_number e = operator (printf (FormatPiece.Number ∷ [])) (one e)

abbrev pub block_of : List Stmt → Block
block_of [] = no_stmts
block_of (s ∷ ss) = stmts s (block_of ss)

abbrev pub script_of : List Stmt → Core
script_of ss = record { body = block_of ss; functions = [] }

-- int x; int y; x = y + 1; y = 2; printf("%i", x);
abbrev pub read_before_assignment : Core
read_before_assignment = script_of (
    stmt 0 1 (declare 2)
    ∷ stmt 7 3 (declare 4)
    ∷ stmt 14 5 (assign (here 2) (plain 7 (operator (sum_of (Sign.Plus ∷ [])) (two (variable 4) (num 1)))))
    ∷ stmt 25 11 (assign (here 4) (plain 13 (num 2)))
    ∷ stmt 32 14 (print (pos 0) (plain 15 (print_number (variable 2))))
    ∷ [])

-- int A[]; A[0] = 1; foreach i in [1:2] { A[i] = A[i-1] * 2; } printf("%i", A[2]);
abbrev pub loop_reads_what_it_writes : Core
loop_reads_what_it_writes = script_of (
    stmt 0 1 (declare 2)
    ∷ stmt 9 3 (insert (here 2) (plain 5 (num 0)) (plain 6 (num 1)))
    ∷ stmt 19 7 (range (plain 9 (num 1)) (plain 10 (num 2)) None 8 None (block_of (
    stmt 40 11 (insert (record { up = 1; what = local 2 }) (plain 13 (variable 8)) (record {
      parts = inner (record { node = 18; form = compute (operator (sum_of (Sign.Minus ∷ [])) (two (variable 8) (num 1))) })
          ∷ inner (record { node = 16; form = read (record { up = 1; what = local 2 }) 18 }) ∷ [];
      cell = record { node = 15; form = compute (operator (product_of (Factor.Times ∷ [])) (two (variable 16) (num 2))) };
    })) ∷ [])))
    ∷ stmt 61 23 (print (pos 0) (record {
      parts = inner (record { node = 29; form = compute (num 2) }) ∷ inner (record { node = 27; form = read (here 2) 29 }) ∷ [];
      cell = record { node = 24; form = compute (print_number (variable 27)) };
    }))
    ∷ [])

-- int A[]; A[0] = 1; A[0] = 2;
abbrev pub key_written_twice : Core
key_written_twice = script_of (
    stmt 0 1 (declare 2)
    ∷ stmt 9 3 (insert (here 2) (plain 5 (num 0)) (plain 6 (num 1)))
    ∷ stmt 19 7 (insert (here 2) (plain 9 (num 0)) (plain 10 (num 2)))
    ∷ [])

-- int A[]; A[0] = 1; printf("%i", A[3]);
abbrev pub missing_element : Core
missing_element = script_of (
    stmt 0 1 (declare 2)
    ∷ stmt 9 3 (insert (here 2) (plain 5 (num 0)) (plain 6 (num 1)))
    ∷ stmt 19 7 (print (pos 0) (record {
      parts = inner (record { node = 13; form = compute (num 3) }) ∷ inner (record { node = 11; form = read (here 2) 13 }) ∷ [];
      cell = record { node = 8; form = compute (print_number (variable 11)) };
    }))
    ∷ [])

-- int x; int y; x = y; y = x; printf("%i", x);
abbrev pub circle : Core
circle = script_of (
    stmt 0 1 (declare 2)
    ∷ stmt 7 3 (declare 4)
    ∷ stmt 14 5 (assign (here 2) (plain 7 (variable 4)))
    ∷ stmt 21 9 (assign (here 4) (plain 11 (variable 2)))
    ∷ stmt 28 13 (print (pos 0) (plain 14 (print_number (variable 2))))
    ∷ [])

-- int y; int z; y = z; z = y; printf("%i", 1 %/ 0 + y);
abbrev pub fault_beside_unknown : Core
fault_beside_unknown = script_of (
    stmt 0 1 (declare 2)
    ∷ stmt 7 3 (declare 4)
    ∷ stmt 14 5 (assign (here 2) (plain 7 (variable 4)))
    ∷ stmt 21 9 (assign (here 4) (plain 11 (variable 2)))
    ∷ stmt 28 13 (print (pos 0) (plain 14 (print_number (operator (sum_of (Sign.Plus ∷ [])) (two (operator (product_of (Factor.Divide ∷ [])) (two (num 1) (num 0))) (variable 2))))))
    ∷ [])

-- int A[]; int y; int z; y = z; z = y; A[0] = 1; printf("%i", A[1 %/ 0] + y);
abbrev pub fault_in_index : Core
fault_in_index = script_of (
    stmt 0 1 (declare 2)
    ∷ stmt 9 3 (declare 4)
    ∷ stmt 16 5 (declare 6)
    ∷ stmt 23 7 (assign (here 4) (plain 9 (variable 6)))
    ∷ stmt 30 11 (assign (here 6) (plain 13 (variable 4)))
    ∷ stmt 37 15 (insert (here 2) (plain 17 (num 0)) (plain 18 (num 1)))
    ∷ stmt 47 19 (print (pos 0) (record {
      parts = inner (record { node = 26; form = compute (operator (product_of (Factor.Divide ∷ [])) (two (num 1) (num 0))) }) ∷ inner (record { node = 24; form = read (here 2) 26 }) ∷ [];
      cell = record { node = 20; form = compute (print_number (operator (sum_of (Sign.Plus ∷ [])) (two (variable 24) (variable 4)))) };
    }))
    ∷ [])

-- boolean b = false && 1 %/ 0 == 1;
abbrev pub strict_and : Core
strict_and = script_of (
    stmt 0 1 (declare 2)
    ∷ stmt 0 1 (assign (here 2) (plain 3 (operator all_true (two (literal (Truth false)) (operator equal (two (operator (product_of (Factor.Divide ∷ [])) (two (num 1) (num 0))) (num 1)))))))
    ∷ [])

-- int x = 9223372036854775807 + 1; printf("%i", x);
abbrev pub too_large : Core
too_large = script_of (
    stmt 0 1 (declare 2)
    ∷ stmt 0 1 (assign (here 2) (plain 3 (operator (sum_of (Sign.Plus ∷ [])) (two (num 9223372036854775807) (num 1)))))
    ∷ stmt 33 6 (print (pos 0) (plain 7 (print_number (variable 2))))
    ∷ [])

-- (int a, int b) two(int n) { a = n + 1; b = a * 2; } int p; int q; (p, q) = two(3); printf("%i %i", p, q);
abbrev pub outputs_are_the_callers : Core
outputs_are_the_callers = record {
  body = block_of (
      stmt 52 18 (declare 19)
      ∷ stmt 59 20 (declare 21)
      ∷ stmt 66 22 (call_alone (pos 0) (inner (record { node = 27; form = compute (num 3) }) ∷ []) (record { at = 75; function = 0; inputs = here 27 ∷ []; outputs = here 19 ∷ here 21 ∷ [] }))
      ∷ stmt 83 28 (print (pos 0) (plain 29 (operator (printf (FormatPiece.Number ∷ FormatPiece.Byte 32 ∷ FormatPiece.Number ∷ [])) (two (variable 19) (variable 21)))))
      ∷ []);
  functions = record {
    inputs = 1;
    outputs = 2;
    body = block_of (
        stmt 28 6 (assign (record { up = 0; what = output 0 }) (plain 8 (operator (sum_of (Sign.Plus ∷ [])) (two (name (record { up = 0; what = input 0 })) (num 1)))))
        ∷ stmt 39 12 (assign (record { up = 0; what = output 1 }) (plain 14 (operator (product_of (Factor.Times ∷ [])) (two (name (record { up = 0; what = output 0 })) (num 2)))))
        ∷ []);
  } ∷ [];
}

-- (int r) f(int n) { r = f(n + 1); } printf("%i", f(0));
abbrev pub calls_without_end : Core
calls_without_end = record {
  body = block_of (
      stmt 35 13 (print (pos 0) (record {
        parts = inner (record { node = 19; form = compute (num 0) }) ∷ calls (record { at = 48; function = 0; inputs = here 19 ∷ []; outputs = here 18 ∷ [] }) ∷ [];
        cell = record { node = 14; form = compute (print_number (variable 18)) };
      })) ∷ []);
  functions = record {
    inputs = 1;
    outputs = 1;
    body = block_of (
        stmt 19 5 (call_alone (pos 0) (inner (record { node = 9; form = compute (operator (sum_of (Sign.Plus ∷ [])) (two (name (record { up = 0; what = input 0 })) (num 1))) }) ∷ [])
        (record { at = 23; function = 0; inputs = here 9 ∷ []; outputs = record { up = 0; what = output 0 } ∷ [] })) ∷ []);
  } ∷ [];
}

-- int x = 1; int y; int z; y = z; z = y; wait (x) { wait (y) { printf("q"); } }
abbrev pub nested_waits : Core
nested_waits = script_of (
    stmt 0 1 (declare 2)
    ∷ stmt 0 1 (assign (here 2) (plain 3 (num 1)))
    ∷ stmt 11 4 (declare 5)
    ∷ stmt 18 6 (declare 7)
    ∷ stmt 25 8 (assign (here 5) (plain 10 (variable 7)))
    ∷ stmt 32 12 (assign (here 7) (plain 14 (variable 5)))
    ∷ stmt 39 16 (wait (scalar (here 2) ∷ []) (block_of (
    stmt 50 18 (wait (scalar (here 5) ∷ []) (block_of (
    stmt 61 20 (print (pos 0) (plain 21 (operator (printf (FormatPiece.Byte 113 ∷ [])) none))) ∷ []))) ∷ [])))
    ∷ [])
