-- Cores of small scripts with loops and conditions. The text of each precedes it; nodes are numbered in reading order.
use Rattle.std.specs.Prelude.{ℕ, zero, suc, pos, true, false, [], ◌∷◌, Some, None}
use Rattle.values.specs.declared.format.FormatPiece.{FormatPiece}
use Rattle.values.specs.declared.key.Key.{Key}
use Rattle.values.specs.declared.op.Factor.TheVariants as Factor
use Rattle.values.specs.declared.op.Sign.TheVariants as Sign
use Rattle.values.specs.declared.value.Scalar.TheVariants.{Truth}
use Rattle.values.specs.Operators.{sum_of, product_of, printf, literal}
use Rattle.language.specs.Core.{Action, local, input, output, here, literal as constant, name, operator, compute, read, inner, calls, stmt, declare, call_alone, fill, insert, print, when, range, each, Block, Core}
use Rattle.language.specs.Places.{Path}
use Rattle.language_laws.specs.ArrayExamples.{size_of}
use Rattle.language_laws.specs.Examples.{plain, num, one, two, variable, print_number, block_of, script_of}

-- foreach i in [5:1:0] { }
abbrev pub no_step : Core
no_step = script_of (stmt 0 1 (range (plain 3 (num 5)) (plain 4 (num 1)) (Some (plain 5 (num 0))) 2 None (block_of [])) ∷ [])

-- the body of the function below
abbrev pub body_of_headers : Block
body_of_headers = block_of (
    stmt 19 5 (when (plain 6 (constant (Truth true))) (block_of []))
    ∷ stmt 33 7 (call_alone (pos 0) (inner (record { node = 11; form = compute (operator (sum_of (Sign.Plus ∷ [])) (two (name (record { up = 0; what = input 0 })) (num 1))) }) ∷ [])
    (record { at = 37; function = 0; inputs = here 11 ∷ []; outputs = record { up = 0; what = output 0 } ∷ [] })) ∷ [])

-- (int r) f(int n) { if (true) { } r = f(n + 1); } printf("%i", f(0));
abbrev pub headers_without_end : Core
headers_without_end = record {
  body = block_of (
      stmt 49 15 (print (pos 0) (record {
        parts = inner (record { node = 21; form = compute (num 0) }) ∷ calls (record { at = 62; function = 0; inputs = here 21 ∷ []; outputs = here 20 ∷ [] }) ∷ [];
        cell = record { node = 16; form = compute (print_number (variable 20)) };
      })) ∷ []);
  functions = record {
    inputs = 1;
    outputs = 1;
    body = body_of_headers;
  } ∷ [];
}

-- the path of a call at one offset followed by d calls at another
abbrev pub nested_calls : ℕ → ℕ → ℕ → Path
nested_calls outer inward zero = (outer, Key.Number (pos 0)) ∷ []
nested_calls outer inward (suc d) = (inward, Key.Number (pos 0)) ∷ nested_calls outer inward d

-- the branch in the script below
abbrev pub untaken_branch : Block
untaken_branch = block_of (stmt 28 7 (each (record { up = 1; what = local 2 }) 8 None (block_of [])) ∷ [])

-- int A[] = [7]; if (false) { foreach v in A { } }
abbrev pub closed_loop : Core
closed_loop = script_of (
    stmt 0 1 (declare 2)
    ∷ stmt 0 1 (fill (here 2) (plain 3 (operator literal (one (num 7)))))
    ∷ stmt 15 5 (when (plain 6 (constant (Truth false))) untaken_branch)
    ∷ [])

-- the body of the loop below
abbrev pub copying_body : Block
copying_body = block_of (stmt 47 12 (insert (record { up = 1; what = local 7 }) (plain 14 (variable 10)) (plain 16 (variable 9))) ∷ [])

-- int A[] = [7, 9]; int B[]; foreach v, i in A { B[i] = v; } printf("%i %i", size(B), B[1]);
abbrev pub loop_over_array : Core
loop_over_array = script_of (
    stmt 0 1 (declare 2)
    ∷ stmt 0 1 (fill (here 2) (plain 3 (operator literal (two (num 7) (num 9)))))
    ∷ stmt 18 6 (declare 7)
    ∷ stmt 27 8 (each (here 2) 9 (Some 10) copying_body)
    ∷ stmt 59 18 (print (pos 0) (record {
      parts = inner (record { node = 28; form = compute (num 1) }) ∷ inner (record { node = 26; form = read (here 7) 28 }) ∷ [];
      cell = record { node = 19; form = compute (operator (printf (FormatPiece.Number ∷ FormatPiece.Byte 32 ∷ FormatPiece.Number ∷ [])) (two (size_of 7) (variable 26))) };
    }))
    ∷ [])

-- the turn of the loop in the function below, the loop, and the function's body
abbrev pub squaring_turn : Block
squaring_turn = block_of (stmt 44 12 (insert (record { up = 1; what = output 0 }) (plain 14 (variable 6)) (plain 16 (operator (product_of (Factor.Times ∷ [])) (two (variable 6) (variable 6))))) ∷ [])

abbrev pub squaring_loop : Action
squaring_loop = range (plain 7 (num 0)) (plain 8 (operator (sum_of (Sign.Minus ∷ [])) (two (name (record { up = 0; what = input 0 })) (num 1)))) None 6 None squaring_turn

abbrev pub squaring_body : Block
squaring_body = block_of (stmt 21 5 squaring_loop ∷ [])

-- (int B[]) g(int m) { foreach i in [0:m-1] { B[i] = i*i; } } int C[]; C = g(4); printf("%i %i", size(C), C[3]);
abbrev pub filled_in_a_call : Core
filled_in_a_call = record {
  body = block_of (
      stmt 60 21 (declare 22)
      ∷ stmt 69 23 (call_alone (pos 0) (inner (record { node = 27; form = compute (num 4) }) ∷ []) (record { at = 73; function = 0; inputs = here 27 ∷ []; outputs = here 22 ∷ [] }))
      ∷ stmt 79 28 (print (pos 0) (record {
        parts = inner (record { node = 38; form = compute (num 3) }) ∷ inner (record { node = 36; form = read (here 22) 38 }) ∷ [];
        cell = record { node = 29; form = compute (operator (printf (FormatPiece.Number ∷ FormatPiece.Byte 32 ∷ FormatPiece.Number ∷ [])) (two (size_of 22) (variable 36))) };
      }))
      ∷ []);
  functions = record { inputs = 1; outputs = 1; body = squaring_body } ∷ [];
}
