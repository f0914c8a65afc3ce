-- Cores of small scripts with arrays. The text of each precedes it; nodes are numbered in reading order.
use Rattle.std.specs.Prelude.{ℕ, pos, [], ◌∷◌}
use Rattle.values.specs.declared.format.FormatPiece.{FormatPiece}
use Rattle.values.specs.Operators.{size, printf, literal}
use Rattle.language.specs.Core.{here, Expr, whole, operator, compute, read, inner, array, stmt, declare, fill, insert, print, wait, Core}
use Rattle.language_laws.specs.Examples.{plain, num, one, two, variable, print_number, block_of, script_of}

-- the size of the array of this block with that node
abbrev pub size_of : ℕ → Expr
size_of n = operator size (one (whole (here n)))

-- int A[]; printf("%i", size(A));
abbrev pub nobody_writes : Core
nobody_writes = script_of (
    stmt 0 1 (declare 2)
    ∷ stmt 9 3 (print (pos 0) (plain 4 (print_number (size_of 2))))
    ∷ [])

-- int A[]; A[0] = size(A);
abbrev pub waits_for_itself : Core
waits_for_itself = script_of (
    stmt 0 1 (declare 2)
    ∷ stmt 9 3 (insert (here 2) (plain 5 (num 0)) (plain 6 (size_of 2)))
    ∷ [])

-- int A[] = [4, 5]; printf("%i %i", size(A), A[1]);
abbrev pub array_literal : Core
array_literal = script_of (
    stmt 0 1 (declare 2)
    ∷ stmt 0 1 (fill (here 2) (plain 3 (operator literal (two (num 4) (num 5)))))
    ∷ stmt 18 6 (print (pos 0) (record {
      parts = inner (record { node = 16; form = compute (num 1) }) ∷ inner (record { node = 14; form = read (here 2) 16 }) ∷ [];
      cell = record { node = 7; form = compute (operator (printf (FormatPiece.Number ∷ FormatPiece.Byte 32 ∷ FormatPiece.Number ∷ [])) (two (size_of 2) (variable 14))) };
    }))
    ∷ [])

-- int A[] = [4, 5]; int B[] = A; int C[]; C = B; printf("%i %i", size(C), C[1]);
abbrev pub whole_copies : Core
whole_copies = script_of (
    stmt 0 1 (declare 2)
    ∷ stmt 0 1 (fill (here 2) (plain 3 (operator literal (two (num 4) (num 5)))))
    ∷ stmt 18 6 (declare 7)
    ∷ stmt 18 6 (fill (here 7) (plain 8 (whole (here 2))))
    ∷ stmt 31 10 (declare 11)
    ∷ stmt 40 12 (fill (here 11) (plain 14 (whole (here 7))))
    ∷ stmt 47 16 (print (pos 0) (record {
      parts = inner (record { node = 26; form = compute (num 1) }) ∷ inner (record { node = 24; form = read (here 11) 26 }) ∷ [];
      cell = record { node = 17; form = compute (operator (printf (FormatPiece.Number ∷ FormatPiece.Byte 32 ∷ FormatPiece.Number ∷ [])) (two (size_of 11) (variable 24))) };
    }))
    ∷ [])

-- int A[] = [7]; wait (A) { printf("%i", size(A)); }
abbrev pub wait_for_array : Core
wait_for_array = script_of (
    stmt 0 1 (declare 2)
    ∷ stmt 0 1 (fill (here 2) (plain 3 (operator literal (one (num 7)))))
    ∷ stmt 15 5 (wait (array (here 2) ∷ []) (block_of (
    stmt 26 7 (print (pos 0) (plain 8 (print_number (size_of 2)))) ∷ [])))
    ∷ [])
