-- The trees of the scripts of Examples, with the tables of their names.
use Rattle.std.specs.Prelude.{ℕ, ◌+◌, pos, false, nat_eq, List, [], ◌∷◌, length, Some, None, codes, if◌then◌else◌}
use Rattle.language.specs.declared.tree.Base.TheVariants as Base
use Rattle.language.specs.declared.tree.Keys.TheVariants as Keys
use Rattle.language.specs.declared.tree.Operator.TheVariants as Operator
use Rattle.language.specs.declared.tree.Shape.{Shape}
use Rattle.language.specs.Core.{Name, local, input, output, here}
use Rattle.language.specs.Table.{Table, Callee, composite, built_in, size, printf}
use Rattle.language.specs.Tree.{Word, Node, expression, number, text, truth, variable, element, call, chain, expressions_of, value, range, statement, declare, assign, write, assign_all, calls, choice_else, loop, waits, body, statements_of, function, single, Tree}

-- a name with its number and its offset
abbrev pub word : ℕ → ℕ → List ℕ → Word
word n from bytes = record { number = n; span = record { from = from; to = from + length bytes }; text = bytes }

-- a node with its number, its first token, and its end
abbrev pub at : ℕ → ℕ → ℕ → ℕ → Node
at n from to end = record { number = n; first = record { from = from; to = to }; to = end }

abbrev pub looked_up : {X : Type 0} → X → List (ℕ × X) → ℕ → X
looked_up default [] n = default
looked_up default (p ∷ ps) n = if nat_eq p.0 n then p.1 else looked_up default ps n

abbrev pub array_at : List ℕ → ℕ → Shape
array_at [] n = Shape.Scalar
array_at (m ∷ ms) n = if nat_eq m n then Shape.Array Keys.Numbers else array_at ms n

-- a table by its entries at each number: references of names, which names are arrays, callees
abbrev pub table_of : List (ℕ × Name) → List ℕ → List (ℕ × Callee) → Table
table_of names arrays callees = record { name_of = looked_up (here 0) names; shape_of = array_at arrays; callee_of = looked_up (composite 0) callees }

-- int x; int y; x = y + 1; y = 2; printf("%i", x);
abbrev pub tree_of_read_before_assignment : Tree
tree_of_read_before_assignment =
    single (statement (at 1 0 3 6) (declare (record { base = Base.Int; name = (word 2 4 (codes "x")); shape = Shape.Scalar }) None))
    ∷ single (statement (at 3 7 10 13) (declare (record { base = Base.Int; name = (word 4 11 (codes "y")); shape = Shape.Scalar }) None))
    ∷ single (statement (at 5 14 15 24) (assign (word 6 14 (codes "x")) (value (expression (at 7 18 19 23) (chain (Operator.Plus ∷ []) (expressions_of ((expression (at 8 18 19 19) (variable (word 9 18 (codes "y")))) ∷ (expression (at 10 22 23 23) (number (pos 1))) ∷ [])))))))
    ∷ single (statement (at 11 25 26 31) (assign (word 12 25 (codes "y")) (value (expression (at 13 29 30 30) (number (pos 2))))))
    ∷ single (statement (at 14 32 38 48) (calls (pos 0) (record { node = (at 15 32 38 47); name = (word 16 32 (codes "printf")); arguments = ((expression (at 17 39 43 43) (text (codes "%i"))) ∷ (expression (at 18 45 46 46) (variable (word 19 45 (codes "x")))) ∷ []) })))
    ∷ []

abbrev pub table_of_read_before_assignment : Table
table_of_read_before_assignment = table_of ((6, record { up = 0; what = local 2 }) ∷ (9, record { up = 0; what = local 4 }) ∷ (12, record { up = 0; what = local 4 }) ∷ (19, record { up = 0; what = local 2 }) ∷ []) ([]) ((16, built_in printf) ∷ [])

-- int A[]; A[0] = 1; foreach i in [1:2] { A[i] = A[i-1] * 2; } printf("%i", A[2]);
abbrev pub tree_of_loop_reads_what_it_writes : Tree
tree_of_loop_reads_what_it_writes =
    single (statement (at 1 0 3 8) (declare (record { base = Base.Int; name = (word 2 4 (codes "A")); shape = Shape.Array Keys.Numbers }) None))
    ∷ single (statement (at 3 9 10 18) (write (word 4 9 (codes "A")) (expression (at 5 11 12 12) (number (pos 0))) (expression (at 6 16 17 17) (number (pos 1)))))
    ∷ single (statement (at 7 19 26 60) (loop (word 8 27 (codes "i")) None (range (expression (at 9 33 34 34) (number (pos 1))) (expression (at 10 35 36 36) (number (pos 2))) None) (body 38 (statements_of ((statement (at 11 40 41 58) (write (word 12 40 (codes "A")) (expression (at 13 42 43 43) (variable (word 14 42 (codes "i")))) (expression (at 15 47 48 57) (chain (Operator.Times ∷ []) (expressions_of ((expression (at 16 47 48 53) (element (word 17 47 (codes "A")) (expression (at 18 49 50 52) (chain (Operator.Minus ∷ []) (expressions_of ((expression (at 19 49 50 50) (variable (word 20 49 (codes "i")))) ∷ (expression (at 21 51 52 52) (number (pos 1))) ∷ [])))))) ∷ (expression (at 22 56 57 57) (number (pos 2))) ∷ [])))))) ∷ [])))))
    ∷ single (statement (at 23 61 67 80) (calls (pos 0) (record { node = (at 24 61 67 79); name = (word 25 61 (codes "printf")); arguments = ((expression (at 26 68 72 72) (text (codes "%i"))) ∷ (expression (at 27 74 75 78) (element (word 28 74 (codes "A")) (expression (at 29 76 77 77) (number (pos 2))))) ∷ []) })))
    ∷ []

abbrev pub table_of_loop_reads_what_it_writes : Table
table_of_loop_reads_what_it_writes = table_of ((4, record { up = 0; what = local 2 }) ∷ (12, record { up = 1; what = local 2 }) ∷ (14, record { up = 0; what = local 8 }) ∷ (17, record { up = 1; what = local 2 }) ∷ (20, record { up = 0; what = local 8 }) ∷ (28, record { up = 0; what = local 2 }) ∷ []) (4 ∷ 12 ∷ 17 ∷ 28 ∷ []) ((25, built_in printf) ∷ [])

-- int A[]; A[0] = 1; A[0] = 2;
abbrev pub tree_of_key_written_twice : Tree
tree_of_key_written_twice =
    single (statement (at 1 0 3 8) (declare (record { base = Base.Int; name = (word 2 4 (codes "A")); shape = Shape.Array Keys.Numbers }) None))
    ∷ single (statement (at 3 9 10 18) (write (word 4 9 (codes "A")) (expression (at 5 11 12 12) (number (pos 0))) (expression (at 6 16 17 17) (number (pos 1)))))
    ∷ single (statement (at 7 19 20 28) (write (word 8 19 (codes "A")) (expression (at 9 21 22 22) (number (pos 0))) (expression (at 10 26 27 27) (number (pos 2)))))
    ∷ []

abbrev pub table_of_key_written_twice : Table
table_of_key_written_twice = table_of ((4, record { up = 0; what = local 2 }) ∷ (8, record { up = 0; what = local 2 }) ∷ []) (4 ∷ 8 ∷ []) ([])

-- int A[]; A[0] = 1; printf("%i", A[3]);
abbrev pub tree_of_missing_element : Tree
tree_of_missing_element =
    single (statement (at 1 0 3 8) (declare (record { base = Base.Int; name = (word 2 4 (codes "A")); shape = Shape.Array Keys.Numbers }) None))
    ∷ single (statement (at 3 9 10 18) (write (word 4 9 (codes "A")) (expression (at 5 11 12 12) (number (pos 0))) (expression (at 6 16 17 17) (number (pos 1)))))
    ∷ single (statement (at 7 19 25 38) (calls (pos 0) (record { node = (at 8 19 25 37); name = (word 9 19 (codes "printf")); arguments = ((expression (at 10 26 30 30) (text (codes "%i"))) ∷ (expression (at 11 32 33 36) (element (word 12 32 (codes "A")) (expression (at 13 34 35 35) (number (pos 3))))) ∷ []) })))
    ∷ []

abbrev pub table_of_missing_element : Table
table_of_missing_element = table_of ((4, record { up = 0; what = local 2 }) ∷ (12, record { up = 0; what = local 2 }) ∷ []) (4 ∷ 12 ∷ []) ((9, built_in printf) ∷ [])

-- int x; int y; x = y; y = x; printf("%i", x);
abbrev pub tree_of_circle : Tree
tree_of_circle =
    single (statement (at 1 0 3 6) (declare (record { base = Base.Int; name = (word 2 4 (codes "x")); shape = Shape.Scalar }) None))
    ∷ single (statement (at 3 7 10 13) (declare (record { base = Base.Int; name = (word 4 11 (codes "y")); shape = Shape.Scalar }) None))
    ∷ single (statement (at 5 14 15 20) (assign (word 6 14 (codes "x")) (value (expression (at 7 18 19 19) (variable (word 8 18 (codes "y")))))))
    ∷ single (statement (at 9 21 22 27) (assign (word 10 21 (codes "y")) (value (expression (at 11 25 26 26) (variable (word 12 25 (codes "x")))))))
    ∷ single (statement (at 13 28 34 44) (calls (pos 0) (record { node = (at 14 28 34 43); name = (word 15 28 (codes "printf")); arguments = ((expression (at 16 35 39 39) (text (codes "%i"))) ∷ (expression (at 17 41 42 42) (variable (word 18 41 (codes "x")))) ∷ []) })))
    ∷ []

abbrev pub table_of_circle : Table
table_of_circle = table_of ((6, record { up = 0; what = local 2 }) ∷ (8, record { up = 0; what = local 4 }) ∷ (10, record { up = 0; what = local 4 }) ∷ (12, record { up = 0; what = local 2 }) ∷ (18, record { up = 0; what = local 2 }) ∷ []) ([]) ((15, built_in printf) ∷ [])

-- int y; int z; y = z; z = y; printf("%i", 1 %/ 0 + y);
abbrev pub tree_of_fault_beside_unknown : Tree
tree_of_fault_beside_unknown =
    single (statement (at 1 0 3 6) (declare (record { base = Base.Int; name = (word 2 4 (codes "y")); shape = Shape.Scalar }) None))
    ∷ single (statement (at 3 7 10 13) (declare (record { base = Base.Int; name = (word 4 11 (codes "z")); shape = Shape.Scalar }) None))
    ∷ single (statement (at 5 14 15 20) (assign (word 6 14 (codes "y")) (value (expression (at 7 18 19 19) (variable (word 8 18 (codes "z")))))))
    ∷ single (statement (at 9 21 22 27) (assign (word 10 21 (codes "z")) (value (expression (at 11 25 26 26) (variable (word 12 25 (codes "y")))))))
    ∷ single (statement (at 13 28 34 53) (calls (pos 0) (record { node = (at 14 28 34 52); name = (word 15 28 (codes "printf")); arguments = ((expression (at 16 35 39 39) (text (codes "%i"))) ∷ (expression (at 17 41 42 51) (chain (Operator.Plus ∷ []) (expressions_of ((expression (at 18 41 42 47) (chain (Operator.Quotient ∷ []) (expressions_of ((expression (at 19 41 42 42) (number (pos 1))) ∷ (expression (at 20 46 47 47) (number (pos 0))) ∷ [])))) ∷ (expression (at 21 50 51 51) (variable (word 22 50 (codes "y")))) ∷ [])))) ∷ []) })))
    ∷ []

abbrev pub table_of_fault_beside_unknown : Table
table_of_fault_beside_unknown = table_of ((6, record { up = 0; what = local 2 }) ∷ (8, record { up = 0; what = local 4 }) ∷ (10, record { up = 0; what = local 4 }) ∷ (12, record { up = 0; what = local 2 }) ∷ (22, record { up = 0; what = local 2 }) ∷ []) ([]) ((15, built_in printf) ∷ [])

-- int A[]; int y; int z; y = z; z = y; A[0] = 1; printf("%i", A[1 %/ 0] + y);
abbrev pub tree_of_fault_in_index : Tree
tree_of_fault_in_index =
    single (statement (at 1 0 3 8) (declare (record { base = Base.Int; name = (word 2 4 (codes "A")); shape = Shape.Array Keys.Numbers }) None))
    ∷ single (statement (at 3 9 12 15) (declare (record { base = Base.Int; name = (word 4 13 (codes "y")); shape = Shape.Scalar }) None))
    ∷ single (statement (at 5 16 19 22) (declare (record { base = Base.Int; name = (word 6 20 (codes "z")); shape = Shape.Scalar }) None))
    ∷ single (statement (at 7 23 24 29) (assign (word 8 23 (codes "y")) (value (expression (at 9 27 28 28) (variable (word 10 27 (codes "z")))))))
    ∷ single (statement (at 11 30 31 36) (assign (word 12 30 (codes "z")) (value (expression (at 13 34 35 35) (variable (word 14 34 (codes "y")))))))
    ∷ single (statement (at 15 37 38 46) (write (word 16 37 (codes "A")) (expression (at 17 39 40 40) (number (pos 0))) (expression (at 18 44 45 45) (number (pos 1)))))
    ∷ single (statement (at 19 47 53 75) (calls (pos 0) (record { node = (at 20 47 53 74); name = (word 21 47 (codes "printf")); arguments = ((expression (at 22 54 58 58) (text (codes "%i"))) ∷ (expression (at 23 60 61 73) (chain (Operator.Plus ∷ []) (expressions_of ((expression (at 24 60 61 69) (element (word 25 60 (codes "A")) (expression (at 26 62 63 68) (chain (Operator.Quotient ∷ []) (expressions_of ((expression (at 27 62 63 63) (number (pos 1))) ∷ (expression (at 28 67 68 68) (number (pos 0))) ∷ [])))))) ∷ (expression (at 29 72 73 73) (variable (word 30 72 (codes "y")))) ∷ [])))) ∷ []) })))
    ∷ []

abbrev pub table_of_fault_in_index : Table
table_of_fault_in_index = table_of ((8, record { up = 0; what = local 4 }) ∷ (10, record { up = 0; what = local 6 }) ∷ (12, record { up = 0; what = local 6 }) ∷ (14, record { up = 0; what = local 4 }) ∷ (16, record { up = 0; what = local 2 }) ∷ (25, record { up = 0; what = local 2 }) ∷ (30, record { up = 0; what = local 4 }) ∷ []) (16 ∷ 25 ∷ []) ((21, built_in printf) ∷ [])

-- boolean b = false && 1 %/ 0 == 1;
abbrev pub tree_of_strict_and : Tree
tree_of_strict_and =
    single (statement (at 1 0 7 33) (declare (record { base = Base.Boolean; name = (word 2 8 (codes "b")); shape = Shape.Scalar }) (Some (value (expression (at 3 12 17 32) (chain (Operator.And ∷ []) (expressions_of ((expression (at 4 12 17 17) (truth false)) ∷ (expression (at 5 21 22 32) (chain (Operator.Equal ∷ []) (expressions_of ((expression (at 6 21 22 27) (chain (Operator.Quotient ∷ []) (expressions_of ((expression (at 7 21 22 22) (number (pos 1))) ∷ (expression (at 8 26 27 27) (number (pos 0))) ∷ [])))) ∷ (expression (at 9 31 32 32) (number (pos 1))) ∷ [])))) ∷ []))))))))
    ∷ []

abbrev pub table_of_strict_and : Table
table_of_strict_and = table_of ([]) ([]) ([])

-- int x = 9223372036854775807 + 1; printf("%i", x);
abbrev pub tree_of_too_large : Tree
tree_of_too_large =
    single (statement (at 1 0 3 32) (declare (record { base = Base.Int; name = (word 2 4 (codes "x")); shape = Shape.Scalar }) (Some (value (expression (at 3 8 27 31) (chain (Operator.Plus ∷ []) (expressions_of ((expression (at 4 8 27 27) (number (pos 9223372036854775807))) ∷ (expression (at 5 30 31 31) (number (pos 1))) ∷ []))))))))
    ∷ single (statement (at 6 33 39 49) (calls (pos 0) (record { node = (at 7 33 39 48); name = (word 8 33 (codes "printf")); arguments = ((expression (at 9 40 44 44) (text (codes "%i"))) ∷ (expression (at 10 46 47 47) (variable (word 11 46 (codes "x")))) ∷ []) })))
    ∷ []

abbrev pub table_of_too_large : Table
table_of_too_large = table_of ((11, record { up = 0; what = local 2 }) ∷ []) ([]) ((8, built_in printf) ∷ [])

-- (int a, int b) two(int n) { a = n + 1; b = a * 2; } int p; int q; (p, q) = two(3); printf("%i %i", p, q);
abbrev pub tree_of_outputs_are_the_callers : Tree
tree_of_outputs_are_the_callers =
    function (record { node = (at 1 0 1 51); outputs = ((record { base = Base.Int; name = (word 2 5 (codes "a")); shape = Shape.Scalar }) ∷ (record { base = Base.Int; name = (word 3 12 (codes "b")); shape = Shape.Scalar }) ∷ []); name = (word 4 15 (codes "two")); inputs = ((record { base = Base.Int; name = (word 5 23 (codes "n")); shape = Shape.Scalar }) ∷ []); body = (body 26 (statements_of ((statement (at 6 28 29 38) (assign (word 7 28 (codes "a")) (value (expression (at 8 32 33 37) (chain (Operator.Plus ∷ []) (expressions_of ((expression (at 9 32 33 33) (variable (word 10 32 (codes "n")))) ∷ (expression (at 11 36 37 37) (number (pos 1))) ∷ []))))))) ∷ (statement (at 12 39 40 49) (assign (word 13 39 (codes "b")) (value (expression (at 14 43 44 48) (chain (Operator.Times ∷ []) (expressions_of ((expression (at 15 43 44 44) (variable (word 16 43 (codes "a")))) ∷ (expression (at 17 47 48 48) (number (pos 2))) ∷ []))))))) ∷ []))) })
    ∷ single (statement (at 18 52 55 58) (declare (record { base = Base.Int; name = (word 19 56 (codes "p")); shape = Shape.Scalar }) None))
    ∷ single (statement (at 20 59 62 65) (declare (record { base = Base.Int; name = (word 21 63 (codes "q")); shape = Shape.Scalar }) None))
    ∷ single (statement (at 22 66 67 82) (assign_all ((word 23 67 (codes "p")) ∷ (word 24 70 (codes "q")) ∷ []) (record { node = (at 25 75 78 81); name = (word 26 75 (codes "two")); arguments = ((expression (at 27 79 80 80) (number (pos 3))) ∷ []) })))
    ∷ single (statement (at 28 83 89 105) (calls (pos 0) (record { node = (at 29 83 89 104); name = (word 30 83 (codes "printf")); arguments = ((expression (at 31 90 97 97) (text (codes "%i %i"))) ∷ (expression (at 32 99 100 100) (variable (word 33 99 (codes "p")))) ∷ (expression (at 34 102 103 103) (variable (word 35 102 (codes "q")))) ∷ []) })))
    ∷ []

abbrev pub table_of_outputs_are_the_callers : Table
table_of_outputs_are_the_callers = table_of ((7, record { up = 0; what = output 0 }) ∷ (10, record { up = 0; what = input 0 }) ∷ (13, record { up = 0; what = output 1 }) ∷ (16, record { up = 0; what = output 0 }) ∷ (23, record { up = 0; what = local 19 }) ∷ (24, record { up = 0; what = local 21 }) ∷ (33, record { up = 0; what = local 19 }) ∷ (35, record { up = 0; what = local 21 }) ∷ []) ([]) ((26, composite 0) ∷ (30, built_in printf) ∷ [])

-- (int r) f(int n) { r = f(n + 1); } printf("%i", f(0));
abbrev pub tree_of_calls_without_end : Tree
tree_of_calls_without_end =
    function (record { node = (at 1 0 1 34); outputs = ((record { base = Base.Int; name = (word 2 5 (codes "r")); shape = Shape.Scalar }) ∷ []); name = (word 3 8 (codes "f")); inputs = ((record { base = Base.Int; name = (word 4 14 (codes "n")); shape = Shape.Scalar }) ∷ []); body = (body 17 (statements_of ((statement (at 5 19 20 32) (assign (word 6 19 (codes "r")) (value (expression (at 7 23 24 31) (call (word 8 23 (codes "f")) (expressions_of ((expression (at 9 25 26 30) (chain (Operator.Plus ∷ []) (expressions_of ((expression (at 10 25 26 26) (variable (word 11 25 (codes "n")))) ∷ (expression (at 12 29 30 30) (number (pos 1))) ∷ [])))) ∷ []))))))) ∷ []))) })
    ∷ single (statement (at 13 35 41 54) (calls (pos 0) (record { node = (at 14 35 41 53); name = (word 15 35 (codes "printf")); arguments = ((expression (at 16 42 46 46) (text (codes "%i"))) ∷ (expression (at 17 48 49 52) (call (word 18 48 (codes "f")) (expressions_of ((expression (at 19 50 51 51) (number (pos 0))) ∷ [])))) ∷ []) })))
    ∷ []

abbrev pub table_of_calls_without_end : Table
table_of_calls_without_end = table_of ((6, record { up = 0; what = output 0 }) ∷ (11, record { up = 0; what = input 0 }) ∷ []) ([]) ((8, composite 0) ∷ (15, built_in printf) ∷ (18, composite 0) ∷ [])

-- int x = 1; int y; int z; y = z; z = y; wait (x) { wait (y) { printf("q"); } }
abbrev pub tree_of_nested_waits : Tree
tree_of_nested_waits =
    single (statement (at 1 0 3 10) (declare (record { base = Base.Int; name = (word 2 4 (codes "x")); shape = Shape.Scalar }) (Some (value (expression (at 3 8 9 9) (number (pos 1)))))))
    ∷ single (statement (at 4 11 14 17) (declare (record { base = Base.Int; name = (word 5 15 (codes "y")); shape = Shape.Scalar }) None))
    ∷ single (statement (at 6 18 21 24) (declare (record { base = Base.Int; name = (word 7 22 (codes "z")); shape = Shape.Scalar }) None))
    ∷ single (statement (at 8 25 26 31) (assign (word 9 25 (codes "y")) (value (expression (at 10 29 30 30) (variable (word 11 29 (codes "z")))))))
    ∷ single (statement (at 12 32 33 38) (assign (word 13 32 (codes "z")) (value (expression (at 14 36 37 37) (variable (word 15 36 (codes "y")))))))
    ∷ single (statement (at 16 39 43 77) (waits ((word 17 45 (codes "x")) ∷ []) (body 48 (statements_of ((statement (at 18 50 54 75) (waits ((word 19 56 (codes "y")) ∷ []) (body 59 (statements_of ((statement (at 20 61 67 73) (calls (pos 0) (record { node = (at 21 61 67 72); name = (word 22 61 (codes "printf")); arguments = ((expression (at 23 68 71 71) (text (codes "q"))) ∷ []) }))) ∷ []))))) ∷ [])))))
    ∷ []

abbrev pub table_of_nested_waits : Table
table_of_nested_waits = table_of ((9, record { up = 0; what = local 5 }) ∷ (11, record { up = 0; what = local 7 }) ∷ (13, record { up = 0; what = local 7 }) ∷ (15, record { up = 0; what = local 5 }) ∷ (17, record { up = 0; what = local 2 }) ∷ (19, record { up = 0; what = local 5 }) ∷ []) ([]) ((22, built_in printf) ∷ [])

-- (int B[]) g(int m) { foreach i in [0:m-1] { B[i] = i*i; } } int C[]; C = g(4); printf("%i %i", size(C), C[3]);
abbrev pub tree_of_filled_in_a_call : Tree
tree_of_filled_in_a_call =
    function (record { node = (at 1 0 1 59); outputs = ((record { base = Base.Int; name = (word 2 5 (codes "B")); shape = Shape.Array Keys.Numbers }) ∷ []); name = (word 3 10 (codes "g")); inputs = ((record { base = Base.Int; name = (word 4 16 (codes "m")); shape = Shape.Scalar }) ∷ []); body = (body 19 (statements_of ((statement (at 5 21 28 57) (loop (word 6 29 (codes "i")) None (range (expression (at 7 35 36 36) (number (pos 0))) (expression (at 8 37 38 40) (chain (Operator.Minus ∷ []) (expressions_of ((expression (at 9 37 38 38) (variable (word 10 37 (codes "m")))) ∷ (expression (at 11 39 40 40) (number (pos 1))) ∷ [])))) None) (body 42 (statements_of ((statement (at 12 44 45 55) (write (word 13 44 (codes "B")) (expression (at 14 46 47 47) (variable (word 15 46 (codes "i")))) (expression (at 16 51 52 54) (chain (Operator.Times ∷ []) (expressions_of ((expression (at 17 51 52 52) (variable (word 18 51 (codes "i")))) ∷ (expression (at 19 53 54 54) (variable (word 20 53 (codes "i")))) ∷ [])))))) ∷ []))))) ∷ []))) })
    ∷ single (statement (at 21 60 63 68) (declare (record { base = Base.Int; name = (word 22 64 (codes "C")); shape = Shape.Array Keys.Numbers }) None))
    ∷ single (statement (at 23 69 70 78) (assign (word 24 69 (codes "C")) (value (expression (at 25 73 74 77) (call (word 26 73 (codes "g")) (expressions_of ((expression (at 27 75 76 76) (number (pos 4))) ∷ [])))))))
    ∷ single (statement (at 28 79 85 110) (calls (pos 0) (record { node = (at 29 79 85 109); name = (word 30 79 (codes "printf")); arguments = ((expression (at 31 86 93 93) (text (codes "%i %i"))) ∷ (expression (at 32 95 99 102) (call (word 33 95 (codes "size")) (expressions_of ((expression (at 34 100 101 101) (variable (word 35 100 (codes "C")))) ∷ [])))) ∷ (expression (at 36 104 105 108) (element (word 37 104 (codes "C")) (expression (at 38 106 107 107) (number (pos 3))))) ∷ []) })))
    ∷ []

abbrev pub table_of_filled_in_a_call : Table
table_of_filled_in_a_call = table_of ((10, record { up = 0; what = input 0 }) ∷ (13, record { up = 1; what = output 0 }) ∷ (15, record { up = 0; what = local 6 }) ∷ (18, record { up = 0; what = local 6 }) ∷ (20, record { up = 0; what = local 6 }) ∷ (24, record { up = 0; what = local 22 }) ∷ (35, record { up = 0; what = local 22 }) ∷ (37, record { up = 0; what = local 22 }) ∷ []) (13 ∷ 24 ∷ 35 ∷ 37 ∷ []) ((26, composite 0) ∷ (30, built_in printf) ∷ (33, built_in size) ∷ [])

-- (int r) fib(int n) { if (n < 2) { r = n; } else { r = fib(n-1) + fib(n-2); } } printf("%i", fib(10));
abbrev pub tree_of_fibonacci : Tree
tree_of_fibonacci =
    function (record { node = (at 1 0 1 78); outputs = ((record { base = Base.Int; name = (word 2 5 (codes "r")); shape = Shape.Scalar }) ∷ []); name = (word 3 8 (codes "fib")); inputs = ((record { base = Base.Int; name = (word 4 16 (codes "n")); shape = Shape.Scalar }) ∷ []); body = (body 19 (statements_of ((statement (at 5 21 23 76) (choice_else (expression (at 6 25 26 30) (chain (Operator.Less ∷ []) (expressions_of ((expression (at 7 25 26 26) (variable (word 8 25 (codes "n")))) ∷ (expression (at 9 29 30 30) (number (pos 2))) ∷ [])))) (body 32 (statements_of ((statement (at 10 34 35 40) (assign (word 11 34 (codes "r")) (value (expression (at 12 38 39 39) (variable (word 13 38 (codes "n"))))))) ∷ []))) (body 48 (statements_of ((statement (at 14 50 51 74) (assign (word 15 50 (codes "r")) (value (expression (at 16 54 57 73) (chain (Operator.Plus ∷ []) (expressions_of ((expression (at 17 54 57 62) (call (word 18 54 (codes "fib")) (expressions_of ((expression (at 19 58 59 61) (chain (Operator.Minus ∷ []) (expressions_of ((expression (at 20 58 59 59) (variable (word 21 58 (codes "n")))) ∷ (expression (at 22 60 61 61) (number (pos 1))) ∷ [])))) ∷ [])))) ∷ (expression (at 23 65 68 73) (call (word 24 65 (codes "fib")) (expressions_of ((expression (at 25 69 70 72) (chain (Operator.Minus ∷ []) (expressions_of ((expression (at 26 69 70 70) (variable (word 27 69 (codes "n")))) ∷ (expression (at 28 71 72 72) (number (pos 2))) ∷ [])))) ∷ [])))) ∷ []))))))) ∷ []))))) ∷ []))) })
    ∷ single (statement (at 29 79 85 101) (calls (pos 0) (record { node = (at 30 79 85 100); name = (word 31 79 (codes "printf")); arguments = ((expression (at 32 86 90 90) (text (codes "%i"))) ∷ (expression (at 33 92 95 99) (call (word 34 92 (codes "fib")) (expressions_of ((expression (at 35 96 98 98) (number (pos 10))) ∷ [])))) ∷ []) })))
    ∷ []

abbrev pub table_of_fibonacci : Table
table_of_fibonacci = table_of ((8, record { up = 0; what = input 0 }) ∷ (11, record { up = 1; what = output 0 }) ∷ (13, record { up = 1; what = input 0 }) ∷ (15, record { up = 1; what = output 0 }) ∷ (21, record { up = 1; what = input 0 }) ∷ (27, record { up = 1; what = input 0 }) ∷ []) ([]) ((18, composite 0) ∷ (24, composite 0) ∷ (31, built_in printf) ∷ (34, composite 0) ∷ [])
