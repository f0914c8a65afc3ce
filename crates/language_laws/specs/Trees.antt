-- The trees of the worked examples with arrays, loops and conditions, with the tables of their names. The text of each
-- precedes it.
use Rattle.std.specs.Prelude.{pos, true, false, [], ◌∷◌, Some, None, codes}
use Rattle.language.specs.declared.tree.Base.TheVariants as Base
use Rattle.language.specs.declared.tree.Keys.TheVariants as Keys
use Rattle.language.specs.declared.tree.Operator.TheVariants as Operator
use Rattle.language.specs.declared.tree.Shape.{Shape}
use Rattle.language.specs.Core.{local, input, output}
use Rattle.language.specs.Table.{Table, composite, built_in, size, printf}
use Rattle.language.specs.Tree.{expression, number, text, truth, variable, element, call, chain, expressions_of, value, list, array, range, statement, declare, assign, write, calls, choice, loop, waits, body, statements_of, function, single, Tree}
use Rattle.language_laws.specs.ExampleTrees.{word, at, table_of}

-- int A[]; printf("%i", size(A));
abbrev pub tree_of_nobody_writes : Tree
tree_of_nobody_writes =
    single (statement (at 1 0 3 8) (declare (record { base = Base.Int; name = (word 2 4 (codes "A")); shape = Shape.Array Keys.Numbers }) None))
    ∷ single (statement (at 3 9 15 31) (calls (pos 0) (record { node = (at 4 9 15 30); name = (word 5 9 (codes "printf")); arguments = ((expression (at 6 16 20 20) (text (codes "%i"))) ∷ (expression (at 7 22 26 29) (call (word 8 22 (codes "size")) (expressions_of ((expression (at 9 27 28 28) (variable (word 10 27 (codes "A")))) ∷ [])))) ∷ []) })))
    ∷ []

abbrev pub table_of_nobody_writes : Table
table_of_nobody_writes = table_of ((10, record { up = 0; what = local 2 }) ∷ []) (10 ∷ []) ((5, built_in printf) ∷ (8, built_in size) ∷ [])

-- int A[]; A[0] = size(A);
abbrev pub tree_of_waits_for_itself : Tree
tree_of_waits_for_itself =
    single (statement (at 1 0 3 8) (declare (record { base = Base.Int; name = (word 2 4 (codes "A")); shape = Shape.Array Keys.Numbers }) None))
    ∷ single (statement (at 3 9 10 24) (write (word 4 9 (codes "A")) (expression (at 5 11 12 12) (number (pos 0))) (expression (at 6 16 20 23) (call (word 7 16 (codes "size")) (expressions_of ((expression (at 8 21 22 22) (variable (word 9 21 (codes "A")))) ∷ []))))))
    ∷ []

abbrev pub table_of_waits_for_itself : Table
table_of_waits_for_itself = table_of ((4, record { up = 0; what = local 2 }) ∷ (9, record { up = 0; what = local 2 }) ∷ []) (4 ∷ 9 ∷ []) ((7, built_in size) ∷ [])

-- int A[] = [4, 5]; printf("%i %i", size(A), A[1]);
abbrev pub tree_of_array_literal : Tree
tree_of_array_literal =
    single (statement (at 1 0 3 17) (declare (record { base = Base.Int; name = (word 2 4 (codes "A")); shape = Shape.Array Keys.Numbers }) (Some (list (at 3 10 11 16) ((expression (at 4 11 12 12) (number (pos 4))) ∷ (expression (at 5 14 15 15) (number (pos 5))) ∷ [])))))
    ∷ single (statement (at 6 18 24 49) (calls (pos 0) (record { node = (at 7 18 24 48); name = (word 8 18 (codes "printf")); arguments = ((expression (at 9 25 32 32) (text (codes "%i %i"))) ∷ (expression (at 10 34 38 41) (call (word 11 34 (codes "size")) (expressions_of ((expression (at 12 39 40 40) (variable (word 13 39 (codes "A")))) ∷ [])))) ∷ (expression (at 14 43 44 47) (element (word 15 43 (codes "A")) (expression (at 16 45 46 46) (number (pos 1))))) ∷ []) })))
    ∷ []

abbrev pub table_of_array_literal : Table
table_of_array_literal = table_of ((13, record { up = 0; what = local 2 }) ∷ (15, record { up = 0; what = local 2 }) ∷ []) (13 ∷ 15 ∷ []) ((8, built_in printf) ∷ (11, built_in size) ∷ [])

-- int A[] = [4, 5]; int B[] = A; int C[]; C = B; printf("%i %i", size(C), C[1]);
abbrev pub tree_of_whole_copies : Tree
tree_of_whole_copies =
    single (statement (at 1 0 3 17) (declare (record { base = Base.Int; name = (word 2 4 (codes "A")); shape = Shape.Array Keys.Numbers }) (Some (list (at 3 10 11 16) ((expression (at 4 11 12 12) (number (pos 4))) ∷ (expression (at 5 14 15 15) (number (pos 5))) ∷ [])))))
    ∷ single (statement (at 6 18 21 30) (declare (record { base = Base.Int; name = (word 7 22 (codes "B")); shape = Shape.Array Keys.Numbers }) (Some (value (expression (at 8 28 29 29) (variable (word 9 28 (codes "A"))))))))
    ∷ single (statement (at 10 31 34 39) (declare (record { base = Base.Int; name = (word 11 35 (codes "C")); shape = Shape.Array Keys.Numbers }) None))
    ∷ single (statement (at 12 40 41 46) (assign (word 13 40 (codes "C")) (value (expression (at 14 44 45 45) (variable (word 15 44 (codes "B")))))))
    ∷ single (statement (at 16 47 53 78) (calls (pos 0) (record { node = (at 17 47 53 77); name = (word 18 47 (codes "printf")); arguments = ((expression (at 19 54 61 61) (text (codes "%i %i"))) ∷ (expression (at 20 63 67 70) (call (word 21 63 (codes "size")) (expressions_of ((expression (at 22 68 69 69) (variable (word 23 68 (codes "C")))) ∷ [])))) ∷ (expression (at 24 72 73 76) (element (word 25 72 (codes "C")) (expression (at 26 74 75 75) (number (pos 1))))) ∷ []) })))
    ∷ []

abbrev pub table_of_whole_copies : Table
table_of_whole_copies = table_of ((9, record { up = 0; what = local 2 }) ∷ (13, record { up = 0; what = local 11 }) ∷ (15, record { up = 0; what = local 7 }) ∷ (23, record { up = 0; what = local 11 }) ∷ (25, record { up = 0; what = local 11 }) ∷ []) (9 ∷ 13 ∷ 15 ∷ 23 ∷ 25 ∷ []) ((18, built_in printf) ∷ (21, built_in size) ∷ [])

-- int A[] = [7]; wait (A) { printf("%i", size(A)); }
abbrev pub tree_of_wait_for_array : Tree
tree_of_wait_for_array =
    single (statement (at 1 0 3 14) (declare (record { base = Base.Int; name = (word 2 4 (codes "A")); shape = Shape.Array Keys.Numbers }) (Some (list (at 3 10 11 13) ((expression (at 4 11 12 12) (number (pos 7))) ∷ [])))))
    ∷ single (statement (at 5 15 19 50) (waits ((word 6 21 (codes "A")) ∷ []) (body 24 (statements_of ((statement (at 7 26 32 48) (calls (pos 0) (record { node = (at 8 26 32 47); name = (word 9 26 (codes "printf")); arguments = ((expression (at 10 33 37 37) (text (codes "%i"))) ∷ (expression (at 11 39 43 46) (call (word 12 39 (codes "size")) (expressions_of ((expression (at 13 44 45 45) (variable (word 14 44 (codes "A")))) ∷ [])))) ∷ []) }))) ∷ [])))))
    ∷ []

abbrev pub table_of_wait_for_array : Table
table_of_wait_for_array = table_of ((6, record { up = 0; what = local 2 }) ∷ (14, record { up = 0; what = local 2 }) ∷ []) (6 ∷ 14 ∷ []) ((9, built_in printf) ∷ (12, built_in size) ∷ [])

-- foreach i in [5:1:0] { }
abbrev pub tree_of_no_step : Tree
tree_of_no_step =
    single (statement (at 1 0 7 24) (loop (word 2 8 (codes "i")) None (range (expression (at 3 14 15 15) (number (pos 5))) (expression (at 4 16 17 17) (number (pos 1))) (Some (expression (at 5 18 19 19) (number (pos 0))))) (body 21 (statements_of []))))
    ∷ []

abbrev pub table_of_no_step : Table
table_of_no_step = table_of ([]) ([]) ([])

-- (int r) f(int n) { if (true) { } r = f(n + 1); } printf("%i", f(0));
abbrev pub tree_of_headers_without_end : Tree
tree_of_headers_without_end =
    function (record { node = (at 1 0 1 48); outputs = ((record { base = Base.Int; name = (word 2 5 (codes "r")); shape = Shape.Scalar }) ∷ []); name = (word 3 8 (codes "f")); inputs = ((record { base = Base.Int; name = (word 4 14 (codes "n")); shape = Shape.Scalar }) ∷ []); body = (body 17 (statements_of ((statement (at 5 19 21 32) (choice (expression (at 6 23 27 27) (truth true)) (body 29 (statements_of [])))) ∷ (statement (at 7 33 34 46) (assign (word 8 33 (codes "r")) (value (expression (at 9 37 38 45) (call (word 10 37 (codes "f")) (expressions_of ((expression (at 11 39 40 44) (chain (Operator.Plus ∷ []) (expressions_of ((expression (at 12 39 40 40) (variable (word 13 39 (codes "n")))) ∷ (expression (at 14 43 44 44) (number (pos 1))) ∷ [])))) ∷ []))))))) ∷ []))) })
    ∷ single (statement (at 15 49 55 68) (calls (pos 0) (record { node = (at 16 49 55 67); name = (word 17 49 (codes "printf")); arguments = ((expression (at 18 56 60 60) (text (codes "%i"))) ∷ (expression (at 19 62 63 66) (call (word 20 62 (codes "f")) (expressions_of ((expression (at 21 64 65 65) (number (pos 0))) ∷ [])))) ∷ []) })))
    ∷ []

abbrev pub table_of_headers_without_end : Table
table_of_headers_without_end = table_of ((8, record { up = 0; what = output 0 }) ∷ (13, record { up = 0; what = input 0 }) ∷ []) ([]) ((10, composite 0) ∷ (17, built_in printf) ∷ (20, composite 0) ∷ [])

-- int A[] = [7]; if (false) { foreach v in A { } }
abbrev pub tree_of_closed_loop : Tree
tree_of_closed_loop =
    single (statement (at 1 0 3 14) (declare (record { base = Base.Int; name = (word 2 4 (codes "A")); shape = Shape.Array Keys.Numbers }) (Some (list (at 3 10 11 13) ((expression (at 4 11 12 12) (number (pos 7))) ∷ [])))))
    ∷ single (statement (at 5 15 17 48) (choice (expression (at 6 19 24 24) (truth false)) (body 26 (statements_of ((statement (at 7 28 35 46) (loop (word 8 36 (codes "v")) None (array (word 9 41 (codes "A"))) (body 43 (statements_of [])))) ∷ [])))))
    ∷ []

abbrev pub table_of_closed_loop : Table
table_of_closed_loop = table_of ((9, record { up = 1; what = local 2 }) ∷ []) (9 ∷ []) ([])

-- int A[] = [7, 9]; int B[]; foreach v, i in A { B[i] = v; } printf("%i %i", size(B), B[1]);
abbrev pub tree_of_loop_over_array : Tree
tree_of_loop_over_array =
    single (statement (at 1 0 3 17) (declare (record { base = Base.Int; name = (word 2 4 (codes "A")); shape = Shape.Array Keys.Numbers }) (Some (list (at 3 10 11 16) ((expression (at 4 11 12 12) (number (pos 7))) ∷ (expression (at 5 14 15 15) (number (pos 9))) ∷ [])))))
    ∷ single (statement (at 6 18 21 26) (declare (record { base = Base.Int; name = (word 7 22 (codes "B")); shape = Shape.Array Keys.Numbers }) None))
    ∷ single (statement (at 8 27 34 58) (loop (word 9 35 (codes "v")) (Some (word 10 38 (codes "i"))) (array (word 11 43 (codes "A"))) (body 45 (statements_of ((statement (at 12 47 48 56) (write (word 13 47 (codes "B")) (expression (at 14 49 50 50) (variable (word 15 49 (codes "i")))) (expression (at 16 54 55 55) (variable (word 17 54 (codes "v")))))) ∷ [])))))
    ∷ single (statement (at 18 59 65 90) (calls (pos 0) (record { node = (at 19 59 65 89); name = (word 20 59 (codes "printf")); arguments = ((expression (at 21 66 73 73) (text (codes "%i %i"))) ∷ (expression (at 22 75 79 82) (call (word 23 75 (codes "size")) (expressions_of ((expression (at 24 80 81 81) (variable (word 25 80 (codes "B")))) ∷ [])))) ∷ (expression (at 26 84 85 88) (element (word 27 84 (codes "B")) (expression (at 28 86 87 87) (number (pos 1))))) ∷ []) })))
    ∷ []

abbrev pub table_of_loop_over_array : Table
table_of_loop_over_array = table_of ((11, record { up = 0; what = local 2 }) ∷ (13, record { up = 1; what = local 7 }) ∷ (15, record { up = 0; what = local 10 }) ∷ (17, record { up = 0; what = local 9 }) ∷ (25, record { up = 0; what = local 7 }) ∷ (27, record { up = 0; what = local 7 }) ∷ []) (11 ∷ 13 ∷ 25 ∷ 27 ∷ []) ((20, built_in printf) ∷ (23, built_in size) ∷ [])
