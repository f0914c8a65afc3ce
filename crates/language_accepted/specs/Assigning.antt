-- A well typed script that assigns an input and a loop variable, with the table of its names.
use Rattle.std.specs.Prelude.{pos, [], ◌∷◌, None, codes}
use Rattle.language.specs.declared.tree.Base.TheVariants as Base
use Rattle.language.specs.declared.tree.Shape.{Shape}
use Rattle.language.specs.Core.{input, output, here}
use Rattle.language_laws.specs.ExampleTrees.{word, at, table_of}
use Rattle.language.specs.Table.{Table}
use Rattle.language.specs.Tree as T
use Rattle.language.specs.Tree.{expression, number, call, expressions_of, value, statement, loop, body, statements_of, function, single, Tree}

-- (int o) f(int i) { i = 3; o = 1; } foreach k in [0:1] { k = f(4); k = f(5); k = 6; }
abbrev pub tree : Tree
tree =
    function (record {
      node = at 1 0 1 34;
      outputs = (record { base = Base.Int; name = (word 2 5 (codes "o")); shape = Shape.Scalar }) ∷ [];
      name = word 3 8 (codes "f");
      inputs = (record { base = Base.Int; name = (word 4 14 (codes "i")); shape = Shape.Scalar }) ∷ [];
      body = body 17 (statements_of (
          statement (at 5 19 20 25) (T.assign (word 6 19 (codes "i")) (value (expression (at 7 23 24 24) (number (pos 3)))))
          ∷ statement (at 8 26 27 32) (T.assign (word 9 26 (codes "o")) (value (expression (at 10 30 31 31) (number (pos 1)))))
          ∷ []));
    })
    ∷ single (statement (at 11 35 42 84) (loop (word 12 43 (codes "k")) None (T.range (expression (at 13 49 50 50) (number (pos 0))) (expression (at 14 51 52 52) (number (pos 1))) None)
    (body 54 (statements_of (
    statement (at 15 56 57 65) (T.assign (word 16 56 (codes "k")) (value (expression (at 17 60 61 64) (call (word 18 60 (codes "f")) (expressions_of (expression (at 19 62 63 63) (number (pos 4)) ∷ []))))))
    ∷ statement (at 20 66 67 75) (T.assign (word 21 66 (codes "k")) (value (expression (at 22 70 71 74) (call (word 23 70 (codes "f")) (expressions_of (expression (at 24 72 73 73) (number (pos 5)) ∷ []))))))
    ∷ statement (at 25 76 77 82) (T.assign (word 26 76 (codes "k")) (value (expression (at 27 80 81 81) (number (pos 6)))))
    ∷ [])))))
    ∷ []

abbrev pub names : Table
names = table_of ((6, record { up = 0; what = input 0 }) ∷ (9, record { up = 0; what = output 0 }) ∷ (16, here 12) ∷ (21, here 12) ∷ (26, here 12) ∷ []) [] []
