-- The number and the name of each lexical fault.
use Rattle.std.specs.Prelude.{ℕ, List, codes}
use Rattle.lexer.specs.declared.fault.LexFault.{LexFault}
use Rattle.lexer.specs.declared.fault.LexFault.TheVariants as Lex

abbrev pub lex_name : LexFault → List ℕ
lex_name (Lex.BadByte at) = codes "L1 BadByte"
lex_name (Lex.BadNumber at) = codes "L2 BadNumber"
lex_name (Lex.OpenString at) = codes "L3 OpenString"
lex_name (Lex.OpenComment at) = codes "L4 OpenComment"
lex_name (Lex.BadEscape at) = codes "L5 BadEscape"
