-- The number and the name of each refusal of a text. An allocation failure is not a refusal and has no number.
use Rattle.std.specs.Prelude.{ℕ, List, codes}
use Rattle.lexer.specs.FaultNames.{lex_name}
use Rattle.syntax.specs.declared.error.ParseFault.{ParseFault}
use Rattle.syntax.specs.declared.error.ParseFault.TheVariants as Parse

abbrev pub parse_name : ParseFault → List ℕ
parse_name (Parse.Lex f) = lex_name f
parse_name (Parse.Unexpected at) = codes "P2 Unexpected"
parse_name (Parse.TooNested at) = codes "P3 TooNested"
parse_name (Parse.TooLong at) = codes "P4 TooLong"
parse_name Parse.Memory = codes "no memory"
