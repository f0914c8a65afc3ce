-- The end of a list of tokens.
use Rattle.std.specs.Prelude.{List, [], ◌∷◌, Option, Some, None, Err}
use Rattle.lexer.specs.Items.{Item}
use Rattle.lexer.specs.declared.fault.LexFault.{LexFault}

-- a fault, or nothing at the end of the text
abbrev pub ending : Option LexFault → List Item
ending None = []
ending (Some f) = Err f ∷ []
