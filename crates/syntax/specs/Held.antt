-- The tokens that remain after a cursor, which holds the next two.
use Rattle.std.specs.Prelude.{◌≡◌, ℕ, List, [], ◌∷◌, ◌++◌, map, Option, Some, None, Ok, Err, IsTrue}
use Rattle.lexer.specs.declared.token.Token.{Token}
use Rattle.lexer.specs.declared.fault.LexFault.{LexFault}
use Rattle.lexer.specs.Given.{lexeme_of}
use Rattle.lexer.specs.Items.{Item, Lexeme}
use Rattle.lexer.specs.Tokens.{Tokens}
use Rattle.language.specs.Rules.{Place}
use Rattle.syntax.specs.Endings.{ending}
use Rattle.syntax.specs.Formed.{has_form}
use Rattle.syntax.specs.Readers.{start}

-- the tokens before the end or the first fault
abbrev pub tokens_of : List Item → List Lexeme
tokens_of [] = []
tokens_of (Ok t ∷ items) = t ∷ tokens_of items
tokens_of (Err f ∷ items) = []

-- a token followed by others, or nothing if there is none
abbrev pub led : Option Token → List Lexeme → List Lexeme
led None ts = []
led (Some t) ts = lexeme_of t ∷ ts

-- the token has the form of its kind
abbrev pub IsFormed : Option Token → Type 0
IsFormed None = Unit {0}
IsFormed (Some t) = IsTrue (has_form t.kind t.text.now)

-- the place before all tokens of a text
abbrev pub Begins : List ℕ → Place → Type 0
Begins bytes s = (ts : List Lexeme) × (fault : Option LexFault) × Tokens bytes (map Ok ts ++ ending fault) × (s ≡ start ts)
