-- The meaning of a refusal for its text.
use Rattle.std.specs.Prelude.{◌≡◌, ℕ, ◌<◌, ◌≤◌, List, [], ◌∷◌, ◌++◌, map, length, Ok, Err, Option, Some, None, ◌⊎◌}
use Rattle.lexer.specs.Items.{Lexeme, span_of}
use Rattle.lexer.specs.declared.token.Span.{Span}
use Rattle.lexer.specs.Tokens.{Tokens}
use Rattle.lexer.specs.declared.fault.LexFault.{LexFault}
use Rattle.language.specs.Tree.{Tree}
use Rattle.language.specs.Reads.{Reads}
use Rattle.language.specs.Grammar.{IsScript}
use Rattle.syntax.specs.declared.grammar.stop.ParseStop.{ParseStop}
use Rattle.syntax.specs.declared.grammar.stop.ParseStop.TheVariants.{AtEnd}
use Rattle.syntax.specs.Endings.{ending}
use Rattle.syntax.specs.Readers.{refused, start}
use Rattle.syntax.specs.Reading.{read_script}
use Rattle.syntax.specs.Viable.{StopsFirst}
use Rattle.syntax.specs.declared.error.ParseFault.{ParseFault}
use Rattle.syntax.specs.declared.error.ParseFault.TheVariants.{Lex, Unexpected, TooNested, TooLong, Memory}
use Rattle.values.specs.Limits.{max_source, max_nesting}

-- the text has no tree
abbrev pub HasNone : List ℕ → Type 0
HasNone bytes = (tree : Tree) → ¬ Reads bytes tree

-- the tokens of the text, with this end, are read within the maximum depth of nesting up to this stop, and up to there
-- they begin a script
abbrev pub Stopped : List ℕ → Option LexFault → ParseStop → Type 0
Stopped bytes fault stop = (ts : List Lexeme) × Tokens bytes (map Ok ts ++ ending fault) × (read_script max_nesting (start ts) ≡ refused stop) × StopsFirst ts stop

-- the tokens of the text are a complete script, followed by its first lexical fault
abbrev pub Spoilt : List ℕ → LexFault → Type 0
Spoilt bytes f = (ts : List Lexeme) × (tree : Tree) × Tokens bytes (map Ok ts ++ Err f ∷ []) × IsScript max_nesting ts tree

-- a text that is refused has no tree; a text of more bytes than the maximum is refused as too long, and no other is
abbrev pub Refuses : List ℕ → ParseFault → Type 0
Refuses bytes (Lex f) = (length bytes ≤ max_source) × HasNone bytes × (Stopped bytes (Some f) AtEnd ⊎ Spoilt bytes f)
Refuses bytes (Unexpected s) = (length bytes ≤ max_source) × HasNone bytes × (((fault : Option LexFault) × Stopped bytes fault (ParseStop.Unexpected s)) ⊎ (Stopped bytes None AtEnd × (s ≡ record { from = length bytes; to = length bytes })))
Refuses bytes (TooNested s) = (length bytes ≤ max_source) × HasNone bytes × (fault : Option LexFault) × Stopped bytes fault (ParseStop.TooNested s)
Refuses bytes (TooLong s) = (max_source < length bytes) × HasNone bytes × (s ≡ record { from = max_source; to = max_source })
Refuses bytes Memory = length bytes ≤ max_source

-- the place of a fault
abbrev pub place_of : ParseFault → Option Span
place_of (Lex f) = Some (span_of f)
place_of (Unexpected s) = Some s
place_of (TooNested s) = Some s
place_of (TooLong s) = Some s
place_of Memory = None
