-- Tokens with which scripts begin, and the place where a text stops being one.
use Rattle.std.specs.Prelude.{◌≡◌, ℕ, List, [], ◌∷◌, ◌++◌}
use Rattle.lexer.specs.Items.{Lexeme}
use Rattle.language.specs.Tree.{Tree}
use Rattle.language.specs.Grammar.{IsScript}
use Rattle.syntax.specs.declared.grammar.stop.ParseStop.{ParseStop}
use Rattle.syntax.specs.declared.grammar.stop.ParseStop.TheVariants.{AtEnd, Unexpected, TooNested, Memory}

-- further tokens complete these to a script, however deep it nests
abbrev pub Viable : List Lexeme → Type 0
Viable ts = (depth : ℕ) × (us : List Lexeme) × (tree : Tree) × IsScript depth (ts ++ us) tree

-- all tokens begin a script; or those before a token do and with it none does; or those with a token that nests too
-- deep do
abbrev pub StopsFirst : List Lexeme → ParseStop → Type 0
StopsFirst ts AtEnd = Viable ts
StopsFirst ts (Unexpected s) = (before : List Lexeme) × (t : Lexeme) × (after : List Lexeme) × (ts ≡ before ++ t ∷ after) × (s ≡ t.span) × Viable before × ¬ Viable (before ++ t ∷ [])
StopsFirst ts (TooNested s) = (before : List Lexeme) × (t : Lexeme) × (after : List Lexeme) × (ts ≡ before ++ t ∷ after) × (s ≡ t.span) × Viable (before ++ t ∷ [])
StopsFirst ts Memory = ⊥
