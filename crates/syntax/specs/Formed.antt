-- Tokens whose text has the form of their kind, by a test.
use Rattle.std.specs.Prelude.{ℕ, Bool, true, false, ◌&&◌, List, [], ◌∷◌, nat_eq, is_some, if◌then◌else◌}
use Rattle.std.specs.List.{list_all}
use Rattle.lexer.specs.Bytes.{is_plain, is_number, is_empty, escaped_byte}
use Rattle.lexer.specs.Items.{Lexeme}
use Rattle.lexer.specs.declared.token.TokenKind.{TokenKind}
use Rattle.lexer.specs.declared.token.TokenKind.TheVariants as Kind

-- whether a string ends with its closing quote; escaped: whether a `\` precedes these bytes
abbrev pub closes : Bool → List ℕ → Bool
closes escaped [] = false
closes true (c ∷ cs) = is_some (escaped_byte c) && closes false cs
closes false (c ∷ cs) = if nat_eq c 34 then is_empty cs else (if nat_eq c 92 then closes true cs else is_plain c && closes false cs)

-- whether a text is a string in quotes
abbrev pub is_quoted : List ℕ → Bool
is_quoted [] = false
is_quoted (c ∷ cs) = nat_eq c 34 && closes false cs

-- whether a text has the form of a kind
abbrev pub has_form : TokenKind → List ℕ → Bool
has_form Kind.Number text = is_number text
has_form Kind.Text text = is_quoted text
has_form _ text = true

-- whether each token has its form
abbrev pub all_formed : List Lexeme → Bool
all_formed ts = list_all (λ t. has_form t.kind t.text) ts
