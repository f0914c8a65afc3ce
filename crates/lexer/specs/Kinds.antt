-- The spelling of the keywords and of the symbols.
use Rattle.std.specs.Prelude.{ℕ, ◌&&◌, List, [], ◌∷◌, Option, Some, None, nat_eq, if◌then◌else◌, codes}
use Rattle.std.specs.Str.{bytes_eq}
use Rattle.lexer.specs.declared.token.TokenKind.{TokenKind}
use Rattle.lexer.specs.declared.token.TokenKind.TheVariants.{Name, Int, String, Boolean, If, Else, Foreach, In, Wait, Import, True, False, OpenRound, CloseRound, OpenCurly, CloseCurly, OpenSquare, CloseSquare, Comma, Semicolon, Colon, Assign, Equal, NotEqual, Less, AtMost, Greater, AtLeast, Plus, Minus, Times, Quotient, Remainder, Not, And, Or, At}

-- the keywords
abbrev pub keywords : List (List ℕ × TokenKind)
keywords =
    (codes "int", Int)
    ∷ (codes "string", String)
    ∷ (codes "boolean", Boolean)
    ∷ (codes "if", If)
    ∷ (codes "else", Else)
    ∷ (codes "foreach", Foreach)
    ∷ (codes "in", In)
    ∷ (codes "wait", Wait)
    ∷ (codes "import", Import)
    ∷ (codes "true", True)
    ∷ (codes "false", False)
    ∷ []

-- the keyword of a list that a word spells, otherwise a name
abbrev pub keyword_among : List ℕ → List (List ℕ × TokenKind) → TokenKind
keyword_among w [] = Name
keyword_among w ((k, kind) ∷ ks) = if bytes_eq w k then kind else keyword_among w ks

-- the keyword that a word spells, otherwise a name
abbrev pub kind_of_word : List ℕ → TokenKind
kind_of_word w = keyword_among w keywords

-- the symbol that one byte spells
abbrev pub symbol_of_one : ℕ → Option TokenKind
symbol_of_one c =
    -- ( ) { } [ ]
    if nat_eq c 40 then Some OpenRound
    else (if nat_eq c 41 then Some CloseRound
    else (if nat_eq c 123 then Some OpenCurly
    else (if nat_eq c 125 then Some CloseCurly
    else (if nat_eq c 91 then Some OpenSquare
    else (if nat_eq c 93 then Some CloseSquare
    -- , ; :
    else (if nat_eq c 44 then Some Comma
    else (if nat_eq c 59 then Some Semicolon
    else (if nat_eq c 58 then Some Colon
    -- = < > + - * ! @
    else (if nat_eq c 61 then Some Assign
    else (if nat_eq c 60 then Some Less
    else (if nat_eq c 62 then Some Greater
    else (if nat_eq c 43 then Some Plus
    else (if nat_eq c 45 then Some Minus
    else (if nat_eq c 42 then Some Times
    else (if nat_eq c 33 then Some Not
    else (if nat_eq c 64 then Some At
    else None))))))))))))))))

-- the symbol that two bytes spell
abbrev pub symbol_of_two : ℕ → ℕ → Option TokenKind
symbol_of_two c d =
    -- == != <= >=
    if nat_eq c 61 && nat_eq d 61 then Some Equal
    else (if nat_eq c 33 && nat_eq d 61 then Some NotEqual
    else (if nat_eq c 60 && nat_eq d 61 then Some AtMost
    else (if nat_eq c 62 && nat_eq d 61 then Some AtLeast
    -- %/ %% && ||
    else (if nat_eq c 37 && nat_eq d 47 then Some Quotient
    else (if nat_eq c 37 && nat_eq d 37 then Some Remainder
    else (if nat_eq c 38 && nat_eq d 38 then Some And
    else (if nat_eq c 124 && nat_eq d 124 then Some Or
    else None)))))))
