-- A text has at most one reading.
use Rattle.std.specs.Prelude.{Ok, Err, map, ◌++◌, ◌<◌}
use Rattle.std.proofs.Common.{◌≡◌, ℕ, ◌≤◌, length, List, [], ◌∷◌, refl, ap, sym, ◌∙◌, subst, arith}
use Rattle.std.proofs.lemmas.List.{append-nil}
use Rattle.language.specs.Tree.{Expression, Tree}
use Rattle.lexer.specs.declared.fault.LexFault.{LexFault}
use Rattle.lexer.specs.Items.{Lexeme, Item}
use Rattle.lexer.specs.declared.token.TokenKind.TheVariants as Kind
use Rattle.lexer.specs.Tokens.{Tokens}
use Rattle.lexer.proofs.Items.{only_tokens}
use Rattle.language.specs.Rules.{Place}
use Rattle.language.specs.Grammar.{IsExpr, IsScript}
use Rattle.language.specs.Numbered.{numbered}
use Rattle.language.specs.Reads.{Reads}
use Rattle.syntax.specs.declared.grammar.stop.ParseStop.{ParseStop}
use Rattle.syntax.specs.Readers.{got, refused, start, kind_at, kind_of}
use Rattle.syntax.specs.Reading.{read_script}
use Rattle.syntax.proofs.combining.Combine.{law_only}
use Rattle.syntax.proofs.expressions.Expressions.{Ends, ends_of, expr_law}
use Rattle.syntax.proofs.scripts.Scripts.{one_tree, script_sound, script_refused}
use Rattle.values.specs.Limits.{max_source, max_nesting}

ends : (u : Place) → u.rest ≡ [] → Ends (kind_at u)
ends u h = subst (λ ts. Ends (kind_of ts)) (sym h) (ends_of Kind.End refl refl refl)

pub one_expression : (depth : ℕ) (s : Place) (e f : Expression) (u v : Place) → IsExpr depth s e u → u.rest ≡ [] → IsExpr depth s f v → v.rest ≡ [] → e ≡ f
one_expression depth s e f u v is end also end' = (law_only (expr_law depth) s e f u v is (ends u end) also (ends v end')).0

same_tokens : (ts us : List Lexeme) → ◌≡◌ {A = List Item} (map Ok ts) (map Ok us) → ts ≡ us
same_tokens [] [] h = refl
same_tokens [] (u ∷ us) h = absurd (cc)
same_tokens (t ∷ ts) [] h = absurd (cc)
same_tokens (t ∷ ts) (u ∷ us) h =
    let first : t ≡ u = cc in
    let rest : ◌≡◌ {A = List Item} (map Ok ts) (map Ok us) = cc in
    ap (λ x. x ∷ ts) first ∙ ap (λ xs. u ∷ xs) (same_tokens ts us rest)

-- a text without a lexical fault has one list of tokens, and so at most one tree
pub one_reading : (depth : ℕ) (bytes : List ℕ) (ts us : List Lexeme) (t u : Tree) → Tokens bytes (map Ok ts) → IsScript depth ts t → Tokens bytes (map Ok us) → IsScript depth us u → t ≡ u
one_reading depth bytes ts us t u tokens is tokens' also =
    let same = same_tokens us ts (only_tokens 0 bytes (map Ok us) tokens' ∙ sym (only_tokens 0 bytes (map Ok ts) tokens)) in
    one_tree depth ts t u is (subst (λ xs. IsScript depth xs u) same also)

pub one_text : (bytes : List ℕ) (t u : Tree) → Reads bytes t → Reads bytes u → t ≡ u
one_text bytes t u is also =
    is.is_numbered ∙ ap (λ p. numbered 1 p) (one_reading max_nesting bytes is.tokens also.tokens is.parsed also.parsed is.lexed is.is_script also.lexed also.is_script) ∙ sym also.is_numbered

-- tokens with no fault behind them
pub whole : (bytes : List ℕ) (ts : List Lexeme) → Tokens bytes (map Ok ts ++ []) → Tokens bytes (map Ok ts)
whole bytes ts lexed = subst (Tokens bytes) (append-nil (map Ok ts)) lexed

-- what is read from the tokens of a text is its tree, with its numbers
pub reads_text : (bytes : List ℕ) (ts : List Lexeme) (tree : Tree) (u : Place) → length bytes ≤ max_source → Tokens bytes (map Ok ts) → read_script max_nesting (start ts) ≡ got tree u → Reads bytes (numbered 1 tree)
reads_text bytes ts tree u short lexed read = record { short = short; tokens = ts; lexed = lexed; parsed = tree; is_script = (script_sound max_nesting ts tree u read).0; is_numbered = refl }

-- a text that is too long has no tree
pub long_text : (bytes : List ℕ) → max_source < length bytes → (t : Tree) → Reads bytes t → ⊥
long_text bytes long t is = let short = is.short in omega arith

-- nor has one whose tokens are refused
pub refused_text : (bytes : List ℕ) (ts : List Lexeme) → Tokens bytes (map Ok ts) → (stop : ParseStop) → read_script max_nesting (start ts) ≡ refused stop → (t : Tree) → Reads bytes t → ⊥
refused_text bytes ts lexed stop none t is =
    let same = same_tokens is.tokens ts (only_tokens 0 bytes (map Ok is.tokens) is.lexed ∙ sym (only_tokens 0 bytes (map Ok ts) lexed)) in
    script_refused max_nesting ts stop none is.parsed (subst (λ xs. IsScript max_nesting xs is.parsed) same is.is_script)

no_fault : (ts us : List Lexeme) (f : LexFault) → ◌≡◌ {A = List Item} (map Ok ts) (map Ok us ++ Err f ∷ []) → ⊥
no_fault [] [] f h = absurd (cc)
no_fault [] (u ∷ us) f h = absurd (cc)
no_fault (t ∷ ts) [] f h = absurd (cc)
no_fault (t ∷ ts) (u ∷ us) f h =
    let rest : ◌≡◌ {A = List Item} (map Ok ts) (map Ok us ++ Err f ∷ []) = cc in
    no_fault ts us f rest

-- nor one with a lexical fault
pub faulty_text : (bytes : List ℕ) (ts : List Lexeme) (f : LexFault) → Tokens bytes (map Ok ts ++ Err f ∷ []) → (t : Tree) → Reads bytes t → ⊥
faulty_text bytes ts f lexed t is =
    no_fault is.tokens ts f (only_tokens 0 bytes (map Ok is.tokens) is.lexed ∙ sym (only_tokens 0 bytes (map Ok ts ++ Err f ∷ []) lexed))
