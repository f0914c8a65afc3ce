-- The grammar of scripts: one case for each production. A number of nesting levels is left at each place. States
-- docs/LANGUAGE.md: Grammar.
use Rattle.std.specs.Prelude.{◌≡◌, ℕ, zero, suc, ◌≤◌, ℤ, pos, neg_ℤ, Bool, true, false, List, [], ◌∷◌, map, Option, Some, None, nat_eq, if◌then◌else◌}
use Rattle.lexer.specs.declared.token.Span.{Span}
use Rattle.lexer.specs.Items.{Lexeme}
use Rattle.lexer.specs.Bytes.{decimal, escaped_byte}
use Rattle.language.specs.declared.tree.Operator.{Operator}
use Rattle.language.specs.declared.tree.Prefix.TheVariants as Prefix
use Rattle.language.specs.declared.tree.Base.{Base}
use Rattle.language.specs.declared.tree.Keys.{Keys}
use Rattle.language.specs.declared.tree.Keys.TheVariants.{Numbers, Texts}
use Rattle.language.specs.declared.tree.Shape.{Shape}
use Rattle.language.specs.Tree.{Word, Node, Expression, expression, Form, number, text, truth, variable, element, call, prefixed, chain, expressions_of, Declaration, RightSide, value, list, Calling, Over, array, range, Statement, statement, no_statements, and_statement, Command, declare, assign, write, assign_all, calls, loop, waits, Body, body, statements_of, Part, import, function, single, Tree}
use Rattle.language.specs.Tree.{choice_of}
use Rattle.language.specs.declared.tree.Level.{Level}
use Rattle.lexer.specs.declared.token.TokenKind.TheVariants as Kind
use Rattle.language.specs.Kinds.{operator_of, base_of, level_of, repeats}
use Rattle.language.specs.Rules.{Place, Rule, The, ◌⋆◌, ◌▹◌, ◌◃◌, Never, Many, Maybe, AtMostOne, Perhaps, Made, Commas, Round, Square, Curly, Deeper}
use Rattle.values.specs.Limits.{max_priority}

-- the place of the first token
abbrev pub first_of : List Lexeme → Span
first_of [] = record { from = 0; to = 0 }
first_of (t ∷ ts) = t.span

-- a node from one place to another, without its number
abbrev pub node : Place → Place → Node
node s u = record { number = 0; first = first_of s.rest; to = u.before }

-- an expression from one place to another
abbrev pub spans : Place → Form → Place → Expression
spans s f u = expression (node s u) f

-- a statement from one place to another
abbrev pub does : Place → Command → Place → Statement
does s c u = statement (node s u) c

-- the number that a number token spells
abbrev pub number_of : Lexeme → ℤ
number_of t = pos (decimal t.text)

-- the byte that is spelled by `\` and this byte, or the byte itself
abbrev pub or_itself : ℕ → Option ℕ → ℕ
or_itself c None = c
or_itself c (Some d) = d

-- the bytes up to the quote, where a `\` and the following byte spell one; escaped: whether a `\` precedes them
abbrev pub spelled_from : Bool → List ℕ → List ℕ
spelled_from escaped [] = []
spelled_from true (c ∷ cs) = or_itself c (escaped_byte c) ∷ spelled_from false cs
spelled_from false (c ∷ cs) = if nat_eq c 34 then [] else (if nat_eq c 92 then spelled_from true cs else c ∷ spelled_from false cs)

-- the bytes spelled after the opening quote
abbrev pub behind_quote : List ℕ → List ℕ
behind_quote [] = []
behind_quote (c ∷ cs) = spelled_from false cs

-- the bytes that a string token spells
abbrev pub spelled : Lexeme → List ℕ
spelled t = behind_quote t.text

-- a name, without its number
abbrev pub word : Lexeme → Word
word t = record { number = 0; span = t.span; text = t.text }

-- a name token
abbrev pub IsName : Rule Word
IsName = Made (λ s t u. word t) (The Kind.Name)

-- EXPRESSIONS

-- an operator of a level
abbrev pub IsOperator : Level → Rule Operator
IsOperator l s o u = (t : Lexeme) × The t.kind s t u × (operator_of t.kind ≡ Some o) × (level_of o ≡ l)

-- an operand alone, or a chain of all operands with the operators between them
abbrev pub chained : Place → Expression × List (Operator × Expression) → Place → Expression
chained s (x, []) u = x
chained s (x, p ∷ ps) u = spans s (chain (p.0 ∷ map (λ q. q.0) ps) (expressions_of (x ∷ p.1 ∷ map (λ q. q.1) ps))) u

-- any number of values at a level that repeats, otherwise at most one
abbrev pub Repeated : {A : Type 0} → Bool → Rule A → Rule (List A)
Repeated true R = Many R
Repeated false R = AtMostOne R

-- operand { operator operand }, or operand [ operator operand ]: without an operator it is its operand
abbrev pub IsChain : Level → Rule Expression → Rule Expression
IsChain l IsOperand = Made chained (IsOperand ⋆ Repeated (repeats l) (IsOperator l ⋆ IsOperand))

-- expr, and, eq, rel, add and mul, given the rule of unary expressions
abbrev pub IsExprOver : Rule Expression → Rule Expression
IsExprOver IsUnary = IsChain Level.Or (IsChain Level.And (IsChain Level.Equality (IsChain Level.Order (IsChain Level.Sum (IsChain Level.Product IsUnary)))))

-- [ expr { "," expr } ]
abbrev pub AreArguments : Rule Expression → Rule (List Expression)
AreArguments IsExpr = Perhaps (Commas IsExpr)

-- unary and primary, given the rules after a prefix operator and in brackets
pub data IsUnaryOver (IsUnary IsExpr : Rule Expression) (Arguments : Rule (List Expression)) (s : Place) (e : Expression) (u : Place) : Type 0 where
  a_not : (x : Expression) → (The Kind.Not ▹ IsUnary) s x u → e ≡ spans s (prefixed Prefix.Not x) u → IsUnaryOver IsUnary IsExpr Arguments s e u
  a_negative : (x : Expression) → (The Kind.Minus ▹ IsUnary) s x u → e ≡ spans s (prefixed Prefix.Negative x) u → IsUnaryOver IsUnary IsExpr Arguments s e u
  a_number : (t : Lexeme) → The Kind.Number s t u → e ≡ spans s (number (number_of t)) u → IsUnaryOver IsUnary IsExpr Arguments s e u
  a_string : (t : Lexeme) → The Kind.Text s t u → e ≡ spans s (text (spelled t)) u → IsUnaryOver IsUnary IsExpr Arguments s e u
  a_true : (t : Lexeme) → The Kind.True s t u → e ≡ spans s (truth true) u → IsUnaryOver IsUnary IsExpr Arguments s e u
  a_false : (t : Lexeme) → The Kind.False s t u → e ≡ spans s (truth false) u → IsUnaryOver IsUnary IsExpr Arguments s e u
  a_name : (w : Word) → IsName s w u → e ≡ spans s (variable w) u → IsUnaryOver IsUnary IsExpr Arguments s e u
  an_element : (x : Word × Expression) → (IsName ⋆ Square IsExpr) s x u → e ≡ spans s (element x.0 x.1) u → IsUnaryOver IsUnary IsExpr Arguments s e u
  a_call : (x : Word × List Expression) → (IsName ⋆ Round Arguments) s x u → e ≡ spans s (call x.0 (expressions_of x.1)) u → IsUnaryOver IsUnary IsExpr Arguments s e u
  a_parenthesis : Round IsExpr s e u → IsUnaryOver IsUnary IsExpr Arguments s e u

-- a unary expression where the given number of nesting levels is left
unfoldable pub IsUnary : ℕ → Rule Expression
IsUnary zero = IsUnaryOver Never Never Never
IsUnary (suc depth) = IsUnaryOver (IsUnary depth) (IsExprOver (IsUnary depth)) (AreArguments (IsExprOver (IsUnary depth)))

-- an expression where the given number of nesting levels is left
abbrev pub IsExpr : ℕ → Rule Expression
IsExpr depth = IsExprOver (IsUnary depth)

-- DECLARATIONS, RIGHT SIDES, CALLS

-- a word for a type
abbrev pub IsType : Rule Base
IsType s b u = (t : Lexeme) × The t.kind s t u × (base_of t.kind ≡ Some b)

-- with brackets an array, without a scalar
abbrev pub shape_of : Option Keys → Shape
shape_of None = Shape.Scalar
shape_of (Some κ) = Shape.Array κ

-- between the brackets `string`, or nothing
abbrev pub keys_of : {A : Type 0} → Option A → Keys
keys_of None = Numbers
keys_of (Some x) = Texts

-- [ "string" ]
abbrev pub AreKeys : Rule Keys
AreKeys = Made (λ s x u. keys_of x) (Maybe (The Kind.String))

-- type name [ "[" [ "string" ] "]" ]
abbrev pub IsDecl : ℕ → Rule Declaration
IsDecl depth = Made (λ s x u. record { base = x.0; name = x.1.0; shape = shape_of x.1.1 }) (IsType ⋆ (IsName ⋆ Maybe (Square (Deeper (λ d. AreKeys) depth))))

-- "(" [ decls ] ")"
abbrev pub AreParameters : ℕ → Rule (List Declaration)
AreParameters depth = Round (Deeper (λ d. Perhaps (Commas (IsDecl d))) depth)

-- "(" name { "," name } ")"
abbrev pub AreNames : ℕ → Rule (List Word)
AreNames depth = Round (Deeper (λ d. Commas IsName) depth)

-- name "(" [ expr { "," expr } ] ")"
abbrev pub IsCall : ℕ → Rule Calling
IsCall depth = Made (λ s x u. record { node = node s u; name = x.0; arguments = x.1 }) (IsName ⋆ Round (Deeper (λ d. AreArguments (IsExpr d)) depth))

-- rhs
pub data IsRight (depth : ℕ) (s : Place) (r : RightSide) (u : Place) : Type 0 where
  a_value : (e : Expression) → IsExpr depth s e u → r ≡ value e → IsRight depth s r u
  a_list : (es : List Expression) → Square (Deeper (λ d. Commas (IsExpr d)) depth) s es u → r ≡ list (node s u) es → IsRight depth s r u

-- the word `prio`
abbrev pub IsPrio : Rule Lexeme
IsPrio s t u = The Kind.Name s t u × (t.text ≡ 112 ∷ 114 ∷ 105 ∷ 111 ∷ [])

-- a number of at most a million
abbrev pub IsSmall : Rule ℕ
IsSmall s n u = (t : Lexeme) × The Kind.Number s t u × (decimal t.text ≤ max_priority) × (n ≡ decimal t.text)

-- a number, or its negative after a `-`
abbrev pub signed : {A : Type 0} → Option A → ℕ → ℤ
signed None n = pos n
signed (Some x) n = neg_ℤ (pos n)

-- "@" "prio" "=" [ "-" ] number
abbrev pub IsPriority : Rule ℤ
IsPriority = Made (λ s x u. signed x.0 x.1) (The Kind.At ▹ IsPrio ▹ The Kind.Assign ▹ Maybe (The Kind.Minus) ⋆ IsSmall)

-- a call without a priority has priority 0
abbrev pub or_zero : Option ℤ → ℤ
or_zero None = pos 0
or_zero (Some p) = p

-- range
abbrev pub IsRange : ℕ → Rule Over
IsRange depth = Made (λ s x u. range x.0 x.1.0 x.1.1) (Square (Deeper (λ d. IsExpr d ⋆ ((The Kind.Colon ▹ IsExpr d) ⋆ Maybe (The Kind.Colon ▹ IsExpr d))) depth))

-- the source of a `foreach`: an array by its name, or a range
pub data IsSource (depth : ℕ) (s : Place) (o : Over) (u : Place) : Type 0 where
  an_array : (w : Word) → IsName s w u → o ≡ array w → IsSource depth s o u
  a_range : IsRange depth s o u → IsSource depth s o u

-- STATEMENTS

-- the branch after `else`, given the rules of blocks and of statements one level deeper
pub data IsElse (IsBlock : Rule Body) (IsStmt : Rule Statement) (s : Place) (b : Body) (u : Place) : Type 0 where
  a_block : IsBlock s b u → IsElse IsBlock IsStmt s b u
  an_if : (x : Statement) (t : Lexeme) (v : Place) → The Kind.If s t v → IsStmt s x u → b ≡ body (first_of s.rest).from (and_statement x no_statements) → IsElse IsBlock IsStmt s b u

-- a statement, given the rules of blocks and of statements one level deeper
pub data IsStmtOver (depth : ℕ) (IsBlock : Rule Body) (IsStmt : Rule Statement) (s : Place) (c : Statement) (u : Place) : Type 0 where
  a_declaration : (x : Declaration × Option RightSide) → (IsDecl depth ⋆ (Maybe (The Kind.Assign ▹ IsRight depth) ◃ The Kind.Semicolon)) s x u
      → c ≡ does s (declare x.0 x.1) u → IsStmtOver depth IsBlock IsStmt s c u
  an_assignment : (x : Word × RightSide) → (IsName ⋆ (The Kind.Assign ▹ (IsRight depth ◃ The Kind.Semicolon))) s x u
      → c ≡ does s (assign x.0 x.1) u → IsStmtOver depth IsBlock IsStmt s c u
  a_write : (x : Word × (Expression × Expression)) → (IsName ⋆ (Square (Deeper IsExpr depth) ⋆ (The Kind.Assign ▹ (IsExpr depth ◃ The Kind.Semicolon)))) s x u
      → c ≡ does s (write x.0 x.1.0 x.1.1) u → IsStmtOver depth IsBlock IsStmt s c u
  many_assigned : (x : List Word × Calling) → (AreNames depth ⋆ (The Kind.Assign ▹ (IsCall depth ◃ The Kind.Semicolon))) s x u
      → c ≡ does s (assign_all x.0 x.1) u → IsStmtOver depth IsBlock IsStmt s c u
  a_call : (x : Option ℤ × Calling) → (Maybe IsPriority ⋆ (IsCall depth ◃ The Kind.Semicolon)) s x u
      → c ≡ does s (calls (or_zero x.0) x.1) u → IsStmtOver depth IsBlock IsStmt s c u
  an_if : (x : Expression × (Body × Option Body)) → (The Kind.If ▹ (Round (Deeper IsExpr depth) ⋆ (IsBlock ⋆ Maybe (The Kind.Else ▹ IsElse IsBlock IsStmt)))) s x u
      → c ≡ does s (choice_of x.0 x.1.0 x.1.1) u → IsStmtOver depth IsBlock IsStmt s c u
  a_foreach : (x : Word × (Option Word × (Over × Body))) → (The Kind.Foreach ▹ (IsName ⋆ (Maybe (The Kind.Comma ▹ IsName) ⋆ (The Kind.In ▹ (IsSource depth ⋆ IsBlock))))) s x u
      → c ≡ does s (loop x.0 x.1.0 x.1.1.0 x.1.1.1) u → IsStmtOver depth IsBlock IsStmt s c u
  a_wait : (x : List Word × Body) → (The Kind.Wait ▹ (AreNames depth ⋆ IsBlock)) s x u
      → c ≡ does s (waits x.0 x.1) u → IsStmtOver depth IsBlock IsStmt s c u

-- "{" { stmt } "}", given the rule of statements in it
abbrev pub IsBlockOver : Rule Statement → Rule Body
IsBlockOver IsStmt = Made (λ s cs u. body (first_of s.rest).from (statements_of cs)) (Curly (Many IsStmt))

-- a statement where the given number of nesting levels is left
unfoldable pub IsStmt : ℕ → Rule Statement
IsStmt zero = IsStmtOver zero Never Never
IsStmt (suc depth) = IsStmtOver (suc depth) (IsBlockOver (IsStmt depth)) (IsStmt depth)

-- a block where the given number of nesting levels is left
abbrev pub IsBlock : ℕ → Rule Body
IsBlock = Deeper (λ d. IsBlockOver (IsStmt d))

-- SCRIPTS

-- "io", "string" or "assert"
pub data IsModule (s : Place) (t : Lexeme) (u : Place) : Type 0 where
  io : The Kind.Name s t u → t.text ≡ 105 ∷ 111 ∷ [] → IsModule s t u
  assert : The Kind.Name s t u → t.text ≡ 97 ∷ 115 ∷ 115 ∷ 101 ∷ 114 ∷ 116 ∷ [] → IsModule s t u
  string : The Kind.String s t u → IsModule s t u

-- an import, a function or a statement
pub data IsPart (depth : ℕ) (s : Place) (p : Part) (u : Place) : Type 0 where
  an_import : (t : Lexeme) → (The Kind.Import ▹ (IsModule ◃ The Kind.Semicolon)) s t u → p ≡ import (first_of s.rest) → IsPart depth s p u
  a_function : (x : List Declaration × (Word × (List Declaration × Body))) → (AreParameters depth ⋆ (IsName ⋆ (AreParameters depth ⋆ IsBlock depth))) s x u
      → p ≡ function (record { node = node s u; outputs = x.0; name = x.1.0; inputs = x.1.1.0; body = x.1.1.1 }) → IsPart depth s p u
  a_statement : (c : Statement) → IsStmt depth s c u → p ≡ single c → IsPart depth s p u

-- the tokens have this tree
abbrev pub IsScript : ℕ → List Lexeme → Tree → Type 0
IsScript depth ts tree = (u : Place) × Many (IsPart depth) (record { before = 0; rest = ts }) tree u × (u.rest ≡ [])
