-- The syntax tree of a script, independent of memory. States docs/LANGUAGE.md: Grammar.
use Rattle.std.specs.Prelude.{ℕ, ℤ, Bool, List, [], ◌∷◌, Option, None, Some}
use Rattle.lexer.specs.declared.token.Span.{Span}
use Rattle.language.specs.declared.tree.Operator.{Operator}
use Rattle.language.specs.declared.tree.Prefix.{Prefix}
use Rattle.language.specs.declared.tree.Base.{Base}
use Rattle.language.specs.declared.tree.Shape.{Shape}

-- a name where it is used, declared or called
pub record Word : Type 0 where
  pub number : ℕ
  pub span : Span
  pub text : List ℕ

-- a node: its number, its first token, and its end
pub record Node : Type 0 where
  pub number : ℕ
  pub first : Span
  pub to : ℕ

-- an expression: a node with a form; a chain has operators between its operands
mutual
  pub data Expression : Type 0 where
    expression : Node → Form → Expression

  pub data Form : Type 0 where
    number : ℤ → Form
    text : List ℕ → Form
    truth : Bool → Form
    variable : Word → Form
    element : Word → Expression → Form
    call : Word → Expressions → Form
    prefixed : Prefix → Expression → Form
    chain : List Operator → Expressions → Form

  pub data Expressions : Type 0 where
    no_expressions : Expressions
    and_expression : Expression → Expressions → Expressions

-- a list of expressions as part of a form
abbrev pub expressions_of : List Expression → Expressions
expressions_of [] = no_expressions
expressions_of (e ∷ es) = and_expression e (expressions_of es)

-- a declared variable
pub record Declaration : Type 0 where
  pub base : Base
  pub name : Word
  pub shape : Shape

-- the right side of a declaration or an assignment: a value, or an array literal
pub data RightSide : Type 0 where
  value : Expression → RightSide
  list : Node → List Expression → RightSide

-- a call outside expressions
pub record Calling : Type 0 where
  pub node : Node
  pub name : Word
  pub arguments : List Expression

-- the source of a loop
pub data Over : Type 0 where
  array : Word → Over
  range : (low high : Expression) → (step : Option Expression) → Over

-- a statement: a node with a form
mutual
  pub data Statement : Type 0 where
    statement : Node → Command → Statement

  pub data Command : Type 0 where
    declare : Declaration → Option RightSide → Command
    assign : Word → RightSide → Command
    write : Word → (index right : Expression) → Command
    assign_all : List Word → Calling → Command
    calls : (priority : ℤ) → Calling → Command
    choice : Expression → Body → Command
    choice_else : Expression → Body → Body → Command
    loop : Word → Option Word → Over → Body → Command
    waits : List Word → Body → Command

  -- statements, with the offset of their opening brace
  pub data Body : Type 0 where
    body : ℕ → Statements → Body

  pub data Statements : Type 0 where
    no_statements : Statements
    and_statement : Statement → Statements → Statements

-- a list of statements as part of a body
abbrev pub statements_of : List Statement → Statements
statements_of [] = no_statements
statements_of (s ∷ ss) = and_statement s (statements_of ss)

-- a composite function
pub record Composite : Type 0 where
  pub node : Node
  pub outputs : List Declaration
  pub name : Word
  pub inputs : List Declaration
  pub body : Body

-- a part of a script: an import at its place, a function or a statement
pub data Part : Type 0 where
  import : Span → Part
  function : Composite → Part
  single : Statement → Part

-- a script: its parts in order
abbrev pub Tree : Type 0
Tree = List Part

-- an `if` with or without `else`
abbrev pub choice_of : Expression → Body → Option Body → Command
choice_of e b None = choice e b
choice_of e b (Some other) = choice_else e b other
