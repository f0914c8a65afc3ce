-- The offsets of the called names and the headers of a tree.
use Rattle.std.specs.Prelude.{ℕ, List, [], ◌∷◌, ◌++◌, Option, Some, None}
use Rattle.language.specs.Tree as T
use Rattle.language.specs.Tree.{Word, Node, Declaration, Expression, expression, number, text, truth, variable, element, call, prefixed, chain, Expressions, no_expressions, and_expression, expressions_of, RightSide, value, list, Calling, Over, Statement, statement, Command, choice, choice_else, loop, waits, Body, body, Statements, no_statements, and_statement, Tree, import, function, single}

-- the numbers of an optional part
abbrev pub maybe_numbers : {X : Type 0} → (X → List ℕ) → Option X → List ℕ
maybe_numbers f None = []
maybe_numbers f (Some x) = f x

-- the offsets of called names, in reading order
abbrev mutual
  pub expression_offsets : Expression → List ℕ
  expression_offsets (expression nd f) = form_offsets f

  pub form_offsets : T.Form → List ℕ
  form_offsets (number z) = []
  form_offsets (text bytes) = []
  form_offsets (truth b) = []
  form_offsets (variable w) = []
  form_offsets (element w e) = expression_offsets e
  form_offsets (call w es) = w.span.from ∷ expressions_offsets es
  form_offsets (prefixed p e) = expression_offsets e
  form_offsets (chain os es) = expressions_offsets es

  pub expressions_offsets : Expressions → List ℕ
  expressions_offsets no_expressions = []
  expressions_offsets (and_expression e es) = expression_offsets e ++ expressions_offsets es

abbrev pub right_offsets : RightSide → List ℕ
right_offsets (value e) = expression_offsets e
right_offsets (list nd es) = expressions_offsets (expressions_of es)

abbrev pub calling_offsets : Calling → List ℕ
calling_offsets c = c.name.span.from ∷ expressions_offsets (expressions_of c.arguments)

abbrev pub over_offsets : Over → List ℕ
over_offsets (T.array w) = []
over_offsets (T.range low high step) = expression_offsets low ++ (expression_offsets high ++ maybe_numbers expression_offsets step)

-- the offset of an `if` or a `foreach`
abbrev pub header_offsets : ℕ → Command → List ℕ
header_offsets at (choice e b) = at ∷ []
header_offsets at (choice_else e b other) = at ∷ []
header_offsets at (loop v k o b) = at ∷ []
header_offsets at _ = []

abbrev mutual
  pub statement_offsets : Statement → List ℕ
  statement_offsets (statement nd c) = header_offsets nd.first.from c ++ command_offsets c

  pub command_offsets : Command → List ℕ
  command_offsets (T.declare d r) = maybe_numbers right_offsets r
  command_offsets (T.assign w r) = right_offsets r
  command_offsets (T.write w i e) = expression_offsets i ++ expression_offsets e
  command_offsets (T.assign_all ws c) = calling_offsets c
  command_offsets (T.calls p c) = calling_offsets c
  command_offsets (choice e b) = expression_offsets e ++ body_offsets b
  command_offsets (choice_else e b other) = expression_offsets e ++ (body_offsets b ++ body_offsets other)
  command_offsets (loop v k o b) = over_offsets o ++ body_offsets b
  command_offsets (waits ws b) = body_offsets b

  pub body_offsets : Body → List ℕ
  body_offsets (body from ss) = statements_offsets ss

  pub statements_offsets : Statements → List ℕ
  statements_offsets no_statements = []
  statements_offsets (and_statement s ss) = statement_offsets s ++ statements_offsets ss

-- the offsets of the called names and of the headers of a tree, in reading order
abbrev pub tree_offsets : Tree → List ℕ
tree_offsets [] = []
tree_offsets (import sp ∷ ps) = tree_offsets ps
tree_offsets (function f ∷ ps) = body_offsets f.body ++ tree_offsets ps
tree_offsets (single s ∷ ps) = statement_offsets s ++ tree_offsets ps
