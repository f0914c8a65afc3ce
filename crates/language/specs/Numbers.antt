-- All numbers of a value, in reading order.
use Rattle.std.specs.Prelude.{ℕ, zero, suc, ◌+◌, List, [], ◌∷◌, ◌++◌, Option, Some, None}
use Rattle.std.specs.List.{flat_map}
use Rattle.language.specs.Tree.{Word, Expression, expression, Form, number, text, truth, variable, element, call, prefixed, chain, Expressions, no_expressions, and_expression, Declaration, RightSide, value, list, Calling, Over, array, range, Statement, statement, Statements, no_statements, and_statement, Command, declare, assign, write, assign_all, calls, choice, choice_else, loop, waits, Body, body, Composite, Part, import, function, single, Tree}

-- an expression
abbrev mutual
  pub expression_numbers : Expression → List ℕ
  expression_numbers (expression node f) = node.number ∷ form_numbers f

  pub form_numbers : Form → List ℕ
  form_numbers (number z) = []
  form_numbers (text t) = []
  form_numbers (truth b) = []
  form_numbers (variable w) = w.number ∷ []
  form_numbers (element w e) = w.number ∷ expression_numbers e
  form_numbers (call w es) = w.number ∷ expressions_numbers es
  form_numbers (prefixed p e) = expression_numbers e
  form_numbers (chain os es) = expressions_numbers es

  pub expressions_numbers : Expressions → List ℕ
  expressions_numbers no_expressions = []
  expressions_numbers (and_expression e es) = expression_numbers e ++ expressions_numbers es

-- a name
abbrev pub word_numbers : Word → List ℕ
word_numbers w = w.number ∷ []

-- a declaration
abbrev pub declaration_numbers : Declaration → List ℕ
declaration_numbers d = d.name.number ∷ []

-- a right side
abbrev pub right_numbers : RightSide → List ℕ
right_numbers (value e) = expression_numbers e
right_numbers (list node es) = node.number ∷ flat_map expression_numbers es

-- a call outside expressions
abbrev pub calling_numbers : Calling → List ℕ
calling_numbers c = c.node.number ∷ c.name.number ∷ flat_map expression_numbers c.arguments

-- an absent value has none
abbrev pub option_numbers : {X : Type 0} → (X → List ℕ) → Option X → List ℕ
option_numbers numbers None = []
option_numbers numbers (Some x) = numbers x

-- the source of a loop
abbrev pub over_numbers : Over → List ℕ
over_numbers (array w) = w.number ∷ []
over_numbers (range low high step) = expression_numbers low ++ expression_numbers high ++ option_numbers expression_numbers step

-- a statement
abbrev mutual
  pub statement_numbers : Statement → List ℕ
  statement_numbers (statement node c) = node.number ∷ command_numbers c

  pub command_numbers : Command → List ℕ
  command_numbers (declare d r) = declaration_numbers d ++ option_numbers right_numbers r
  command_numbers (assign w r) = w.number ∷ right_numbers r
  command_numbers (write w i e) = w.number ∷ expression_numbers i ++ expression_numbers e
  command_numbers (assign_all ws c) = flat_map word_numbers ws ++ calling_numbers c
  command_numbers (calls p c) = calling_numbers c
  command_numbers (choice e b) = expression_numbers e ++ body_numbers b
  command_numbers (choice_else e b other) = expression_numbers e ++ body_numbers b ++ body_numbers other
  command_numbers (loop w k o b) = w.number ∷ option_numbers word_numbers k ++ over_numbers o ++ body_numbers b
  command_numbers (waits ws b) = flat_map word_numbers ws ++ body_numbers b

  pub body_numbers : Body → List ℕ
  body_numbers (body from ss) = statements_numbers ss

  pub statements_numbers : Statements → List ℕ
  statements_numbers no_statements = []
  statements_numbers (and_statement s ss) = statement_numbers s ++ statements_numbers ss

-- a function
abbrev pub composite_numbers : Composite → List ℕ
composite_numbers f = f.node.number ∷ flat_map declaration_numbers f.outputs ++ f.name.number ∷ flat_map declaration_numbers f.inputs ++ body_numbers f.body

-- a part of a script
abbrev pub part_numbers : Part → List ℕ
part_numbers (import s) = []
part_numbers (function f) = composite_numbers f
part_numbers (single s) = statement_numbers s

-- a script
abbrev pub numbers : Tree → List ℕ
numbers t = flat_map part_numbers t

-- a count of numbers: n, n + 1, n + 2 ..
abbrev pub numbers_from : ℕ → ℕ → List ℕ
numbers_from n zero = []
numbers_from n (suc many) = n ∷ numbers_from (n + 1) many
