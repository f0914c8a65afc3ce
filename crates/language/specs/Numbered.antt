-- A tree with its numbers in reading order: each node before its parts, and each name. Blocks and imports have none.
-- States docs/LANGUAGE.md: Grammar.
use Rattle.std.specs.Prelude.{ℕ, ◌+◌, List, [], ◌∷◌, Option, Some, None, option_map, sum_by}
use Rattle.language.specs.Tree.{Word, Node, Expression, expression, Form, number, text, truth, variable, element, call, prefixed, chain, Expressions, no_expressions, and_expression, Declaration, RightSide, value, list, Calling, Over, array, range, Statement, statement, Statements, no_statements, and_statement, Command, declare, assign, write, assign_all, calls, choice, choice_else, loop, waits, Body, body, Composite, Part, import, function, single, Tree}

-- SIZES: the count of numbers that a value takes

-- an expression: its node, and its parts
abbrev mutual
  pub expression_size : Expression → ℕ
  expression_size (expression node f) = 1 + form_size f

  pub form_size : Form → ℕ
  form_size (number z) = 0
  form_size (text t) = 0
  form_size (truth b) = 0
  form_size (variable w) = 1
  form_size (element w e) = 1 + expression_size e
  form_size (call w es) = 1 + expressions_size es
  form_size (prefixed p e) = expression_size e
  form_size (chain os es) = expressions_size es

  pub expressions_size : Expressions → ℕ
  expressions_size no_expressions = 0
  expressions_size (and_expression e es) = expression_size e + expressions_size es

-- a name
abbrev pub word_size : Word → ℕ
word_size w = 1

-- a declaration: its name
abbrev pub declaration_size : Declaration → ℕ
declaration_size d = 1

-- a right side: its expression, or the literal and its elements
abbrev pub right_size : RightSide → ℕ
right_size (value e) = expression_size e
right_size (list node es) = 1 + sum_by expression_size es

-- a call outside expressions: its node, its name and its arguments
abbrev pub calling_size : Calling → ℕ
calling_size c = 1 + 1 + sum_by expression_size c.arguments

-- an absent value takes no number
abbrev pub option_size : {X : Type 0} → (X → ℕ) → Option X → ℕ
option_size size None = 0
option_size size (Some x) = size x

-- the source of a loop: a name, or a range's ends and its step
abbrev pub over_size : Over → ℕ
over_size (array w) = 1
over_size (range low high step) = expression_size low + expression_size high + option_size expression_size step

-- a statement: its node, and its parts
abbrev mutual
  pub statement_size : Statement → ℕ
  statement_size (statement node c) = 1 + command_size c

  pub command_size : Command → ℕ
  command_size (declare d r) = 1 + option_size right_size r
  command_size (assign w r) = 1 + right_size r
  command_size (write w i e) = 1 + expression_size i + expression_size e
  command_size (assign_all ws c) = sum_by word_size ws + calling_size c
  command_size (calls p c) = calling_size c
  command_size (choice e b) = expression_size e + body_size b
  command_size (choice_else e b other) = expression_size e + body_size b + body_size other
  command_size (loop w k o b) = 1 + option_size word_size k + over_size o + body_size b
  command_size (waits ws b) = sum_by word_size ws + body_size b

  pub body_size : Body → ℕ
  body_size (body from ss) = statements_size ss

  pub statements_size : Statements → ℕ
  statements_size no_statements = 0
  statements_size (and_statement s ss) = statement_size s + statements_size ss

-- a function: its node, its outputs, its name, its inputs and its body
abbrev pub composite_size : Composite → ℕ
composite_size f = 1 + sum_by declaration_size f.outputs + 1 + sum_by declaration_size f.inputs + body_size f.body

-- a part of a script
abbrev pub part_size : Part → ℕ
part_size (import s) = 0
part_size (function f) = composite_size f
part_size (single s) = statement_size s

-- a script
abbrev pub tree_size : Tree → ℕ
tree_size t = sum_by part_size t

-- NUMBERED: the same value with its numbers in reading order from n on

-- a name
abbrev pub numbered_word : ℕ → Word → Word
numbered_word n w = record { number = n; span = w.span; text = w.text }

-- a node
abbrev pub numbered_node : ℕ → Node → Node
numbered_node n node = record { number = n; first = node.first; to = node.to }

-- a list: each element from the next number after those of the previous one
abbrev pub numbered_each : {X : Type 0} → (ℕ → X → X) → (X → ℕ) → ℕ → List X → List X
numbered_each numbered size n [] = []
numbered_each numbered size n (x ∷ xs) = numbered n x ∷ numbered_each numbered size (n + size x) xs

-- an expression: its node, then its parts
abbrev mutual
  pub numbered_expression : ℕ → Expression → Expression
  numbered_expression n (expression node f) = expression (numbered_node n node) (numbered_form (n + 1) f)

  pub numbered_form : ℕ → Form → Form
  numbered_form n (number z) = number z
  numbered_form n (text t) = text t
  numbered_form n (truth b) = truth b
  numbered_form n (variable w) = variable (numbered_word n w)
  numbered_form n (element w e) = element (numbered_word n w) (numbered_expression (n + 1) e)
  numbered_form n (call w es) = call (numbered_word n w) (numbered_expressions (n + 1) es)
  numbered_form n (prefixed p e) = prefixed p (numbered_expression n e)
  numbered_form n (chain os es) = chain os (numbered_expressions n es)

  pub numbered_expressions : ℕ → Expressions → Expressions
  numbered_expressions n no_expressions = no_expressions
  numbered_expressions n (and_expression e es) = and_expression (numbered_expression n e) (numbered_expressions (n + expression_size e) es)

-- a declaration
abbrev pub numbered_declaration : ℕ → Declaration → Declaration
numbered_declaration n d = record { base = d.base; name = numbered_word n d.name; shape = d.shape }

-- a right side
abbrev pub numbered_right : ℕ → RightSide → RightSide
numbered_right n (value e) = value (numbered_expression n e)
numbered_right n (list node es) = list (numbered_node n node) (numbered_each numbered_expression expression_size (n + 1) es)

-- a call outside expressions
abbrev pub numbered_calling : ℕ → Calling → Calling
numbered_calling n c = record {
  node = numbered_node n c.node;
  name = numbered_word (n + 1) c.name;
  arguments = numbered_each numbered_expression expression_size (n + 1 + 1) c.arguments;
}

-- the source of a loop
abbrev pub numbered_over : ℕ → Over → Over
numbered_over n (array w) = array (numbered_word n w)
numbered_over n (range low high step) =
    range (numbered_expression n low)
    (numbered_expression (n + expression_size low) high)
    (option_map (numbered_expression (n + expression_size low + expression_size high)) step)

-- a statement: its node, then its parts
abbrev mutual
  pub numbered_statement : ℕ → Statement → Statement
  numbered_statement n (statement node c) = statement (numbered_node n node) (numbered_command (n + 1) c)

  pub numbered_command : ℕ → Command → Command
  numbered_command n (declare d r) = declare (numbered_declaration n d) (option_map (numbered_right (n + 1)) r)
  numbered_command n (assign w r) = assign (numbered_word n w) (numbered_right (n + 1) r)
  numbered_command n (write w i e) = write (numbered_word n w) (numbered_expression (n + 1) i) (numbered_expression (n + 1 + expression_size i) e)
  numbered_command n (assign_all ws c) = assign_all (numbered_each numbered_word word_size n ws) (numbered_calling (n + sum_by word_size ws) c)
  numbered_command n (calls p c) = calls p (numbered_calling n c)
  numbered_command n (choice e b) = choice (numbered_expression n e) (numbered_body (n + expression_size e) b)
  numbered_command n (choice_else e b other) =
      choice_else (numbered_expression n e) (numbered_body (n + expression_size e) b) (numbered_body (n + expression_size e + body_size b) other)
  numbered_command n (loop w k o b) =
      loop (numbered_word n w)
      (option_map (numbered_word (n + 1)) k)
      (numbered_over (n + 1 + option_size word_size k) o)
      (numbered_body (n + 1 + option_size word_size k + over_size o) b)
  numbered_command n (waits ws b) = waits (numbered_each numbered_word word_size n ws) (numbered_body (n + sum_by word_size ws) b)

  pub numbered_body : ℕ → Body → Body
  numbered_body n (body from ss) = body from (numbered_statements n ss)

  pub numbered_statements : ℕ → Statements → Statements
  numbered_statements n no_statements = no_statements
  numbered_statements n (and_statement s ss) = and_statement (numbered_statement n s) (numbered_statements (n + statement_size s) ss)

-- a function
abbrev pub numbered_composite : ℕ → Composite → Composite
numbered_composite n f = record {
  node = numbered_node n f.node;
  outputs = numbered_each numbered_declaration declaration_size (n + 1) f.outputs;
  name = numbered_word (n + 1 + sum_by declaration_size f.outputs) f.name;
  inputs = numbered_each numbered_declaration declaration_size (n + 1 + sum_by declaration_size f.outputs + 1) f.inputs;
  body = numbered_body (n + 1 + sum_by declaration_size f.outputs + 1 + sum_by declaration_size f.inputs) f.body;
}

-- a part of a script: imports have no number
abbrev pub numbered_part : ℕ → Part → Part
numbered_part n (import s) = import s
numbered_part n (function f) = function (numbered_composite n f)
numbered_part n (single s) = single (numbered_statement n s)

-- a script
abbrev pub numbered : ℕ → Tree → Tree
numbered n t = numbered_each numbered_part part_size n t
