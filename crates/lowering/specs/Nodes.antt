-- The nodes of a tree that can be those of cells: its expressions, its array literals, and its calls outside
-- expressions, each by its number with the offset of its first token, in reading order.
use Rattle.std.specs.Prelude.{List, [], ◌∷◌, ◌++◌, Option, None, Some}
use Rattle.std.specs.List.{flat_map}
use Rattle.language.specs.Tree as T
use Rattle.language.specs.Tree.{Node, Expression, expression, number, text, truth, variable, element, call, prefixed, chain, Expressions, no_expressions, and_expression, expressions_of, RightSide, value, list, Calling, Over, Statement, statement, statements_of, Command, choice, choice_else, loop, waits, Body, body, Statements, no_statements, and_statement, Composite, Tree, import, function, single}
use Rattle.flow.specs.declared.cell.CellPart.{CellPart}
use Rattle.flow.specs.declared.statement.Statement.{Statement as Found}
use Rattle.flow.specs.Cells.{Anchor, AnchorsGrow, parts_anchors, statement_anchors}

abbrev pub node_anchor : Node → Anchor
node_anchor nd = record { node = nd.number; at = nd.first.from }

-- an expression and its nested expressions
abbrev mutual
  pub expression_nodes : Expression → List Anchor
  expression_nodes (expression nd f) = node_anchor nd ∷ form_nodes f

  pub form_nodes : T.Form → List Anchor
  form_nodes (number z) = []
  form_nodes (text bytes) = []
  form_nodes (truth b) = []
  form_nodes (variable w) = []
  form_nodes (element w e) = expression_nodes e
  form_nodes (call w es) = expressions_nodes es
  form_nodes (prefixed p e) = expression_nodes e
  form_nodes (chain os es) = expressions_nodes es

  pub expressions_nodes : Expressions → List Anchor
  expressions_nodes no_expressions = []
  expressions_nodes (and_expression e es) = expression_nodes e ++ expressions_nodes es

abbrev pub all_nodes : List Expression → List Anchor
all_nodes es = expressions_nodes (expressions_of es)

abbrev pub right_nodes : RightSide → List Anchor
right_nodes (value e) = expression_nodes e
right_nodes (list nd es) = node_anchor nd ∷ all_nodes es

-- the nodes of an optional part
abbrev pub maybe_nodes : {X : Type 0} → (X → List Anchor) → Option X → List Anchor
maybe_nodes f None = []
maybe_nodes f (Some x) = f x

abbrev pub calling_nodes : Calling → List Anchor
calling_nodes c = node_anchor c.node ∷ all_nodes c.arguments

abbrev pub over_nodes : Over → List Anchor
over_nodes (T.array w) = []
over_nodes (T.range low high step) = expression_nodes low ++ expression_nodes high ++ maybe_nodes expression_nodes step

-- the nodes of a statement and of its nested blocks
abbrev mutual
  pub statement_nodes : Statement → List Anchor
  statement_nodes (statement nd c) = command_nodes c

  pub command_nodes : Command → List Anchor
  command_nodes (T.declare d r) = maybe_nodes right_nodes r
  command_nodes (T.assign w r) = right_nodes r
  command_nodes (T.write w i e) = expression_nodes i ++ expression_nodes e
  command_nodes (T.assign_all ws c) = calling_nodes c
  command_nodes (T.calls p c) = calling_nodes c
  command_nodes (choice e b) = expression_nodes e ++ body_nodes b
  command_nodes (choice_else e b other) = expression_nodes e ++ body_nodes b ++ body_nodes other
  command_nodes (loop v k o b) = over_nodes o ++ body_nodes b
  command_nodes (waits ws b) = body_nodes b

  pub body_nodes : Body → List Anchor
  body_nodes (body from ss) = statements_nodes ss

  pub statements_nodes : Statements → List Anchor
  statements_nodes no_statements = []
  statements_nodes (and_statement s ss) = statement_nodes s ++ statements_nodes ss

-- the nodes of statements of a tree, one after another
abbrev pub nodes_among : List Statement → List Anchor
nodes_among ss = statements_nodes (statements_of ss)

-- the nodes of a script outside functions, and those of its functions
abbrev pub own_nodes : Tree → List Anchor
own_nodes [] = []
own_nodes (import sp ∷ ps) = own_nodes ps
own_nodes (function f ∷ ps) = own_nodes ps
own_nodes (single s ∷ ps) = statement_nodes s ++ own_nodes ps

abbrev pub function_nodes : Tree → List Anchor
function_nodes [] = []
function_nodes (import sp ∷ ps) = function_nodes ps
function_nodes (function f ∷ ps) = body_nodes f.body ++ function_nodes ps
function_nodes (single s ∷ ps) = function_nodes ps

abbrev pub nodes_of : Tree → List Anchor
nodes_of ps = own_nodes ps ++ function_nodes ps

-- RESULTS OF LOWERING

-- the cells among the appended parts have these nodes and offsets
abbrev pub PartsStand : {A : Type 0} → List (CellPart A) → List (CellPart A) → List Anchor → Type 0
PartsStand old new nodes = AnchorsGrow (parts_anchors old) (parts_anchors new) nodes

-- the cells of the appended statements have these nodes and offsets
abbrev pub StatementsStand : {A : Type 0} → List (Found A) → List (Found A) → List Anchor → Type 0
StatementsStand old new nodes = AnchorsGrow (flat_map statement_anchors old) (flat_map statement_anchors new) nodes
