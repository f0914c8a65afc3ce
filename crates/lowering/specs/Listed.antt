-- What a listing shows of a script beside its core, computed from its tree, in the terms of `flow_listed/specs/Listed`.
use Rattle.std.specs.Prelude.{List, [], ◌∷◌, ◌++◌, map, Option, None, Some, option_map}
use Rattle.language.specs.declared.tree.Shape.{Shape}
use Rattle.language.specs.Tree as T
use Rattle.language.specs.Tree.{RightSide, Statement, statement, statements_of, Command, Body, body, Statements, no_statements, and_statement, Composite, Tree, import, function, single}
use Rattle.flow.specs.declared.statement.Statement.{Statement as Found}
use Rattle.flow.specs.Listed.{Shown, declares, Listed, other, block_of, whole, waiting, looping, function_of, statement_listed}
use Rattle.lowering.specs.View.{as_declared, variable_of}

-- what a listing shows of statements of a flow
abbrev pub listed_by : {A : Type 0} → List (Found A) → List Listed
listed_by ss = map statement_listed ss

-- a declaration with a right side is two statements
abbrev pub right_listed : Option RightSide → List Listed
right_listed None = []
right_listed (Some r) = other [] ∷ []

abbrev mutual
  pub listed : Statement → List Listed
  listed (statement nd c) = command_listed c

  pub command_listed : Command → List Listed
  command_listed (T.declare d r) = other (declares (variable_of d) ∷ []) ∷ right_listed r
  command_listed (T.choice e b) = other (whole (body_listed b)) ∷ []
  command_listed (T.choice_else e b d) = other (whole (body_listed b) ++ whole (body_listed d)) ∷ []
  command_listed (T.loop v k o b) = looping (as_declared Shape.Scalar v) (option_map (as_declared Shape.Scalar) k) (body_listed b) ∷ []
  command_listed (T.waits ws b) = waiting (body_listed b) ∷ []
  command_listed (T.assign w r) = other [] ∷ []
  command_listed (T.write w i e) = other [] ∷ []
  command_listed (T.assign_all ws c) = other [] ∷ []
  command_listed (T.calls p c) = other [] ∷ []

  pub body_listed : Body → Listed
  body_listed (body from ss) = block_of from (statements_listed ss)

  pub statements_listed : Statements → List Listed
  statements_listed no_statements = []
  statements_listed (and_statement s ss) = listed s ++ statements_listed ss

-- the statements of a tree, one after another
abbrev pub all_listed : List Statement → List Listed
all_listed ss = statements_listed (statements_of ss)

-- the statements of a script outside functions
abbrev pub own_listed : Tree → List Listed
own_listed [] = []
own_listed (import sp ∷ ps) = own_listed ps
own_listed (function f ∷ ps) = own_listed ps
own_listed (single s ∷ ps) = listed s ++ own_listed ps

-- the functions of a script
abbrev pub composite_shown : Composite → List Shown
composite_shown f = function_of f.name.span.from f.name.text (map variable_of f.inputs) (map variable_of f.outputs) (body_listed f.body)

abbrev pub composites_shown : Tree → List Shown
composites_shown [] = []
composites_shown (import sp ∷ ps) = composites_shown ps
composites_shown (function f ∷ ps) = composite_shown f ++ composites_shown ps
composites_shown (single s ∷ ps) = composites_shown ps

-- what a listing shows of a script; its own block is at offset 0
abbrev pub shown : Tree → List Shown
shown ps = whole (block_of 0 (own_listed ps)) ++ composites_shown ps
