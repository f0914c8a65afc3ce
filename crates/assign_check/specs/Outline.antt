-- Outlines of a script's blocks: declarations, uses of variables, and statements with nested blocks, in the order of
-- the text.
use Rattle.std.specs.Prelude.{ℕ, ◌+◌, List, [], ◌∷◌, ◌++◌, map, Option, Some, None}
use Rattle.lexer.specs.declared.token.Span.{Span}
use Rattle.language.specs.declared.tree.Shape.{Shape}
use Rattle.language.specs.declared.tree.Shape.TheVariants.{Scalar, Array}
use Rattle.language.specs.Core.{Owned, local, input, output}
use Rattle.language.specs.Table.{Table}
use Rattle.language.specs.Tree as T
use Rattle.language.specs.Tree.{Word, Node, Expression, expression, number, text, truth, variable, element, call, prefixed, chain, Expressions, no_expressions, and_expression, expressions_of, Declaration, RightSide, value, list, Calling, Over, array, range, Statement, statement, Command, declare, assign, write, assign_all, calls, choice, choice_else, loop, waits, Body, body, Statements, no_statements, and_statement, Composite, Tree, import, function, single}

-- an assignment of a variable by its name, a write of an element, or a read of a scalar by its name
pub data Kind : Type 0 where
  named written read : Kind

pub record Use : Type 0 where
  pub kind : Kind
  pub of : Owned
  pub span : Span

-- a variable that a statement declares, an output, or one that counts as assigned whole at its declaration: an input or
-- a loop variable
pub data Role : Type 0 where
  own result given : Role

pub record Declared : Type 0 where
  pub what : Owned
  pub shape : Shape
  pub role : Role
  pub span : Span

-- a block, as a list of steps: a declaration, a use, an `if` with its number and both branches, a loop with its number
-- and its body, or the block of a `wait`
mutual
  pub data Outline : Type 0 where
    nothing : Outline
    followed : Step → Outline → Outline

  pub data Step : Type 0 where
    declares : Declared → Step
    uses : Use → Step
    splits : (number : ℕ) → (at : Span) → (first other : Outline) → Step
    repeats : (number : ℕ) → Outline → Step
    encloses : Outline → Step

-- a list of steps as a block
abbrev pub outlined : List Step → Outline
outlined [] = nothing
outlined (s ∷ ss) = followed s (outlined ss)

-- NAMES

abbrev pub use_of : Table → Kind → Word → Step
use_of t k w = uses (record { kind = k; of = (t.name_of w.number).what; span = w.span })

-- the name of an array by itself is not a read of a scalar
abbrev pub reading : Shape → Table → Word → List Step
reading Scalar t w = use_of t read w ∷ []
reading (Array κ) t w = []

abbrev pub name_read : Table → Word → List Step
name_read t w = reading (t.shape_of w.number) t w

-- EXPRESSIONS

abbrev mutual
  pub read_in : Table → Expression → List Step
  read_in t (expression nd f) = read_form t f

  pub read_form : Table → T.Form → List Step
  read_form t (number z) = []
  read_form t (text bytes) = []
  read_form t (truth b) = []
  read_form t (variable w) = name_read t w
  read_form t (element w i) = read_in t i
  read_form t (call w es) = read_all t es
  read_form t (prefixed p e) = read_in t e
  read_form t (chain os es) = read_all t es

  pub read_all : Table → Expressions → List Step
  read_all t no_expressions = []
  read_all t (and_expression e es) = read_in t e ++ read_all t es

-- STATEMENTS

abbrev pub read_right : Table → RightSide → List Step
read_right t (value e) = read_in t e
read_right t (list nd es) = read_all t (expressions_of es)

abbrev pub read_step : Table → Option Expression → List Step
read_step t None = []
read_step t (Some e) = read_in t e

abbrev pub read_over : Table → Over → List Step
read_over t (array w) = []
read_over t (range low high step) = read_in t low ++ read_in t high ++ read_step t step

abbrev pub read_names : Table → List Word → List Step
read_names t [] = []
read_names t (w ∷ ws) = name_read t w ++ read_names t ws

abbrev pub read_calling : Table → Calling → List Step
read_calling t c = read_all t (expressions_of c.arguments)

abbrev pub declared_as : Role → Owned → Declaration → Step
declared_as r x d = declares (record { what = x; shape = d.shape; role = r; span = d.name.span })

-- a declaration with a right side assigns the variable whole
abbrev pub declaration_steps : Table → Declaration → Option RightSide → List Step
declaration_steps t d None = declared_as own (local d.name.number) d ∷ []
declaration_steps t d (Some r) =
    declared_as own (local d.name.number) d ∷ uses (record { kind = named; of = local d.name.number; span = d.name.span }) ∷ read_right t r

abbrev pub loop_variable : Word → Step
loop_variable w = declares (record { what = local w.number; shape = Scalar; role = given; span = w.span })

abbrev pub key_variable : Option Word → List Step
key_variable None = []
key_variable (Some k) = loop_variable k ∷ []

abbrev mutual
  pub steps_of : Table → Statement → List Step
  steps_of t (statement nd c) = command_steps t nd c

  pub command_steps : Table → Node → Command → List Step
  command_steps t nd (declare d r) = declaration_steps t d r
  command_steps t nd (assign w r) = use_of t named w ∷ read_right t r
  command_steps t nd (write w i e) = use_of t written w ∷ (read_in t i ++ read_in t e)
  command_steps t nd (assign_all ws c) = map (use_of t named) ws ++ read_calling t c
  command_steps t nd (calls p c) = read_calling t c
  command_steps t nd (choice e b) = read_in t e ++ splits nd.number nd.first (outlined (body_steps t b)) nothing ∷ []
  command_steps t nd (choice_else e b d) = read_in t e ++ splits nd.number nd.first (outlined (body_steps t b)) (outlined (body_steps t d)) ∷ []
  command_steps t nd (loop v k o b) = read_over t o ++ repeats nd.number (outlined (loop_variable v ∷ (key_variable k ++ body_steps t b))) ∷ []
  command_steps t nd (waits ws b) = read_names t ws ++ encloses (outlined (body_steps t b)) ∷ []

  pub body_steps : Table → Body → List Step
  body_steps t (body from ss) = all_steps t ss

  pub all_steps : Table → Statements → List Step
  all_steps t no_statements = []
  all_steps t (and_statement s ss) = steps_of t s ++ all_steps t ss

-- SCRIPTS

-- outputs or inputs, each with its position
abbrev pub parameters : Role → (ℕ → Owned) → ℕ → List Declaration → List Step
parameters r owned i [] = []
parameters r owned i (d ∷ ds) = declared_as r (owned i) d ∷ parameters r owned (i + 1) ds

-- the body of a function, after its outputs and inputs
abbrev pub function_steps : Table → Composite → List Step
function_steps t f = parameters result output 0 f.outputs ++ parameters given input 0 f.inputs ++ body_steps t f.body

-- the script's own block
abbrev pub script_steps : Table → Tree → List Step
script_steps t [] = []
script_steps t (import sp ∷ ps) = script_steps t ps
script_steps t (function f ∷ ps) = script_steps t ps
script_steps t (single s ∷ ps) = steps_of t s ++ script_steps t ps

abbrev pub function_outlines : Table → Tree → List Outline
function_outlines t [] = []
function_outlines t (import sp ∷ ps) = function_outlines t ps
function_outlines t (function f ∷ ps) = outlined (function_steps t f) ∷ function_outlines t ps
function_outlines t (single s ∷ ps) = function_outlines t ps

-- the outlines of a script: that of its own block, and those of its functions' bodies
abbrev pub outlines : Table → Tree → List Outline
outlines t tree = outlined (script_steps t tree) ∷ function_outlines t tree
