-- Which variables of a flow are arrays, by the declarations of its script.
use Rattle.std.specs.Prelude.{ℕ, Bool, List, [], ◌∷◌, ◌++◌, map}
use Rattle.language.specs.Scopes.{Typ, Signature}
use Rattle.language.specs.Tree.{Declaration, Statement, statements_of, Tree, import, function, single}
use Rattle.language_accepted.specs.Types.{statement_declarations, statements_declarations, body_declarations}
use Rattle.flow.specs.declared.statement.Statement.{Statement as Found}
use Rattle.flow.specs.Shapes.{Declared, is_array, together, statement_declared}

-- the variables of declarations
abbrev pub flagged : List Declaration → Declared
flagged ds = map (λ d. (d.name.number, is_array d.shape)) ds

-- the declarations of statements of a flow
abbrev pub declared_by : {A : Type 0} → List (Found A) → Declared
declared_by ss = together (map statement_declared ss)

-- the declarations of statements of a tree
abbrev pub among : List Statement → List Declaration
among ss = statements_declarations (statements_of ss)

-- the declarations of a script outside functions, and those of its functions
abbrev pub own_declarations : Tree → List Declaration
own_declarations [] = []
own_declarations (import sp ∷ ps) = own_declarations ps
own_declarations (function f ∷ ps) = own_declarations ps
own_declarations (single s ∷ ps) = statement_declarations s ++ own_declarations ps

abbrev pub function_declarations : Tree → List Declaration
function_declarations [] = []
function_declarations (import sp ∷ ps) = function_declarations ps
function_declarations (function f ∷ ps) = body_declarations f.body ++ function_declarations ps
function_declarations (single s ∷ ps) = function_declarations ps

-- which inputs and which outputs of a function are arrays
abbrev pub kinds_of_signature : Signature → List Bool × List Bool
kinds_of_signature f = (map (λ τ. is_array τ.shape) f.inputs, map (λ τ. is_array τ.shape) f.outputs)
