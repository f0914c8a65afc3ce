-- Which variables, inputs and outputs of a flow are arrays.
use Rattle.std.specs.Prelude.{ℕ, Bool, true, false, List, [], ◌∷◌, ◌++◌, map}
use Rattle.std.specs.List.{flat_map}
use Rattle.language.specs.declared.tree.Shape.{Shape}
use Rattle.flow.specs.declared.statement.Variable.{Variable}
use Rattle.flow.specs.declared.statement.Action.{Action, Action-F, fold-Action}
use Rattle.flow.specs.declared.statement.Action.TheOpen as Does
use Rattle.flow.specs.declared.statement.Block.{Block, Block-F, fold-Block}
use Rattle.flow.specs.declared.statement.Statement.{Statement, Statement-F, fold-Statement}
use Rattle.flow.specs.declared.script.Function.{Function}
use Rattle.flow.specs.declared.script.Flow.{Flow}

abbrev pub is_array : Shape → Bool
is_array (Shape.Array κ) = true
is_array Shape.Scalar = false

-- variables by their nodes, each an array or not
abbrev pub Declared : Type 0
Declared = List (ℕ × Bool)

-- the declarations of a statement and of its nested blocks
abbrev pub action_step : {A : Type 0} → Action-F A Declared Declared Declared → Declared
action_step (Does.Declare v) = (v.node, is_array v.shape) ∷ []
action_step (Does.Call p ps c) = []
action_step (Does.Assign x e) = []
action_step (Does.Fill a e) = []
action_step (Does.Insert a i e) = []
action_step (Does.Print p e) = []
action_step (Does.Assert p e) = []
action_step (Does.When e b) = b.value
action_step (Does.Choose e b d) = b.value ++ d.value
action_step (Does.Range r v k b) = b.value
action_step (Does.Each a v k b) = b.value
action_step (Does.Wait ns hs b) = b.value

-- the declarations of statements, one after another
abbrev pub together : List Declared → Declared
together [] = []
together (d ∷ ds) = d ++ together ds

abbrev pub block_step : {A : Type 0} → Block-F A Declared Declared Declared → Declared
block_step b = together b.statements.items

abbrev pub statement_step : {A : Type 0} → Statement-F A Declared Declared Declared → Declared
statement_step s = s.action

abbrev pub action_declared : {A : Type 0} → Action A → Declared
action_declared {A} = fold-Action A Declared Declared Declared action_step block_step statement_step

abbrev pub block_declared : {A : Type 0} → Block A → Declared
block_declared {A} = fold-Block A Declared Declared Declared action_step block_step statement_step

abbrev pub statement_declared : {A : Type 0} → Statement A → Declared
statement_declared {A} = fold-Statement A Declared Declared Declared action_step block_step statement_step

abbrev pub functions_declared : {A : Type 0} → List (Function A) → Declared
functions_declared fs = together (map (λ f. block_declared f.body) fs)

-- the variables of a flow: those of the script's own block, and then those of its functions
abbrev pub declared_of : {A : Type 0} → Flow A → Declared
declared_of f = block_declared f.body ++ functions_declared f.functions.items

-- which inputs and which outputs of a function are arrays
abbrev pub kinds_of_function : {A : Type 0} → Function A → List Bool × List Bool
kinds_of_function f = (map (λ v. is_array v.shape) f.inputs.items, map (λ v. is_array v.shape) f.outputs.items)

abbrev pub kinds_of : {A : Type 0} → Flow A → List (List Bool × List Bool)
kinds_of f = map kinds_of_function f.functions.items
