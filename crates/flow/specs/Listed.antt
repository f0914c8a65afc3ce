-- What a listing shows of a flow beside its core, in reading order: variables with their names, offsets of blocks, and
-- functions.
use Rattle.std.specs.Prelude.{ℕ, Bool, true, false, List, [], ◌∷◌, ◌++◌, map, Option, if◌then◌else◌, option_map, option_to_list}
use Rattle.std.specs.List.{flat_map}
use Rattle.language.specs.declared.tree.Shape.{Shape}
use Rattle.flow.specs.declared.statement.Variable.{Variable}
use Rattle.flow.specs.declared.statement.Action.{Action, Action-F, fold-Action}
use Rattle.flow.specs.declared.statement.Action.TheOpen as Does
use Rattle.flow.specs.declared.statement.Block.{Block, Block-F, fold-Block}
use Rattle.flow.specs.declared.statement.Statement.{Statement, Statement-F, fold-Statement}
use Rattle.flow.specs.declared.script.Function.{Function}
use Rattle.flow.specs.declared.script.Flow.{Flow}

-- a declared variable: its node, its shape and its name
pub record Declared : Type 0 where
  pub node : ℕ
  pub shape : Shape
  pub name : List ℕ

abbrev pub declared : {A : Type 0} → Variable A → Declared
declared v = record { node = v.node; shape = v.shape; name = v.name.items }

-- a variable that a statement declares, one of a loop or a parameter, a block at the offset of its `{`, a function at
-- that of its name
pub data Shown : Type 0 where
  declares : Declared → Shown
  binds : Declared → Shown
  opens : (from : ℕ) → Shown
  calls_it : (at : ℕ) → (name : List ℕ) → Shown

-- whether a statement is a `wait`, or a block exactly one; the offset of a block; and what is shown of it
pub record Listed : Type 0 where
  pub wait : Bool
  pub from : ℕ
  pub shown : List Shown

-- a statement other than a `wait`
abbrev pub other : List Shown → Listed
other xs = record { wait = false; from = 0; shown = xs }

-- whether statements are exactly one `wait`
abbrev pub alone : List Listed → Bool
alone [] = false
alone (l ∷ []) = l.wait
alone (l ∷ m ∷ ls) = false

-- what is shown of statements, one after another
abbrev pub together : List Listed → List Shown
together [] = []
together (l ∷ ls) = l.shown ++ together ls

-- a block at an offset, of these statements
abbrev pub block_of : ℕ → List Listed → Listed
block_of from ls = record { wait = alone ls; from = from; shown = together ls }

-- a block with its contents
abbrev pub whole : Listed → List Shown
whole b = opens b.from ∷ b.shown

-- the content of a `wait`: a content that is exactly one `wait` has no offset of its own
abbrev pub content : Listed → List Shown
content b = if b.wait then b.shown else whole b

abbrev pub waiting : Listed → Listed
waiting b = record { wait = true; from = 0; shown = content b }

-- a loop with its variables
abbrev pub looping : Declared → Option Declared → Listed → Listed
looping v k b = other (binds v ∷ map binds (option_to_list k) ++ whole b)

abbrev pub action_step : {A : Type 0} → Action-F A Listed Listed Listed → Listed
action_step (Does.Declare v) = other (declares (declared v) ∷ [])
action_step (Does.Call p ps c) = other []
action_step (Does.Assign x e) = other []
action_step (Does.Fill a e) = other []
action_step (Does.Insert a i e) = other []
action_step (Does.Print p e) = other []
action_step (Does.Assert p e) = other []
action_step (Does.When e b) = other (whole b.value)
action_step (Does.Choose e b d) = other (whole b.value ++ whole d.value)
action_step (Does.Range r v k b) = looping (declared v) (option_map declared k) b.value
action_step (Does.Each a v k b) = looping (declared v) (option_map declared k) b.value
action_step (Does.Wait ns hs b) = waiting b.value

abbrev pub block_step : {A : Type 0} → Block-F A Listed Listed Listed → Listed
block_step b = block_of b.from b.statements.items

abbrev pub statement_step : {A : Type 0} → Statement-F A Listed Listed Listed → Listed
statement_step s = s.action

abbrev pub action_listed : {A : Type 0} → Action A → Listed
action_listed {A} = fold-Action A Listed Listed Listed action_step block_step statement_step

abbrev pub block_listed : {A : Type 0} → Block A → Listed
block_listed {A} = fold-Block A Listed Listed Listed action_step block_step statement_step

abbrev pub statement_listed : {A : Type 0} → Statement A → Listed
statement_listed {A} = fold-Statement A Listed Listed Listed action_step block_step statement_step

-- a function with its parameters and its body
abbrev pub function_of : ℕ → List ℕ → List Declared → List Declared → Listed → List Shown
function_of at name inputs outputs b = calls_it at name ∷ map binds inputs ++ map binds outputs ++ whole b

abbrev pub function_shown : {A : Type 0} → Function A → List Shown
function_shown f = function_of f.at f.name.items (map declared f.inputs.items) (map declared f.outputs.items) (block_listed f.body)

abbrev pub functions_shown : {A : Type 0} → List (Function A) → List Shown
functions_shown fs = flat_map function_shown fs

-- what a listing shows of a flow: the script's own block, then its functions
abbrev pub shown_of : {A : Type 0} → Flow A → List Shown
shown_of f = whole (block_listed f.body) ++ functions_shown f.functions.items
