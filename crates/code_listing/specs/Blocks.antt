-- The blocks of a flow in the order of the bodies of its code, and the names of its variables.
use Rattle.std.specs.Prelude.{ℕ, ◌+◌, List, [], ◌∷◌, ◌++◌, Option, cond, nat_eq, option_map, option_to_list}
use Rattle.flow.specs.declared.statement.Variable.{Variable}
use Rattle.flow.specs.declared.statement.Action.{Action, Action-F, fold-Action}
use Rattle.flow.specs.declared.statement.Action.TheOpen as Does
use Rattle.flow.specs.declared.statement.Block.{Block, Block-F, fold-Block}
use Rattle.flow.specs.declared.statement.Statement.{Statement, Statement-F, fold-Statement}
use Rattle.flow.specs.declared.script.Function.{Function}
use Rattle.flow.specs.declared.script.Flow.{Flow}
use Rattle.code_listing.specs.declared.source_map.BodyInfo.{BodyInfo}
use Rattle.code_listing.specs.declared.source_map.BodyKind.{BodyKind}
use Rattle.code_listing.specs.declared.source_map.BodyKind.TheVariants as Of

-- the node of a variable and its name
pub record Named : Type 0 where
  pub node : ℕ
  pub name : List ℕ

abbrev pub named : {A : Type 0} → Variable A → Named
named v = record { node = v.node; name = v.name.items }

-- the offset of a block; the blocks in it, for the number of the function in which it stands; and the variables that are
-- declared in it
pub record Inside : Type 0 where
  pub from : ℕ
  pub blocks : ℕ → List BodyInfo
  pub names : List Named

abbrev pub info : BodyKind → ℕ → ℕ → BodyInfo
info what from f = record { from = from; what = what; function = f }

-- a statement without a block
abbrev pub plain : List Named → Inside
plain ns = record { from = 0; blocks = λ f. []; names = ns }

-- a block stands after those in it
abbrev pub opening : BodyKind → Inside → Inside
opening what b = record { from = 0; blocks = λ f. b.blocks f ++ info what b.from f ∷ []; names = b.names }

abbrev pub choosing : Inside → Inside → Inside
choosing b d = record { from = 0; blocks = λ f. (b.blocks f ++ d.blocks f) ++ info Of.Then b.from f ∷ info Of.Else d.from f ∷ []; names = b.names ++ d.names }

abbrev pub looping : Named → Option Named → Inside → Inside
looping v k b = record { from = 0; blocks = λ f. b.blocks f ++ info Of.Loop b.from f ∷ []; names = v ∷ option_to_list k ++ b.names }

-- statements, one after another
abbrev pub blocks_among : List Inside → ℕ → List BodyInfo
blocks_among [] f = []
blocks_among (i ∷ is) f = i.blocks f ++ blocks_among is f

abbrev pub names_among : List Inside → List Named
names_among [] = []
names_among (i ∷ is) = i.names ++ names_among is

abbrev pub action_step : {A : Type 0} → Action-F A Inside Inside Inside → Inside
action_step (Does.Declare v) = plain (named v ∷ [])
action_step (Does.Call p ps c) = plain []
action_step (Does.Assign x e) = plain []
action_step (Does.Fill a e) = plain []
action_step (Does.Insert a i e) = plain []
action_step (Does.Print p e) = plain []
action_step (Does.Assert p e) = plain []
action_step (Does.When e b) = opening Of.Then b.value
action_step (Does.Choose e b d) = choosing b.value d.value
action_step (Does.Range r v k b) = looping (named v) (option_map named k) b.value
action_step (Does.Each a v k b) = looping (named v) (option_map named k) b.value
action_step (Does.Wait ns hs b) = opening Of.Wait b.value

abbrev pub block_step : {A : Type 0} → Block-F A Inside Inside Inside → Inside
block_step b = record { from = b.from; blocks = blocks_among b.statements.items; names = names_among b.statements.items }

abbrev pub statement_step : {A : Type 0} → Statement-F A Inside Inside Inside → Inside
statement_step s = s.action

abbrev pub in_action : {A : Type 0} → Action A → Inside
in_action {A} = fold-Action A Inside Inside Inside action_step block_step statement_step

abbrev pub in_block : {A : Type 0} → Block A → Inside
in_block {A} = fold-Block A Inside Inside Inside action_step block_step statement_step

abbrev pub in_statement : {A : Type 0} → Statement A → Inside
in_statement {A} = fold-Statement A Inside Inside Inside action_step block_step statement_step

-- the name that the last of these declarations of a node gives it, else this one
abbrev pub name_among : List ℕ → List Named → ℕ → List ℕ
name_among before [] n = before
name_among before (x ∷ xs) n = name_among (cond (nat_eq x.node n) x.name before) xs n

-- THE SCRIPT

-- functions whose first has number n
abbrev pub functions_roots : {A : Type 0} → ℕ → List (Function A) → List BodyInfo
functions_roots n [] = []
functions_roots n (f ∷ fs) = info Of.Function (in_block f.body).from n ∷ functions_roots (n + 1) fs

abbrev pub functions_inner : {A : Type 0} → ℕ → List (Function A) → List BodyInfo
functions_inner n [] = []
functions_inner n (f ∷ fs) = (in_block f.body).blocks n ++ functions_inner (n + 1) fs

abbrev pub functions_names : {A : Type 0} → List (Function A) → List Named
functions_names [] = []
functions_names (f ∷ fs) = (in_block f.body).names ++ functions_names fs

-- the blocks of the script and of its functions come first; the function of number 0 is the script itself
abbrev pub roots : {A : Type 0} → Flow A → List BodyInfo
roots f = info Of.Script 0 0 ∷ functions_roots 1 f.functions.items

abbrev pub inner : {A : Type 0} → Flow A → List BodyInfo
inner f = (in_block f.body).blocks 0 ++ functions_inner 1 f.functions.items

abbrev pub infos : {A : Type 0} → Flow A → List BodyInfo
infos f = roots f ++ inner f

-- the name of the variable of a node, empty if there is none
abbrev pub variable_name : {A : Type 0} → Flow A → ℕ → List ℕ
variable_name f n = name_among [] ((in_block f.body).names ++ functions_names f.functions.items) n
