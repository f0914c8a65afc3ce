-- Flows in which no `wait` has exactly one `wait` as its content.
use Rattle.std.specs.Prelude.{Bool, true, false, not, ◌&&◌, List, [], ◌∷◌, map, IsTrue}
use Rattle.flow.specs.declared.statement.Action.{Action, Action-F, fold-Action}
use Rattle.flow.specs.declared.statement.Action.TheOpen as Does
use Rattle.flow.specs.declared.statement.Block.{Block, Block-F, fold-Block}
use Rattle.flow.specs.declared.statement.Statement.{Statement, Statement-F, fold-Statement}
use Rattle.flow.specs.declared.script.Function.{Function}
use Rattle.flow.specs.declared.script.Flow.{Flow}

-- whether a statement is a `wait`, or a block exactly one `wait`; and whether all waits in it are merged
pub record Seen : Type 0 where
  pub wait : Bool
  pub merged : Bool

-- a statement other than a `wait`
abbrev pub other : Bool → Seen
other m = record { wait = false; merged = m }

-- whether statements are exactly one `wait`
abbrev pub alone : List Seen → Bool
alone [] = false
alone (s ∷ []) = s.wait
alone (s ∷ t ∷ ss) = false

abbrev pub all_merged : List Seen → Bool
all_merged [] = true
all_merged (s ∷ ss) = s.merged && all_merged ss

abbrev pub action_step : {A : Type 0} → Action-F A Seen Seen Seen → Seen
action_step (Does.Declare v) = other true
action_step (Does.Call p ps c) = other true
action_step (Does.Assign x e) = other true
action_step (Does.Fill a e) = other true
action_step (Does.Insert a i e) = other true
action_step (Does.Print p e) = other true
action_step (Does.Assert p e) = other true
action_step (Does.When e b) = other b.value.merged
action_step (Does.Choose e b d) = other (b.value.merged && d.value.merged)
action_step (Does.Range r v k b) = other b.value.merged
action_step (Does.Each a v k b) = other b.value.merged
action_step (Does.Wait ns hs b) = record { wait = true; merged = not b.value.wait && b.value.merged }

abbrev pub block_step : {A : Type 0} → Block-F A Seen Seen Seen → Seen
block_step b = record { wait = alone b.statements.items; merged = all_merged b.statements.items }

abbrev pub statement_step : {A : Type 0} → Statement-F A Seen Seen Seen → Seen
statement_step s = s.action

abbrev pub action_seen : {A : Type 0} → Action A → Seen
action_seen {A} = fold-Action A Seen Seen Seen action_step block_step statement_step

abbrev pub block_seen : {A : Type 0} → Block A → Seen
block_seen {A} = fold-Block A Seen Seen Seen action_step block_step statement_step

abbrev pub statement_seen : {A : Type 0} → Statement A → Seen
statement_seen {A} = fold-Statement A Seen Seen Seen action_step block_step statement_step

abbrev pub functions_merged : {A : Type 0} → List (Function A) → Bool
functions_merged fs = all_merged (map (λ f. block_seen f.body) fs)

-- no `wait` of the flow has exactly one `wait` as its content
abbrev pub IsMerged : {A : Type 0} → Flow A → Type 0
IsMerged f = IsTrue ((block_seen f.body).merged && functions_merged f.functions.items)
