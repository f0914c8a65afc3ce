-- The positions of the cells of a flow: each by its node, with the offset of its first token, in reading order. A core
-- has no offsets of cells.
use Rattle.std.specs.Prelude.{ℕ, List, [], ◌∷◌, ◌++◌, Option, None, Some}
use Rattle.std.specs.List.{flat_map}
use Rattle.language.specs.Members.{◌∈◌}
use Rattle.flow.specs.declared.cell.Cell.{Cell}
use Rattle.flow.specs.declared.cell.CellPart.{CellPart}
use Rattle.flow.specs.declared.cell.CellPart.TheVariants as Stands
use Rattle.flow.specs.declared.cell.OuterCell.{OuterCell}
use Rattle.flow.specs.declared.statement.Range.{Range}
use Rattle.flow.specs.declared.statement.Action.{Action, Action-F, fold-Action}
use Rattle.flow.specs.declared.statement.Action.TheOpen as Does
use Rattle.flow.specs.declared.statement.Block.{Block, Block-F, fold-Block}
use Rattle.flow.specs.declared.statement.Statement.{Statement, Statement-F, fold-Statement}
use Rattle.flow.specs.declared.script.Function.{Function}
use Rattle.flow.specs.declared.script.Flow.{Flow}

-- a node, and the offset of its first token
pub record Anchor : Type 0 where
  pub node : ℕ
  pub at : ℕ

abbrev pub anchor_of : {A : Type 0} → Cell A → Anchor
anchor_of c = record { node = c.node; at = c.at }

abbrev pub part_anchors : {A : Type 0} → CellPart A → List Anchor
part_anchors (Stands.Inner c) = anchor_of c ∷ []
part_anchors (Stands.Calls c) = []

abbrev pub parts_anchors : {A : Type 0} → List (CellPart A) → List Anchor
parts_anchors ps = flat_map part_anchors ps

-- an outermost cell, after its nested cells
abbrev pub outer_anchors : {A : Type 0} → OuterCell A → List Anchor
outer_anchors o = parts_anchors o.parts.items ++ anchor_of o.cell ∷ []

abbrev pub step_anchors : {A : Type 0} → Option (OuterCell A) → List Anchor
step_anchors None = []
step_anchors (Some o) = outer_anchors o

abbrev pub range_anchors : {A : Type 0} → Range A → List Anchor
range_anchors r = outer_anchors r.low ++ outer_anchors r.high ++ step_anchors r.step

-- the cells of a statement and of its nested blocks
abbrev pub action_step : {A : Type 0} → Action-F A (List Anchor) (List Anchor) (List Anchor) → List Anchor
action_step (Does.Declare v) = []
action_step (Does.Call p ps c) = parts_anchors ps.items
action_step (Does.Assign x e) = outer_anchors e.value
action_step (Does.Fill a e) = outer_anchors e.value
action_step (Does.Insert a i e) = outer_anchors i.value ++ outer_anchors e.value
action_step (Does.Print p e) = outer_anchors e.value
action_step (Does.Assert p e) = outer_anchors e.value
action_step (Does.When e b) = outer_anchors e.value ++ b.value
action_step (Does.Choose e b d) = outer_anchors e.value ++ b.value ++ d.value
action_step (Does.Range r v k b) = range_anchors r.value ++ b.value
action_step (Does.Each a v k b) = b.value
action_step (Does.Wait ns hs b) = b.value

abbrev pub block_step : {A : Type 0} → Block-F A (List Anchor) (List Anchor) (List Anchor) → List Anchor
block_step b = flat_map (λ xs. xs) b.statements.items

abbrev pub statement_step : {A : Type 0} → Statement-F A (List Anchor) (List Anchor) (List Anchor) → List Anchor
statement_step s = s.action

abbrev pub action_anchors : {A : Type 0} → Action A → List Anchor
action_anchors {A} = fold-Action A (List Anchor) (List Anchor) (List Anchor) action_step block_step statement_step

abbrev pub block_anchors : {A : Type 0} → Block A → List Anchor
block_anchors {A} = fold-Block A (List Anchor) (List Anchor) (List Anchor) action_step block_step statement_step

abbrev pub statement_anchors : {A : Type 0} → Statement A → List Anchor
statement_anchors {A} = fold-Statement A (List Anchor) (List Anchor) (List Anchor) action_step block_step statement_step

abbrev pub function_anchors : {A : Type 0} → Function A → List Anchor
function_anchors f = block_anchors f.body

-- the cells of a flow: those of the script's own block, then those of its functions
abbrev pub anchors_of : {A : Type 0} → Flow A → List Anchor
anchors_of f = block_anchors f.body ++ flat_map function_anchors f.functions.items

-- each element of one list is in another
abbrev pub AreAmong : List Anchor → List Anchor → Type 0
AreAmong xs ys = (x : Anchor) → x ∈ xs → x ∈ ys

-- each element of a list was there before, or is one of the given ones
pub record AnchorsGrow (old new more : List Anchor) : Type 0 where
  pub each : AreAmong new (old ++ more)
