-- The code emitted for a statement with blocks, except for the blocks themselves.
use Rattle.std.specs.Prelude.{◌≡◌, ◌<◌, ◌≤◌, ◌+◌, ◌^◌, ℕ, suc, ℤ, pos, false, length, List, [], ◌∷◌, ◌++◌, map, Option, None, Some, option_map, option_to_list}
use Rattle.std.specs.List.{flat_map}
use Rattle.values.specs.declared.value.Scalar.TheVariants.{Number}
use Rattle.language.specs.Core.{Action, Block, Expr, Outer, Part, literal, range, stmt}
use Rattle.task_code.specs.Code.{Act, Entry, If, Loop, Need, Range, Read, Wait}
use Rattle.task_code.specs.Code as code
use Rattle.task_code.specs.View.{entry_view, variable_view}
use Rattle.task_code.specs.declared.entry.Entry.{Entry as Made}
use Rattle.language.specs.Parts.{outer_parts}
use Rattle.flow.specs.Shapes.{kinds_of_function}
use Rattle.flow.specs.View.{awaited_view, outer_view}
use Rattle.flow.specs.declared.cell.OuterCell.{OuterCell as Outermost}
use Rattle.flow.specs.declared.name.Name.{Name as Named}
use Rattle.flow.specs.declared.script.Function.{Function}
use Rattle.flow.specs.declared.statement.Header.{Header}
use Rattle.flow.specs.declared.statement.Range.{Range as Ranged}
use Rattle.flow.specs.declared.statement.Variable.{Variable}
use Rattle.code_rules.specs.CodeNames.{each_once, header, over}
use Rattle.code_rules.specs.IsCodeOf.{IsEntry, Layout, own_needs, seen, step_expr}
use Rattle.code_rules.specs.Laying.{Headers, is_one_wait, IndexesStand, IsOwnEntry, Kinds, Laying, LaysParts, PlainAs, data_in}
use Rattle.code_rules.specs.Room.{AwaitedRoom, Each}
use Rattle.emit_cells.specs.declared.entries.StatementContext.{StatementContext}
use Rattle.emit_statements.specs.Into.{laying}
use Rattle.emit_statements.specs.Seen.{seen_last}
use Rattle.emit_statements.specs.declared.block_builder.BlockBuilder.{BlockBuilder}

-- PARTS

-- the entries and data of a statement's parts are emitted into its block
pub record PartsInto (fs : List Kinds) (k : ℕ) (all : List Part) (at : ℕ) (p : ℤ) (s t : Laying) (old new : BlockBuilder) : Type 0 where
  pub numbers : List ℕ
  pub laid : LaysParts fs k all at p s t numbers
  pub entries : new.entries.items ≡ old.entries.items ++ numbers
  pub makes : map variable_view new.makes.items ≡ map variable_view old.makes.items ++ data_in None all

-- in a script with these functions, for a statement in this context
abbrev pub PartsLaid : {A : Type 0} → List (Function A) → StatementContext → List Part → List code.Body → List Made → List Made → BlockBuilder → BlockBuilder → Type 0
PartsLaid functions s ps bodies es more old new =
    PartsInto (map kinds_of_function functions) s.inputs ps s.at s.priority (laying es bodies) (laying more bodies) old new

-- at most one entry is added for each part
abbrev pub FewParts : Layout → List Part → List Made → List Made → Type 0
FewParts l ps es more = PlainAs l None ps → ((i : ℕ) → l.body_of i ≡ suc i) → IndexesStand ps → length more ≤ length es + length ps

-- the parts of a step, if there is one
abbrev pub step_parts : {A : Type 0} → Option (Outermost A) → List Part
step_parts o = outer_parts (option_to_list (option_map outer_view o))

-- the outermost cells of a range
abbrev pub range_outers : {A : Type 0} → Ranged A → List Outer
range_outers r = outer_view r.low ∷ outer_view r.high ∷ option_to_list (option_map outer_view r.step)

-- the value of a step as other entries read it; a missing step is 1
abbrev pub seen_step : Option Outer → Expr
seen_step None = literal (Number (pos 1))
seen_step (Some o) = seen_last o

-- the values of the bounds and the step of a range as other entries read them
abbrev pub seen_range : {A : Type 0} → Ranged A → List Expr
seen_range r = seen_last (outer_view r.low) ∷ seen_last (outer_view r.high) ∷ seen_step (option_map outer_view r.step) ∷ []

-- a loop over a range
abbrev pub range_action : {A : Type 0} → Ranged A → ℕ → Option ℕ → Block → Action
range_action r x y b = range (outer_view r.low) (outer_view r.high) (option_map outer_view r.step) x y b

-- THE OWN ENTRY

-- a number is appended to those of its block, which declares nothing new; it is the number of the next entry, after the
-- first `count`
pub record Numbered (n count : ℕ) (old new : BlockBuilder) : Type 0 where
  pub is : count < 2 ^ 32 → n ≡ count
  pub entries : new.entries.items ≡ old.entries.items ++ n ∷ []
  pub makes : new.makes.items ≡ old.makes.items

-- the own entry of a statement with blocks is appended
pub record OwnAddedAs (k at : ℕ) (a : Action) (act : Layout → Act) (old new : List Made) : Type 0 where
  pub entry : Entry
  pub is : map entry_view new ≡ map entry_view old ++ entry ∷ []
  pub own : IsOwnEntry entry at k a act
  pub offset_is : entry.offset ≡ at

-- the own entry of merged waits is appended; the innermost block b is not exactly one further `wait`
pub record WaitAddedAs (k at node : ℕ) (a : Action) (b : Block) (body : ℕ) (old new : List Made) : Type 0 where
  pub headers : List code.Header
  pub merged : is_one_wait b ≡ false → Headers k (stmt at node a) headers b
  pub entry : Entry
  pub is : map entry_view new ≡ map entry_view old ++ entry ∷ []
  pub own : IsEntry entry at (pos 0) (each_once (flat_map (λ h. h.needs) headers)) (Wait headers body)
  pub offset_is : entry.offset ≡ at

-- the header of a wait, from its offset and its names
abbrev pub header_of : ℕ → ℕ → List Named → code.Header
header_of k at ns = header k at (map awaited_view ns)

-- the headers of the waits merged into it
abbrev pub inner_headers : {A : Type 0} → ℕ → List (Header A) → List code.Header
inner_headers k hs = map (λ h. header_of k h.at h.names.items) hs

abbrev pub InnerRoom : {A : Type 0} → ℕ → List (Header A) → Type 0
InnerRoom k hs = Each (λ h. Each (AwaitedRoom k) (map awaited_view h.names.items)) hs

-- ACTS OF ENTRIES

-- over these needs, with the values of their outermost cells
abbrev pub branched : ℕ → ℕ → Option ℕ → List Need → List Expr → Act
branched k t o ns (e ∷ []) = If (over k ns e) t o
branched k t o ns _ = Read

abbrev pub ranged : ℕ → Loop → List Need → List Expr → Act
ranged k w ns (low ∷ high ∷ step ∷ []) = Range (over k ns low) (over k ns high) (over k ns step) w
ranged k w ns _ = Read

-- in a layout and a function with k inputs: a branch on an outermost cell
abbrev pub branch_act : Layout → ℕ → Action → Outer → ℕ → Option ℕ → Act
branch_act l k a o t other = If (over k (own_needs l k a) (seen l o.cell)) t other

-- a loop over a range
abbrev pub range_loop_act : {A : Type 0} → Layout → ℕ → Ranged A → Action → Loop → Act
range_loop_act l k r a w =
    Range (over k (own_needs l k a) (seen l (outer_view r.low).cell)) (over k (own_needs l k a) (seen l (outer_view r.high).cell))
    (over k (own_needs l k a) (step_expr l k (option_map outer_view r.step))) w

-- the loop with this body and these variables
abbrev pub loop_with : {A : Type 0} → ℕ → Variable A → Option (Variable A) → Loop
loop_with {A} body value turn = record { body = body; value = value.node; turn = option_map (λ (x : Variable A). x.node) turn }
