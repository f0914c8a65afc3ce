-- A statement that is emitted into its enclosing block.
use Rattle.std.specs.Prelude.{◌≡◌, ◌≤◌, ◌+◌, ◌^◌, ℕ, suc, Bool, List, [], ◌∷◌, ◌++◌, length, map}
use Rattle.language.specs.Core.{Stmt, stmt, Action, call_alone}
use Rattle.language.specs.Parts.{parts}
use Rattle.language_laws.specs.TypedValues.{own_parts}
use Rattle.flow.specs.declared.cell.Call.{Call}
use Rattle.flow.specs.declared.cell.CellPart.{CellPart}
use Rattle.flow.specs.declared.script.Function.{Function}
use Rattle.flow.specs.Shapes.{kinds_of_function}
use Rattle.flow.specs.View.{call_view, parts_view}
use Rattle.task_code.specs.Code.{Body, Entry, Variable}
use Rattle.task_code.specs.View.{entry_view, variable_view}
use Rattle.task_code.specs.declared.entry.Entry.{Entry as Made}
use Rattle.code_rules.specs.IsCodeOf.{Layout, own_needs, own_priority, simple_act}
use Rattle.code_rules.specs.Laying.{IndexesStand, IsOwnEntry, Kinds, Laying, LaysStmt, Suits}
use Rattle.code_rules.specs.Room.{ActionRoom}
use Rattle.emit_cells.specs.declared.entries.StatementContext.{StatementContext}
use Rattle.emit_statements.specs.declared.block_builder.BlockBuilder.{BlockBuilder}
use Rattle.emit_statements.specs.declared.own.StatementAt.{StatementAt}

-- the code of these entries and these bodies of inner blocks
abbrev pub laying : List Made → List Body → Laying
laying es bs = record { entries = map entry_view es; bodies = bs }

-- a statement extends the emitted code from one state to the next, and its numbers and data are appended to its block
pub record LaysInto (fs : List Kinds) (roots k : ℕ) (st : Stmt) (ds : List (ℕ × Bool)) (s t : Laying) (old new : BlockBuilder) : Type 0 where
  pub numbers : List ℕ
  pub data_are : List Variable
  pub laid : LaysStmt fs roots k st ds s t numbers data_are
  pub entries : new.entries.items ≡ old.entries.items ++ numbers
  pub makes : map variable_view new.makes.items ≡ map variable_view old.makes.items ++ data_are

-- the own entry of a statement without blocks is appended
pub record OwnAdded (k at node : ℕ) (a : Action) (old new : List Made) : Type 0 where
  pub entry : Entry
  pub is : map entry_view new ≡ map entry_view old ++ entry ∷ []
  pub own : IsOwnEntry entry at k a (λ l. simple_act l k (own_needs l k a) a)
  pub node_is : entry.node ≡ node
  pub offset_is : entry.offset ≡ at

-- A STATEMENT WITH THIS ACTION, OF THE PRIORITY THAT IT THEN HAS

-- its own entry is appended to those of its parts
abbrev pub AddsOwn : StatementAt → Action → List Made → List Made → Type 0
AddsOwn one a old new = ActionRoom one.standing.inputs a → one.standing.priority ≡ own_priority a
    → OwnAdded one.standing.inputs one.standing.at one.node a old new

-- it is emitted, in a script with these functions
abbrev pub LaysOwn : {A : Type 0} → List (Function A) → StatementAt → Action → List Made → List Made → BlockBuilder → BlockBuilder → Type 0
LaysOwn functions one a es more old new = (roots : ℕ) (bodies : List Body) → ActionRoom one.standing.inputs a → length more ≤ 2 ^ 32
    → one.standing.priority ≡ own_priority a
    → LaysInto (map kinds_of_function functions) roots one.standing.inputs (stmt one.standing.at one.node a) [] (laying es bodies) (laying more bodies) old new

-- it has at most one entry for each of its parts, and its own
abbrev pub AddsFew : StatementAt → Action → List Made → List Made → Type 0
AddsFew one a es more = (l : Layout) → ActionRoom one.standing.inputs a → Suits l a → IndexesStand (own_parts a) → one.standing.priority ≡ own_priority a
    → length more ≤ length es + suc (length (parts a))

-- a statement that calls a composite function
abbrev pub call_of : {A : Type 0} → StatementContext → List (CellPart A) → Call A → Action
call_of s ps c = call_alone s.priority (parts_view ps) (call_view c)
