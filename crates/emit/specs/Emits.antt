-- The contracts of emitting a statement or a block into its enclosing block.
use Rattle.std.specs.Prelude.{◌≡◌, ℕ, pos, ◌+◌, ◌*◌, ◌^◌, ◌≤◌, ◌<◌, Bool, IsTrue, List, [], ◌∷◌, ◌++◌, map, length}
use Rattle.language.specs.Core.{Stmt, stmt, Action, Block, Function, Core}
use Rattle.flow.specs.declared.script.Function.{Function as Found}
use Rattle.flow.specs.declared.statement.Block.{Block as Inner}
use Rattle.flow.specs.declared.statement.Statement.{Statement}
use Rattle.flow.specs.Shapes.{block_declared, functions_declared, kinds_of_function, statement_declared, together}
use Rattle.flow.specs.View.{block_of, block_view, function_view, statement_view}
use Rattle.language.specs.Members.{◌∈◌}
use Rattle.language.specs.Parts.{blocks_in, function_blocks, stmts_among, stmts_within}
use Rattle.language_laws.specs.TypedValues.{own_parts}
use Rattle.task_code.specs.Code as code
use Rattle.task_code.specs.Code.{ByCalls, Opener, Variable}
use Rattle.task_code.specs.View.{variable_view, body_view}
use Rattle.task_code.specs.declared.entry.Entry.{Entry}
use Rattle.task_code.specs.declared.code.Body.{Body}
use Rattle.code_rules.specs.IsCodeOf.{Layout}
use Rattle.code_rules.specs.Laying.{IndexesStand, Kinds, Laying, LaysBlock, LaysFunctions, LaysStmt, Suits, next_body}
use Rattle.code_rules.specs.Emitted.{CallsOnce, CellsOnce, ReadsStand, size_of, stmts_size}
use Rattle.code_rules.specs.Room.{BlockRoom, CoreRoom, StmtRoom, Each, FunctionRoom}
use Rattle.flow.specs.Cells.{Anchor}
use Rattle.emit_cells.specs.Marks.{MarksGrow}
use Rattle.emit_statements.specs.Into.{laying}
use Rattle.emit_statements.specs.declared.block_builder.BlockBuilder.{BlockBuilder}
use Rattle.emit_statements.specs.declared.own.StatementAt.{StatementAt}
use Rattle.wait_merge.specs.Merged.{all_merged, block_seen, functions_merged, statement_seen}
use Rattle.emit.specs.declared.emitter.Emitter.{Emitter}
use Rattle.values.specs.Limits.{max_entries}

-- the code emitted so far, with the numbers and the data of the enclosing block
pub record State : Type 0 where
  pub laying : Laying
  pub numbers : List ℕ
  pub makes : List Variable

abbrev pub state : List Entry → List Body → BlockBuilder → State
state es bs f = record { laying = laying es (map body_view bs); numbers = f.entries.items; makes = map variable_view f.makes.items }

-- a layout suits these statements, and there are numbers for all their entries and bodies after those in use
pub record Fits (l : Layout) (roots : ℕ) (ss : List Stmt) (s : Laying) : Type 0 where
  pub suits : (at n : ℕ) (a : Action) → stmt at n a ∈ ss → Suits l a × IndexesStand (own_parts a)
  pub entries : length s.entries + stmts_size ss ≤ 2 ^ 32
  pub bodies : next_body roots s + 2 * stmts_size ss < 2 ^ 32

-- no more entries and bodies are added than these statements account for
pub record IsFew (ss : List Stmt) (s t : Laying) : Type 0 where
  pub entries : length t.entries ≤ length s.entries + stmts_size ss
  pub bodies : length t.bodies ≤ length s.bodies + 2 * stmts_size ss

-- a rule extends the emitted code, and the numbers and data are appended to the enclosing block
pub record Lays (rule : Laying → Laying → List ℕ → List Variable → Type 0) (ss : List Stmt) (s t : State) : Type 0 where
  pub numbers : List ℕ
  pub data_are : List Variable
  pub by_rule : rule s.laying t.laying numbers data_are
  pub entries : t.numbers ≡ s.numbers ++ numbers
  pub makes : t.makes ≡ s.makes ++ data_are
  pub few : IsFew ss s.laying t.laying

-- a statement, and those in the blocks nested in it
abbrev pub with_inner : Stmt → List Stmt
with_inner st = st ∷ stmts_among (blocks_in st)

-- wherever a statement or a block has room, it is emitted
module _ (fs : List Kinds) (roots k : ℕ) where
  pub record EmitsStmt (st : Stmt) (ds : List (ℕ × Bool)) (s t : State) : Type 0 where
    pub lays : (l : Layout) → StmtRoom k st → Fits l roots (with_inner st) s.laying → Lays (LaysStmt fs roots k st ds) (with_inner st) s t

  pub record EmitsBlock (b : Block) (ds : List (ℕ × Bool)) (s t : State) : Type 0 where
    pub lays : (l : Layout) → BlockRoom k b → Fits l roots (stmts_within b) s.laying → Lays (LaysBlock fs roots k b ds) (stmts_within b) s t

  -- the own block of a function or of the script, with its body
  pub record LaysBody (b : Block) (ds : List (ℕ × Bool)) (o : Opener) (s t : Laying) (made : code.Body) : Type 0 where
    pub numbers : List ℕ
    pub data_are : List Variable
    pub by_rule : LaysBlock fs roots k b ds s t numbers data_are
    pub is : made ≡ record { opener = o; makes = data_are; entries = numbers }
    pub few : IsFew (stmts_within b) s t

  pub record EmitsBody (b : Block) (ds : List (ℕ × Bool)) (o : Opener) (s t : Laying) (made : code.Body) : Type 0 where
    pub lays : (l : Layout) → BlockRoom k b → Fits l roots (stmts_within b) s → LaysBody b ds o s t made

-- a function, whose body is appended
pub record LaysFirst (fs : List Kinds) (roots : ℕ) (f : Function) (ds : List (ℕ × Bool)) (s t : Laying) (old new : List Body) : Type 0 where
  pub numbers : List ℕ
  pub data_are : List Variable
  pub by_rule : LaysBlock fs roots f.inputs f.body ds s t numbers data_are
  pub is : map body_view new ≡ map body_view old ++ record { opener = ByCalls; makes = data_are; entries = numbers } ∷ []
  pub few : IsFew (stmts_within f.body) s t

pub record EmitsFirst (fs : List Kinds) (roots : ℕ) (f : Function) (ds : List (ℕ × Bool)) (s t : Laying) (old new : List Body) : Type 0 where
  pub lays : (l : Layout) → FunctionRoom f → Fits l roots (stmts_within f.body) s → LaysFirst fs roots f ds s t old new

-- functions, whose bodies are appended
pub record LaysBodies (fs : List Kinds) (roots : ℕ) (gs : List Function) (ds : List (ℕ × Bool)) (s t : Laying) (old new : List Body) : Type 0 where
  pub bodies : List code.Body
  pub by_rule : LaysFunctions fs roots gs ds s t bodies
  pub are : map body_view new ≡ map body_view old ++ bodies

pub record EmitsFunctions (fs : List Kinds) (roots : ℕ) (gs : List Function) (ds : List (ℕ × Bool)) (s t : Laying) (old new : List Body) : Type 0 where
  pub lays : (l : Layout) → Each FunctionRoom gs → Fits l roots (stmts_among (function_blocks gs)) s → LaysBodies fs roots gs ds s t old new

-- the conditions of emission on a core
pub record CanBeEmitted (c : Core) : Type 0 where
  pub calls : CallsOnce c
  pub cells : CellsOnce c
  pub reads : ReadsStand c
  pub room : CoreRoom c
  pub size : size_of c ≤ max_entries

-- BY AN EMITTER

-- the code that it has emitted, with the contents of a block
abbrev pub state_with : Emitter → BlockBuilder → State
state_with e f = state e.writer.entries.items e.bodies.items f

-- the code that it has emitted, with the contents of the block under construction
abbrev pub state_of : Emitter → State
state_of e = state_with e e.writer.filling

abbrev pub laying_of : Emitter → Laying
laying_of e = laying e.writer.entries.items (map body_view e.bodies.items)

-- the appended entries of cells are marked with the positions of these cells
abbrev pub AddsMarks : Emitter → Emitter → List Anchor → Type 0
AddsMarks s t cells = MarksGrow s.writer.entries.items t.writer.entries.items cells

-- the number of bodies of the script and its functions
abbrev pub roots_of : {X : Type 0} → List X → ℕ
roots_of fs = length fs + 1

-- in a script with these functions, where all `wait` statements are merged that can be
module _ {A : Type 0} (functions : List (Found A)) where
  -- a block, several statements and one, in a function with k inputs
  abbrev pub EmitsInner : ℕ → Inner A → State → State → Type 0
  EmitsInner k b s t = IsTrue (block_seen b).merged → EmitsBlock (map kinds_of_function functions) (roots_of functions) k (block_view b) (block_declared b) s t

  abbrev pub EmitsStatements : ℕ → List (Statement A) → State → State → Type 0
  EmitsStatements k ss s t =
      IsTrue (all_merged (map statement_seen ss)) → EmitsBlock (map kinds_of_function functions) (roots_of functions) k (block_of (map statement_view ss)) (together (map statement_declared ss)) s t

  abbrev pub EmitsOne : ℕ → Statement A → State → State → Type 0
  EmitsOne k one s t = IsTrue (statement_seen one).merged → EmitsStmt (map kinds_of_function functions) (roots_of functions) k (statement_view one) (statement_declared one) s t

  -- a statement with this action and these declarations
  abbrev pub EmitsAs : StatementAt → Action → List (ℕ × Bool) → Emitter → Emitter → Type 0
  EmitsAs one a ds s t =
      EmitsStmt (map kinds_of_function functions) (roots_of functions) one.standing.inputs (stmt one.standing.at one.node a) ds (state_of s) (state_of t)

  -- a statement without blocks and declarations
  abbrev pub EmitsOwn : StatementAt → Action → Emitter → Emitter → Type 0
  EmitsOwn one a s t = EmitsAs one a [] s t

  -- a statement without a priority of its own
  abbrev pub EmitsAction : StatementAt → Action → List (ℕ × Bool) → Emitter → Emitter → Type 0
  EmitsAction one a ds s t = one.standing.priority ≡ pos 0 → EmitsAs one a ds s t

  -- a statement with blocks, whose waits are merged if `merged` is true
  abbrev pub EmitsMerged : StatementAt → Action → Bool → List (ℕ × Bool) → Emitter → Emitter → Type 0
  EmitsMerged one a merged ds s t = IsTrue merged → EmitsAction one a ds s t

  -- the own block of a function or of the script
  abbrev pub EmitsRoot : ℕ → Inner A → Opener → Emitter → Emitter → code.Body → Type 0
  EmitsRoot k b o s t made =
      IsTrue (block_seen b).merged → EmitsBody (map kinds_of_function functions) (roots_of functions) k (block_view b) (block_declared b) o (laying_of s) (laying_of t) made

  -- a function, and all functions
  abbrev pub EmitsFunction : Found A → Emitter → Emitter → List Body → List Body → Type 0
  EmitsFunction f s t old new =
      IsTrue (block_seen f.body).merged → EmitsFirst (map kinds_of_function functions) (roots_of functions) (function_view f) (block_declared f.body) (laying_of s) (laying_of t) old new

  abbrev pub EmitsAll : Emitter → Emitter → List Body → List Body → Type 0
  EmitsAll s t old new =
      IsTrue (functions_merged functions) → EmitsFunctions (map kinds_of_function functions) (roots_of functions) (map function_view functions) (functions_declared functions) (laying_of s) (laying_of t) old new
