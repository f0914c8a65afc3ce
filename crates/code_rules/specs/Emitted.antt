-- Emitted code: code laid for a core, in which each entry has exactly the rights that it, or an entry that it leads to,
-- uses.
use Rattle.std.specs.List.{flat_map}
use Rattle.std.specs.Prelude.{ℕ, suc, ◌+◌, Bool, List, [], ◌∷◌, map, length}
use Rattle.dataflow.specs.System.{Distinct, In}
use Rattle.language.specs.Core.{Cell, Stmt, stmt, Action, Core}
use Rattle.language.specs.Members.{◌∈◌}
use Rattle.language.specs.Parts.{cells, parts, calls_among, script_stmts}
use Rattle.language_laws.specs.TypedValues.{own_parts}
use Rattle.task_code.specs.Code.{Code, Name, entry, targets}
use Rattle.task_code.specs.Exact.{Leads, needs_of}
use Rattle.code_rules.specs.Laying.{IndexesStand, Kinds, LaysScript}

-- each entry has the rights that it leads to, each once, and no others
pub record HasRights (C : Code) : Type 0 where
  pub reads : (i : ℕ) (r : Name) → In r (entry C i).reads → Leads C needs_of i r
  pub all_reads : (i : ℕ) (r : Name) → Leads C needs_of i r → In r (entry C i).reads
  pub writes : (i : ℕ) (r : Name) → In r (entry C i).writes → Leads C targets i r
  pub all_writes : (i : ℕ) (r : Name) → Leads C targets i r → In r (entry C i).writes
  pub reads_once : (i : ℕ) → Distinct (entry C i).reads
  pub writes_once : (i : ℕ) → Distinct (entry C i).writes

pub record IsEmitted (c : Core) (fs : List Kinds) (ds : List (ℕ × Bool)) (C : Code) : Type 0 where
  pub laid : LaysScript c fs ds C
  pub rights : HasRights C

-- CONDITIONS OF EMISSION ON A CORE

-- each call has an offset of its own
abbrev pub CallsOnce : Core → Type 0
CallsOnce c = Distinct (map (λ call. call.at) (calls_among (script_stmts c)))

-- each cell has a node of its own
abbrev pub CellsOnce : Core → Type 0
CellsOnce c = Distinct (map (λ (cell : Cell). cell.node) (flat_map cells (script_stmts c)))

-- the index cell of a read precedes the read
abbrev pub ReadsStand : Core → Type 0
ReadsStand c = (at n : ℕ) (a : Action) → stmt at n a ∈ script_stmts c → IndexesStand (own_parts a)

-- the number of functions, statements, cells and calls: an upper bound on the number of entries
abbrev pub stmt_size : Stmt → ℕ
stmt_size (stmt at n a) = suc (length (parts a))

abbrev pub stmts_size : List Stmt → ℕ
stmts_size [] = 0
stmts_size (s ∷ ss) = stmt_size s + stmts_size ss

abbrev pub size_of : Core → ℕ
size_of c = length c.functions + stmts_size (script_stmts c)
