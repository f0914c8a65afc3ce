-- The blocked statements and faults of what is known, in their order.
use Rattle.std.specs.Prelude.{◌≡◌, ℕ, List, map, reverse}
use Rattle.language.specs.Core.{Core}
use Rattle.language.specs.Facts as script
use Rattle.language.specs.Facts.{Knowledge}
use Rattle.language.specs.Members.{◌∈◌}
use Rattle.language.specs.Outcomes.{Blocked, Faults}
use Rattle.language.specs.Places.{Path}
use Rattle.meaning_facts.specs.declared.facts.FaultFact.{FaultFact}
use Rattle.paths.specs.declared.faults.FaultKind.{FaultKind}
use Rattle.meaning_facts.specs.declared.instances.Instance.{Instance}
use Rattle.meaning_facts.specs.Kinds.{kind_view}
use Rattle.meaning_facts.specs.Paths as instances
use Rattle.meaning_facts.specs.Paths.{step_view}
use Rattle.meaning_outcomes.specs.declared.knowledge.BlockedId.{BlockedId}
use Rattle.paths.specs.declared.faults.Fault.{Fault}
use Rattle.paths.specs.declared.statements.StatementInstance.{StatementInstance}
use Rattle.meaning_outcomes.specs.Lists.{IsInOrder}
use Rattle.paths.specs.Order.{fault_below, statement_below}

-- the path of a statement, innermost step first
abbrev pub path_of : StatementInstance → Path
path_of b = reverse (map step_view b.path.items)

-- these are exactly the blocked statements, in order
pub record AreBlocked (s : Core) (K : Knowledge) (bs : List StatementInstance) : Type 0 where
  pub order : IsInOrder statement_below bs
  pub each : (b : StatementInstance) → b ∈ bs → Blocked s K b.at (path_of b)
  pub all : (at : ℕ) (path : Path) → Blocked s K at path → (b : StatementInstance) × (b ∈ bs) × (b.at ≡ at) × (path_of b ≡ path)

-- these are exactly the faults, in order
pub record AreFaults (K : Knowledge) (fs : List Fault) : Type 0 where
  pub order : IsInOrder fault_below fs
  pub each : (f : Fault) → f ∈ fs → Faults K (kind_view f.kind) f.statement.at (path_of f.statement)
  pub all : (kind : script.Fault) (at : ℕ) (path : Path) → Faults K kind at path
      → (f : Fault) × (f ∈ fs) × (kind_view f.kind ≡ kind) × (f.statement.at ≡ at) × (path_of f.statement ≡ path)

-- IDENTITY OF STATEMENTS AND FAULTS

pub record Point : Type 0 where
  pub at : ℕ
  pub path : Path

abbrev pub point_of : StatementInstance → Point
point_of b = record { at = b.at; path = path_of b }

abbrev pub stuck_point : List Instance → BlockedId → Point
stuck_point ns b = record { at = b.at; path = instances.path_of ns b.instance }

pub record Mark : Type 0 where
  pub kind : FaultKind
  pub point : Point

abbrev pub mark_of : Fault → Mark
mark_of f = record { kind = f.kind; point = point_of f.statement }

abbrev pub held_mark : List Instance → FaultFact → Mark
held_mark ns g = record { kind = g.kind; point = record { at = g.at; path = instances.path_of ns g.place.instance } }
