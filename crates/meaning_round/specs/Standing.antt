-- The live statements of a program are those of the script after n rounds, and the fact base is what is known then.
use Rattle.std.specs.Prelude.{◌≡◌, ◌⊎◌, ℕ, ◌<◌, List, [], ◌∷◌, ◌++◌, length, map}
use Rattle.flow.specs.View.{action_view, awaited_view, block_view, waits_around}
use Rattle.meaning_steps.specs.Kept.{Keeps}
use Rattle.language.specs.Core as core
use Rattle.language.specs.Core.{Core, Stmt, stmt, wait}
use Rattle.language.specs.Facts.{Fact, Knowledge}
use Rattle.language.specs.Meaning.{Known, LiveStmt}
use Rattle.language.specs.Members.{◌∈◌}
use Rattle.language.specs.Parts.{stmt_action, stmt_at, stmt_node}
use Rattle.language.specs.Places.{Path}
use Rattle.meaning_facts.specs.declared.instances.Instance.{Instance}
use Rattle.meaning_facts.specs.declared.fact_base.FactBase.{FactBase}
use Rattle.meaning_facts.specs.Keeping.{kept_of, IsPlaced}
use Rattle.meaning_facts.specs.Paths.{path_of}
use Rattle.meaning_invariants.specs.Held.{HasPlaces}
use Rattle.meaning_invariants.specs.Active.{Active, active, IsListed}
use Rattle.meaning_round.specs.declared.site.LiveStatement.{LiveStatement}
use Rattle.meaning_round.specs.declared.state.BlockContent.{BlockContent}
use Rattle.meaning_round.specs.declared.state.LiveAction.{LiveAction}
use Rattle.meaning_round.specs.declared.state.LiveTask.{LiveTask}
use Rattle.meaning_round.specs.Told.{site_news}

abbrev pub content_view : {A : Type 0} → BlockContent A → core.Block
content_view c = waits_around c.waits.now (block_view c.block.now)

abbrev pub deed_view : {A : Type 0} → LiveAction A → core.Action
deed_view (LiveAction.Does a) = action_view a.now
deed_view (LiveAction.Waits ns c) = wait (map awaited_view ns.now) (content_view c)

-- a live statement, by its instance
abbrev pub active_of : {A : Type 0} → LiveTask A → Active
active_of t = active t.site.instance (stmt t.site.at t.site.node (deed_view t.live_action))

abbrev pub active_path : FactBase → Active → Path
active_path l a = path_of l.instances.all.items a.instance

abbrev pub site_of : Active → LiveStatement
site_of a = record { instance = a.instance; at = stmt_at a.statement; node = stmt_node a.statement }

-- the facts that a round derives from a statement
abbrev pub active_news : FactBase → Active → List Fact
active_news l a = site_news l (site_of a) (stmt_action a.statement)

abbrev pub actives_news : FactBase → List Active → List Fact
actives_news l [] = []
actives_news l (a ∷ others) = active_news l a ++ actives_news l others

-- the instances of these exist, and the places of names in them do
abbrev pub HavePlaces : List Instance → List Active → Type 0
HavePlaces ns xs = (a : Active) → a ∈ xs → HasPlaces ns a.instance

-- these are exactly the live statements, and those not in the second list have no new fact
pub record AreLive (s : Core) (K : Knowledge) (l : FactBase) (ls telling : List Active) : Type 0 where
  pub within : (a : Active) → a ∈ ls → a.instance < length l.instances.all.items
  pub so : (a : Active) → a ∈ ls → LiveStmt s K (active_path l a) a.statement
  pub all : (path : Path) (st : Stmt) → LiveStmt s K path st → IsListed l ls path st
  pub among : (a : Active) → a ∈ telling → a ∈ ls
  pub quiet : (a : Active) → a ∈ ls → (a ∈ telling) ⊎ (active_news l a ≡ [])

-- the fact base is what is known after n rounds, and each instance is at the path of a block
pub record IsAfter (s : Core) (n : ℕ) (l : FactBase) (ls telling : List Active) : Type 0 where
  pub keeps : Keeps s (Known s n) (kept_of l)
  pub placed : IsPlaced s l.instances
  pub live : AreLive s (Known s n) l ls telling
