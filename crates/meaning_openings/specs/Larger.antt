-- More of a script is live than the limit allows.
use Rattle.std.specs.Prelude.{◌≡◌, ◌⊎◌, ℕ, suc, ◌<◌, ◌≤◌, cond, nat_eq, List, [], ◌∷◌, length}
use Rattle.std.specs.List.{IsDistinct}
use Rattle.language.specs.Core.{Block, Core, Stmt}
use Rattle.language.specs.Meaning.{Known, Live, LiveStmt}
use Rattle.language.specs.Members.{◌∈◌}
use Rattle.language.specs.Parts.{stmt_node}
use Rattle.language.specs.Places.{Path, Place}
use Rattle.meaning_facts.specs.declared.facts.Place.{Place as Spot}
use Rattle.meaning_facts.specs.declared.instances.Instance.{Instance}
use Rattle.meaning_facts.specs.Store.{same_place}
use Rattle.meaning_invariants.specs.Active.{Active}

-- more blocks than the limit are live after n rounds, no two at one path
pub record OpensMore (s : Core) (n most : ℕ) : Type 0 where
  pub path : ℕ → Path
  pub live : (i : ℕ) → i ≤ most → (b : Block) × Live s (Known s n) (path i) b
  pub apart : (i j : ℕ) → i ≤ most → j ≤ most → path i ≡ path j → i ≡ j

-- more statements than the limit are live after n rounds, no two at one place
pub record LivesMore (s : Core) (n most : ℕ) : Type 0 where
  pub place : ℕ → Place
  pub live : (i : ℕ) → i ≤ most → (st : Stmt) × LiveStmt s (Known s n) (place i).0 st × (stmt_node st ≡ (place i).1)
  pub apart : (i j : ℕ) → i ≤ most → j ≤ most → place i ≡ place j → i ≡ j

-- more blocks or more statements are live
abbrev pub IsLarger : Core → ℕ → ℕ → Type 0
IsLarger s n most = OpensMore s n most ⊎ LivesMore s n most

-- WHAT A PROGRAM COUNTS

-- the numbers of those instances that are turns of loops, for consecutive numbers from one on
abbrev pub turns_from : ℕ → List Instance → List ℕ
turns_from i [] = []
turns_from i (x ∷ xs) = cond (nat_eq (length x.given.variables.items) 0) (turns_from (suc i) xs) (i ∷ turns_from (suc i) xs)

-- a live statement is at a place
pub record IsOwn (ls : List Active) (p : Spot) : Type 0 where
  pub active : Active
  pub there : active ∈ ls
  pub instance_is : active.instance ≡ p.instance
  pub node_is : stmt_node active.statement ≡ p.node

-- live statements are at more places than the limit
pub record OwnsMore (ls : List Active) (most : ℕ) : Type 0 where
  pub places : List Spot
  pub distinct : IsDistinct same_place places
  pub own : (p : Spot) → p ∈ places → IsOwn ls p
  pub many : most < length places
