-- The statements of a flow as statements of the core.
use Rattle.std.specs.Prelude.{◌≡◌, ℕ, ◌≤◌, List, [], ◌∷◌, length, map, nat_eq, Option, Some, None, slice_get}
use Rattle.std.specs.HashMap.{get}
use Rattle.language.specs.Core.{Core, Stmt, stmt, wait}
use Rattle.language.specs.Parts.{script_stmts}
use Rattle.flow.specs.View.{awaited_view, block_view, statement_view, waits_around}
use Rattle.flow_index.specs.declared.site.StatementForm.{StatementForm}
use Rattle.flow_index.specs.declared.site.StatementForm.TheVariants as Stands
use Rattle.flow_index.specs.declared.site.Site.{Site}
use Rattle.flow_index.specs.declared.statement_index.SiteEntry.{SiteEntry}
use Rattle.flow_index.specs.declared.statement_index.SiteEntry.TheVariants as Is
use Rattle.flow_index.specs.declared.statement_index.StatementIndex.{StatementIndex}
use Rattle.flow_index.specs.Candidates.{candidates}

abbrev pub form_view : {A : Type 0} → StatementForm A → Stmt
form_view (Stands.Whole s) = statement_view s.now
form_view (Stands.Inner h hs b) = stmt h.now.at h.now.node (wait (map awaited_view h.now.names.items) (waits_around hs.now (block_view b.now)))

abbrev pub site_view : {A : Type 0} → Site A → Stmt
site_view s = form_view s.form

abbrev pub sites_view : {A : Type 0} → List (Site A) → List Stmt
sites_view ss = map site_view ss

-- the entry of an offset: of these statements none there can be blocked, or one, given by its position, or several
pub data IsNoted (at : ℕ) (ss : List Stmt) : Option SiteEntry → Type 0 where
  nothing : candidates at ss ≡ [] → IsNoted at ss None
  one : {i : ℕ} {st : Stmt} → slice_get ss i ≡ Some st → candidates at ss ≡ st ∷ [] → IsNoted at ss (Some (Is.Once i))
  several : 2 ≤ length (candidates at ss) → IsNoted at ss (Some Is.Often)

-- these are all statements of a script, with the entry of each offset
pub record AreSites {A : Type 0} (s : Core) (sites : StatementIndex A) : Type 0 where
  pub all : sites_view sites.all.items ≡ script_stmts s
  pub noted : (at : ℕ) → IsNoted at (script_stmts s) (get nat_eq sites.found at)
