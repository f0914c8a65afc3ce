-- A statement is found by what is noted of its offset.
use Rattle.std.specs.Prelude.{◌≡◌, ℕ, ◌<◌, ◌≤◌, nat_eq, List, length, Option, Some, None, option_copied, option_map, IfSome, slice_get, refl}
use Rattle.std.specs.Borrow.{Bor}
use Rattle.std.specs.HashMap.{get}
use Rattle.std.specs.List.{HoldsAt}
use Rattle.std.specs.Option.{MatchOption}
use Rattle.std.proofs.Common.{sym, ap, ◌∙◌, get_or}
use Rattle.std.proofs.lemmas.Option.{slice_get-get_or, slice_get-map, slice_get_past}
use Rattle.language.specs.Core.{Core, Stmt}
use Rattle.language.specs.Parts.{script_stmts}
use Rattle.flow_index.specs.declared.site.Site.{Site}
use Rattle.flow_index.specs.declared.statement_index.SiteEntry.TheVariants as Is
use Rattle.flow_index.specs.declared.statement_index.StatementIndex.{StatementIndex}
use Rattle.flow_index.specs.Candidates.{candidates, only}
use Rattle.flow_index.specs.Sites.{site_view, AreSites}
use Rattle.flow_index.proofs.Noting.{nothing_noted, only_noted, several_noted}

pub copied_seen : {A : Type 0} (r : Option (Bor (Site A))) → option_map (λ (b : Bor (Site A)). site_view b.now) r ≡ option_map (site_view {A = A}) (option_copied r)
copied_seen None = refl
copied_seen (Some b) = refl

-- what is got of a list is what stands there
pub item_at : {X : Type 0} (xs : List X) (i : ℕ) (r : Option (Bor X)) → IfSome r (λ x. x.now ≡ get_or xs i x.now)
    → MatchOption r (length xs ≤ i) (λ x. (i < length xs) × HoldsAt (λ y. x.now ≡ y) xs i) → option_copied r ≡ slice_get xs i
item_at xs i None e m = sym (slice_get_past xs i m)
item_at {X} xs i (Some b) e m = ap (λ (z : X). Some z) e ∙ sym (slice_get-get_or xs i b.now m.0)

module _ {A : Type 0} (s : Core) (sites : StatementIndex A) (at : ℕ) (h : AreSites s sites) where
  pub found_once : (i : ℕ) → get nat_eq sites.found at ≡ Some (Is.Once i) → option_map (site_view {A = A}) (slice_get sites.all.items i) ≡ only (candidates at (script_stmts s))
  found_once i e =
      sym (slice_get-map (site_view {A = A}) sites.all.items i) ∙ ap (λ (z : List Stmt). slice_get z i) h.all
      ∙ only_noted at (script_stmts s) i (get nat_eq sites.found at) e (h.noted at)

  pub found_nothing : get nat_eq sites.found at ≡ None → None ≡ only (candidates at (script_stmts s))
  found_nothing e = sym (nothing_noted at (script_stmts s) (get nat_eq sites.found at) e (h.noted at))

  pub found_several : get nat_eq sites.found at ≡ Some Is.Often → None ≡ only (candidates at (script_stmts s))
  found_several e = sym (several_noted at (script_stmts s) (get nat_eq sites.found at) e (h.noted at))
