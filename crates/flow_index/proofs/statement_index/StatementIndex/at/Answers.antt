use Rattle.std.proofs.Common.{rules, ◌≡◌, List, nat_eq, ap, ◌∙◌}
use Rattle.std.specs.Prelude.{Option, Some, option_map, slice_get}
use Rattle.std.specs.HashMap.{get}
use Rattle.flow_index.specs.declared.site.Site.{Site}
use Rattle.flow_index.specs.declared.statement_index.SiteEntry.TheVariants as Is
use Rattle.flow_index.specs.Sites.{site_view}
use Rattle.flow_index.proofs.Finding.{copied_seen, found_once, item_at}
use Rattle.flow_index.proofs.statement_index.StatementIndex.at.Goals as goal

pub returns-in-Some-Once : goal.returns-in-Some-Once
returns-in-Some-Once g c s h =
    let A = g.row.A.Denot in
    let noted : get nat_eq c.args.self.now.found c.args.at ≡ Some (Is.Once c.in-Some-Once.i) = search rules in
    let items : c.deref.result.now ≡ c.args.self.now.all.items = search rules in
    let copied = item_at c.deref.result.now c.in-Some-Once.i c.get.result c.get.ensures.lookup.1 c.get.ensures.lookup.3 ∙ ap (λ (z : List (Site A)). slice_get z c.in-Some-Once.i) items in
    copied_seen {A = A} c.get.result ∙ ap (λ (z : Option (Site A)). option_map (site_view {A = A}) z) copied
    ∙ found_once {A = A} s c.args.self.now c.args.at h c.in-Some-Once.i noted
