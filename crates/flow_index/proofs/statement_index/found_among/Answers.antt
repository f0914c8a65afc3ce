use Rattle.std.proofs.Common.{rules, arith, ◌≡◌, ◌<◌, [], nat_eq, length, get_or, refl, sym, subst}
use Rattle.std.proofs.lemmas.Grind.{common_steps}
use Rattle.std.specs.Prelude.{Option, None}
use Rattle.std.specs.HashMap.{get}
use Rattle.flow_index.specs.declared.statement_index.SiteEntry.{SiteEntry}
use Rattle.flow_index.specs.Sites.{IsNoted, nothing}
use Rattle.flow_index.proofs.Noting.{noted_site}
use Rattle.flow_index.proofs.statement_index.found_among.Goals as goal

pub loop-i-init : goal.loop-i-init
loop-i-init g c at =
    let empty : get nat_eq c.new-found.result at ≡ None = search rules in
    subst (λ (o : Option SiteEntry). IsNoted at [] o) (sym empty) (nothing refl)

pub loop-i-preserved : goal.loop-i-preserved
loop-i-preserved g c at =
    let within : c.loop-i.i < length c.args.sites.now = grind (arith, common_steps) in
    let item : get_or c.args.sites.now c.loop-i.i c.index-sites-i.result ≡ c.index-sites-i.result = search rules in
    noted_site c.args.sites.now c.loop-i.i c.index-sites-i.result at (get nat_eq c.loop-i.found at) (get nat_eq c.note.new.found at) within item (c.loop-i.invariant at) (c.in_ok-note.ensures at)
