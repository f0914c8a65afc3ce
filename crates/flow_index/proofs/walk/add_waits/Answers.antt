use Rattle.std.proofs.Common.{rules, arith, ◌≡◌, ◌<◌, ◌+◌, ◌-◌, ◌++◌, ◌∷◌, [], List, length, get_or, take, drop, map, sym, ap, ◌∙◌}
use Rattle.std.proofs.lemmas.Grind.{common_steps}
use Rattle.std.proofs.lemmas.List.{map-append, take_rest}
use Rattle.flow.specs.declared.statement.Header.{Header}
use Rattle.flow.specs.View.{awaited_view, block_view, waits_around}
use Rattle.language.specs.Core.{stmt, wait}
use Rattle.flow_index.specs.declared.site.Site.{Site}
use Rattle.flow_index.specs.Sites.{site_view, sites_view}
use Rattle.flow_index.specs.Waits.{waits_inside}
use Rattle.flow_index.proofs.Walking.{waits_step}
use Rattle.flow_index.proofs.walk.add_waits.Goals as goal

pub loop-i-preserved : goal.loop-i-preserved
loop-i-preserved g c =
    let A = g.row.A.Denot in
    let ws = c.args.waits.now in
    let b = block_view {A = A} c.args.content.now in
    let h = c.index-waits-i.result in
    let old = sites_view {A = A} c.loop-i.sites.items in
    let within : c.loop-i.i < length c.args.waits.now = grind (arith, common_steps) in
    let item : get_or c.args.waits.now c.loop-i.i c.index-waits-i.result ≡ c.index-waits-i.result = search rules in
    let rest = take (length ws - (c.loop-i.i + 1)) (drop (c.loop-i.i + 1) ws) in
    let made : sites_view {A = A} c.push.new.self.items ≡ old ++ stmt h.at h.node (wait (map awaited_view h.names.items) (waits_around rest b)) ∷ [] =
    ap (λ (z : List (Site A)). sites_view {A = A} z) c.in_ok-push.ensures.items ∙ map-append (site_view {A = A}) c.loop-i.sites.items _ in
    waits_step {A = A} ws b c.loop-i.i h
    (sites_view {A = A} c.args.sites.now.items ++ waits_inside {A = A} ws b) old (sites_view {A = A} c.push.new.self.items)
    within c.loop-i.invariant
    (made ∙ ap (λ (z : List (Header A)). old ++ stmt h.at h.node (wait (map awaited_view h.names.items) (waits_around z b)) ∷ []) (take_rest ws (c.loop-i.i + 1))
    ∙ ap (λ (z : Header A). old ++ stmt z.at z.node (wait (map awaited_view z.names.items) (waits_around (drop (c.loop-i.i + 1) ws) b)) ∷ []) (sym item))
