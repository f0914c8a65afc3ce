use Rattle.std.proofs.Common.{arith, ◌≡◌, ◌<◌, ◌++◌, ◌∷◌, [], List, length, get_or, drop, sym, ap, ◌∙◌, refl}
use Rattle.std.proofs.lemmas.Grind.{common_steps}
use Rattle.std.proofs.lemmas.List.{append-nil, map-append}
use Rattle.flow.specs.declared.statement.Block.{out-Block}
use Rattle.flow.specs.declared.statement.Statement.{Statement}
use Rattle.flow.specs.View.{block_view, statement_view, statements_view}
use Rattle.language.specs.Core.{Stmt}
use Rattle.language.specs.Parts.{block_list}
use Rattle.flow_index.specs.declared.site.Site.{Site}
use Rattle.flow_index.specs.Sites.{site_view, sites_view}
use Rattle.flow_index.proofs.Adding.{one_more}
use Rattle.flow_index.proofs.Walking.{listed_block}
use Rattle.flow_index.proofs.walk.add_statements.Goals as goal

pub loop-statement-init : goal.loop-statement-init
loop-statement-init g c =
    let A = g.row.A.Denot in
    ap (λ (z : List Stmt). sites_view {A = A} c.args.sites.now.items ++ z) (listed_block A c.args.block.now)

pub loop-statement-preserved : goal.loop-statement-preserved
loop-statement-preserved g c =
    let A = g.row.A.Denot in
    let ss = (out-Block A c.args.block.now).statements.items in
    let within : c.loop-statement.statement-index < length (out-Block g.row.A.Denot c.args.block.now).statements.items = grind (arith, common_steps) in
    let item : get_or (out-Block g.row.A.Denot c.args.block.now).statements.items c.loop-statement.statement-index c.statement-item.result ≡ c.statement-item.result = grind (arith, common_steps) in
    let made : sites_view {A = A} c.push.new.self.items ≡ sites_view {A = A} c.loop-statement.sites.items ++ statement_view {A = A} c.statement-item.result ∷ [] =
    ap (λ (z : List (Site A)). sites_view {A = A} z) c.in_ok-push.ensures.items ∙ map-append (site_view {A = A}) c.loop-statement.sites.items _ in
    one_more (λ (z : List (Statement A)). statements_view {A = A} z) (λ (z : Statement A). statement_view {A = A} z ∷ []) (λ x ys. refl)
    (sites_view {A = A} c.args.sites.now.items ++ block_list (block_view {A = A} c.args.block.now)) (sites_view {A = A} c.loop-statement.sites.items) (sites_view {A = A} c.push.new.self.items)
    ss c.loop-statement.statement-index c.statement-item.result within item c.loop-statement.invariant made

pub returns : goal.returns
returns g c =
    let A = g.row.A.Denot in
    let behind : drop c.loop-statement.statement-index (out-Block g.row.A.Denot c.args.block.now).statements.items ≡ [] = grind (arith, common_steps) in
    let made = sites_view {A = A} c.loop-statement.sites.items in
    sym (c.loop-statement.invariant ∙ ap (λ (z : List (Statement A)). made ++ statements_view {A = A} z) behind ∙ append-nil made)
