use Rattle.std.proofs.Common.{rules, arith, ◌≡◌, ◌<◌, ◌++◌, [], List, length, get_or, drop, sym, ap, ◌∙◌}
use Rattle.std.proofs.lemmas.Grind.{common_steps}
use Rattle.std.proofs.lemmas.List.{append-nil, append_assoc}
use Rattle.std.proofs.lemmas.Result.{on_ok_weaker}
use Rattle.flow.specs.declared.statement.Action.{Action}
use Rattle.flow.specs.declared.statement.Block.{out-Block}
use Rattle.flow.specs.declared.statement.Statement.{Statement}
use Rattle.flow.specs.View.{action_view, block_view}
use Rattle.language.specs.Core.{Stmt}
use Rattle.language.specs.Parts.{block_list, blocks_inside, stmts_within}
use Rattle.flow_index.specs.Sites.{sites_view}
use Rattle.flow_index.proofs.Adding.{one_more}
use Rattle.flow_index.proofs.Walking.{below_more, below_of, inside_each, inside_of, inside_range, inside_when, one_within, two_within, wait_within, within_block}
use Rattle.flow_index.proofs.walk.+walk.Goals as goal

pub add_block-loop-statement-init : goal.add_block-loop-statement-init
add_block-loop-statement-init g t c =
    let A = g.row.A.Denot in
    let b = c.args.block.now in
    let old = sites_view {A = A} c.args.sites.now.items in
    let below = below_of A (out-Block A b).statements.items in
    ap (λ (z : List Stmt). old ++ z) (within_block A b) ∙ sym (append_assoc old (block_list (block_view {A = A} b)) below)
    ∙ ap (λ (z : List Stmt). z ++ below) (sym c.in_ok-add_statements.ensures)

pub add_block-loop-statement-preserved : goal.add_block-loop-statement-preserved
add_block-loop-statement-preserved g t c =
    let A = g.row.A.Denot in
    let ss = (out-Block A c.args.block.now).statements.items in
    let within : c.loop-statement.statement-index < length (out-Block g.row.A.Denot c.args.block.now).statements.items = grind (arith, common_steps) in
    let item : get_or (out-Block g.row.A.Denot c.args.block.now).statements.items c.loop-statement.statement-index c.statement-item.result ≡ c.statement-item.result = search rules in
    one_more (λ (z : List (Statement A)). below_of A z) (λ (z : Statement A). inside_of A z) (λ x ys. below_more A x ys)
    (sites_view {A = A} c.args.sites.now.items ++ stmts_within (block_view {A = A} c.args.block.now)) (sites_view {A = A} c.loop-statement.sites.items) (sites_view {A = A} c.add_inside.new.sites.items)
    ss c.loop-statement.statement-index c.statement-item.result within item c.loop-statement.invariant c.in_ok-add_inside.ensures

pub add_block-returns : goal.add_block-returns
add_block-returns g t c =
    let A = g.row.A.Denot in
    let behind : drop c.loop-statement.statement-index (out-Block g.row.A.Denot c.args.block.now).statements.items ≡ [] = grind (arith, common_steps) in
    let made = sites_view {A = A} c.loop-statement.sites.items in
    sym (c.loop-statement.invariant ∙ ap (λ (z : List (Statement A)). made ++ below_of A z) behind ∙ append-nil made)

pub add_inside-returns-in-When : goal.add_inside-returns-in-When
add_inside-returns-in-When g t c =
    let A = g.row.A.Denot in
    let content : c.deref.result.now ≡ c.in-When.then.value = search rules in
    on_ok_weaker c.add_block.result
    (one_within {A = A} c.args.action.now c.deref.result.now c.in-When.then.value (sites_view {A = A} c.args.sites.now.items) (sites_view {A = A} c.add_block.new.sites.items)
    (ap (λ (z : Action A). blocks_inside (action_view {A = A} z)) c.in-When.is ∙ inside_when c.in-When.condition c.in-When.then) content)
    c.add_block.ensures

pub add_inside-returns-in_ok-add_block-in-Choose : goal.add_inside-returns-in_ok-add_block-in-Choose
add_inside-returns-in_ok-add_block-in-Choose g t c =
    let A = g.row.A.Denot in
    let first : c.deref-in-Choose.result.now ≡ c.in-Choose.then.value = search rules in
    let second : c.deref-in-Choose-2.result.now ≡ c.in-Choose.other.value = search rules in
    on_ok_weaker c.add_block-in-Choose-2.result
    (two_within {A = A} c.args.action.now c.in-Choose.condition c.in-Choose.then c.in-Choose.other c.deref-in-Choose.result.now c.deref-in-Choose-2.result.now
    (sites_view {A = A} c.args.sites.now.items) (sites_view {A = A} c.add_block-in-Choose.new.sites.items) (sites_view {A = A} c.add_block-in-Choose-2.new.sites.items)
    c.in-Choose.is first second c.in_ok-add_block-in-Choose.ensures)
    c.add_block-in-Choose-2.ensures

pub add_inside-returns-in-Range : goal.add_inside-returns-in-Range
add_inside-returns-in-Range g t c =
    let A = g.row.A.Denot in
    let content : c.deref-in-Range.result.now ≡ c.in-Range.body.value = search rules in
    on_ok_weaker c.add_block-in-Range.result
    (one_within {A = A} c.args.action.now c.deref-in-Range.result.now c.in-Range.body.value (sites_view {A = A} c.args.sites.now.items) (sites_view {A = A} c.add_block-in-Range.new.sites.items)
    (ap (λ (z : Action A). blocks_inside (action_view {A = A} z)) c.in-Range.is ∙ inside_range c.in-Range.range c.in-Range.value c.in-Range.turn c.in-Range.body) content)
    c.add_block-in-Range.ensures

pub add_inside-returns-in-Each : goal.add_inside-returns-in-Each
add_inside-returns-in-Each g t c =
    let A = g.row.A.Denot in
    let content : c.deref-in-Each.result.now ≡ c.in-Each.body.value = search rules in
    on_ok_weaker c.add_block-in-Each.result
    (one_within {A = A} c.args.action.now c.deref-in-Each.result.now c.in-Each.body.value (sites_view {A = A} c.args.sites.now.items) (sites_view {A = A} c.add_block-in-Each.new.sites.items)
    (ap (λ (z : Action A). blocks_inside (action_view {A = A} z)) c.in-Each.is ∙ inside_each c.in-Each.array c.in-Each.value c.in-Each.key c.in-Each.body) content)
    c.add_block-in-Each.ensures

pub add_inside-returns-in_ok-add_waits-in-Wait : goal.add_inside-returns-in_ok-add_waits-in-Wait
add_inside-returns-in_ok-add_waits-in-Wait g t c =
    let A = g.row.A.Denot in
    let waits : c.as_slice.result.now ≡ c.in-Wait.inner.items = search rules in
    let first : c.deref-in-Wait.result.now ≡ c.in-Wait.content.value = search rules in
    let second : c.deref-in-Wait-2.result.now ≡ c.in-Wait.content.value = search rules in
    on_ok_weaker c.add_block-in-Wait.result
    (wait_within {A = A} c.args.action.now c.in-Wait.names c.in-Wait.inner c.in-Wait.content c.as_slice.result.now c.deref-in-Wait.result.now c.deref-in-Wait-2.result.now
    (sites_view {A = A} c.args.sites.now.items) (sites_view {A = A} c.add_waits.new.sites.items) (sites_view {A = A} c.add_block-in-Wait.new.sites.items)
    c.in-Wait.is waits first second c.in_ok-add_waits-in-Wait.ensures)
    c.add_block-in-Wait.ensures
