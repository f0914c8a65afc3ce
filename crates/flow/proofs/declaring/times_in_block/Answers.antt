use Rattle.std.proofs.Common.{rules, arith, ◌≡◌, ◌<◌, ◌+◌, length, get_or, drop, sym, ap, ◌∙◌}
use Rattle.std.proofs.lemmas.Grind.{common_steps}
use Rattle.flow.specs.declared.statement.Block.{out-Block}
use Rattle.flow.specs.declared.statement.Statement.{Statement, out-Statement}
use Rattle.flow.specs.View.{action_view, block_view, block_of, statements_view}
use Rattle.flow.specs.Names.{action_nodes, block_nodes}
use Rattle.flow.specs.Viewed.{plus, times_as}
use Rattle.flow.proofs.Times.{one_more, stmts_step}
use Rattle.flow.proofs.declaring.times_in_block.Goals as goal

pub loop-statement-preserved : goal.loop-statement-preserved
loop-statement-preserved g c =
    let A = g.row.A.Denot in
    let n = c.args.node in
    let ss = (out-Block A c.args.block.now).statements.items in
    let at = c.loop-statement.statement-index in
    let rest = block_nodes (block_of (statements_view {A = A} (drop (at + 1) ss))) in
    let within : c.loop-statement.statement-index < length (out-Block g.row.A.Denot c.args.block.now).statements.items = grind (arith, common_steps) in
    let item : get_or (out-Block g.row.A.Denot c.args.block.now).statements.items c.loop-statement.statement-index c.statement-item.result ≡ c.statement-item.result = search rules in
    let here = c.times_in_action.ensures ∙ ap (λ (z : Statement g.row.A.Denot). times_as n (action_nodes (action_view {A = g.row.A.Denot} (out-Statement g.row.A.Denot z).action))) (sym item) in
    ap (λ z. plus z (times_as n rest)) (c.and-times.ensures ∙ ap (plus c.loop-statement.times) here)
    ∙ sym (one_more n c.loop-statement.times (action_nodes (action_view {A = A} (out-Statement A (get_or ss at c.statement-item.result)).action)) rest)
    ∙ ap (λ z. plus c.loop-statement.times (times_as n z)) (sym (stmts_step A ss at c.statement-item.result within))
    ∙ c.loop-statement.invariant
