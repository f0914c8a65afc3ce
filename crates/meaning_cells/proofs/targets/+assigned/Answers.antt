use Rattle.std.proofs.Common.{rules, List, subst, ◌≡◌, ◌<◌, ◌+◌, length, true, false, get_or, drop, sym, ap, ◌∙◌}
use Rattle.flow.specs.declared.statement.Block.{Block, out-Block}
use Rattle.flow.specs.declared.statement.Statement.{Statement, out-Statement}
use Rattle.flow.specs.View.{owned_view, action_view, block_view, block_of, statements_view}
use Rattle.meaning_cells.specs.Targeted.{assigns_of, assigns_in}
use Rattle.meaning_cells.proofs.Aims.{view_wait, waits_assign, assign_step, hit, miss}
use Rattle.meaning_cells.proofs.targets.+assigned.Goals as goal

pub is_assigned-returns-in-Wait : goal.is_assigned-returns-in-Wait
is_assigned-returns-in-Wait g t c =
    let A = g.row.A.Denot in
    let X = owned_view c.args.what in
    let content : c.deref-in-Wait.result.now ≡ c.in-Wait.content.value = search rules in
    c.is_assigned_in-in-Wait.ensures ∙ ap (λ (z : Block g.row.A.Denot). assigns_in X (block_view {A = A} z)) content ∙ sym (waits_assign {A = A} X c.in-Wait.inner.items (block_view {A = A} c.in-Wait.content.value))
    ∙ ap (assigns_of X) (sym (ap (action_view {A = A}) c.in-Wait.is ∙ view_wait c.in-Wait.names c.in-Wait.inner c.in-Wait.content))

pub is_assigned_in-returns-then-is_assigned : goal.is_assigned_in-returns-then-is_assigned
is_assigned_in-returns-then-is_assigned g t c =
    let A = g.row.A.Denot in
    let X = owned_view c.args.what in
    let ss = (out-Block A c.args.block.now).statements.items in
    let within : c.loop-statement.statement-index < length (out-Block g.row.A.Denot c.args.block.now).statements.items =
    subst (λ (z : List (Statement g.row.A.Denot)). c.loop-statement.statement-index < length z) c.deref-statement-items.ensures.value c.loop-statement-test.true in
    let item : get_or (out-Block g.row.A.Denot c.args.block.now).statements.items c.loop-statement.statement-index c.statement-item.result ≡ c.statement-item.result =
    ap (λ (z : List (Statement g.row.A.Denot)). get_or z c.loop-statement.statement-index c.statement-item.result) (sym c.deref-statement-items.ensures.value) ∙ sym c.statement-item.is in
    let here : assigns_of (owned_view c.args.what) (action_view {A = g.row.A.Denot} (out-Statement g.row.A.Denot (get_or (out-Block g.row.A.Denot c.args.block.now).statements.items c.loop-statement.statement-index c.statement-item.result)).action) ≡ true =
    ap (λ (z : Statement g.row.A.Denot). assigns_of (owned_view c.args.what) (action_view {A = g.row.A.Denot} (out-Statement g.row.A.Denot z).action)) item ∙ sym c.is_assigned.ensures ∙ c.if-is_assigned.true in
    hit (assigns_in X (block_of (statements_view {A = A} (drop (c.loop-statement.statement-index + 1) ss)))) here
    ∙ sym (c.loop-statement.invariant ∙ assign_step A X ss c.loop-statement.statement-index c.statement-item.result within)

pub is_assigned_in-loop-statement-preserved : goal.is_assigned_in-loop-statement-preserved
is_assigned_in-loop-statement-preserved g t c =
    let A = g.row.A.Denot in
    let X = owned_view c.args.what in
    let ss = (out-Block A c.args.block.now).statements.items in
    let within : c.loop-statement.statement-index < length (out-Block g.row.A.Denot c.args.block.now).statements.items =
    subst (λ (z : List (Statement g.row.A.Denot)). c.loop-statement.statement-index < length z) c.deref-statement-items.ensures.value c.loop-statement-test.true in
    let item : get_or (out-Block g.row.A.Denot c.args.block.now).statements.items c.loop-statement.statement-index c.statement-item.result ≡ c.statement-item.result =
    ap (λ (z : List (Statement g.row.A.Denot)). get_or z c.loop-statement.statement-index c.statement-item.result) (sym c.deref-statement-items.ensures.value) ∙ sym c.statement-item.is in
    let here : assigns_of (owned_view c.args.what) (action_view {A = g.row.A.Denot} (out-Statement g.row.A.Denot (get_or (out-Block g.row.A.Denot c.args.block.now).statements.items c.loop-statement.statement-index c.statement-item.result)).action) ≡ false =
    ap (λ (z : Statement g.row.A.Denot). assigns_of (owned_view c.args.what) (action_view {A = g.row.A.Denot} (out-Statement g.row.A.Denot z).action)) item ∙ sym c.is_assigned.ensures ∙ c.if-is_assigned.false in
    c.loop-statement.invariant ∙ assign_step A X ss c.loop-statement.statement-index c.statement-item.result within
    ∙ miss (assigns_in X (block_of (statements_view {A = A} (drop (c.loop-statement.statement-index + 1) ss)))) here
