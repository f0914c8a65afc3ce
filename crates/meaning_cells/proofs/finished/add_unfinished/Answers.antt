use Rattle.std.proofs.Common.{rules, subst, ◌≡◌, ◌<◌, ◌≤◌, ◌+◌, [], List, true, false, length, get_or, drop, ap, sym, ◌∙◌}
use Rattle.flow.specs.declared.statement.Block.{out-Block}
use Rattle.flow.specs.declared.statement.Statement.{Statement}
use Rattle.flow.specs.View.{owned_view, core_of, block_view, block_of, statement_view, statements_view}
use Rattle.meaning_cells.specs.Ending.{behind, goals_in, goals_of, statement_goals, where_so}
use Rattle.meaning_cells.proofs.Ending.{both_more, both_fail, both_none, drop_past, statement_step}
use Rattle.meaning_cells.proofs.finished.add_unfinished.Goals as goal

pub returns-then-not-branch : goal.returns-then-not-branch
returns-then-not-branch g c =
    let A = g.row.A.Denot in
    let s = core_of {A = A} c.args.flow.now in
    let l = c.args.fact_base.now in
    let a = owned_view c.args.what in
    let ss = (out-Block A c.args.block.now).statements.items in
    let k = c.loop-statement.statement-index in
    let gs = goals_of {A = A} c.loop-statement.tasks.items in
    let within : c.loop-statement.statement-index < length (out-Block g.row.A.Denot c.args.block.now).statements.items =
    subst (λ (z : List (Statement g.row.A.Denot)). c.loop-statement.statement-index < length z) c.deref-statement-items.ensures.value c.loop-statement-test.true in
    let item : get_or (out-Block g.row.A.Denot c.args.block.now).statements.items c.loop-statement.statement-index c.statement-item.result ≡ c.statement-item.result = ap (λ (z : List (Statement g.row.A.Denot)). get_or z c.loop-statement.statement-index c.statement-item.result) (sym c.deref-statement-items.ensures.value) ∙ sym c.statement-item.is in
    let told : where_so false (goals_of {A = g.row.A.Denot} c.add_statement.new.tasks.items) ≡ behind (goals_of {A = g.row.A.Denot} c.loop-statement.tasks.items) (statement_goals (core_of {A = g.row.A.Denot} c.args.flow.now) c.args.fact_base.now c.args.instance (owned_view c.args.what) (statement_view {A = g.row.A.Denot} c.statement-item.result)) = search rules in
    both_fail (behind (goals_of {A = A} c.args.tasks.now.items) (goals_in s l c.args.instance a (block_view {A = A} c.args.block.now))) gs (goals_of {A = A} c.add_statement.new.tasks.items)
    (statement_goals s l c.args.instance a (statement_view {A = A} c.statement-item.result)) (goals_in s l c.args.instance a (block_of (statements_view {A = A} (drop (k + 1) ss))))
    (c.loop-statement.invariant ∙ ap (behind gs) (statement_step {A = A} s l c.args.instance a ss k c.statement-item.result within item)) told

pub loop-statement-preserved : goal.loop-statement-preserved
loop-statement-preserved g c =
    let A = g.row.A.Denot in
    let s = core_of {A = A} c.args.flow.now in
    let l = c.args.fact_base.now in
    let a = owned_view c.args.what in
    let ss = (out-Block A c.args.block.now).statements.items in
    let k = c.loop-statement.statement-index in
    let gs = goals_of {A = A} c.loop-statement.tasks.items in
    let within : c.loop-statement.statement-index < length (out-Block g.row.A.Denot c.args.block.now).statements.items =
    subst (λ (z : List (Statement g.row.A.Denot)). c.loop-statement.statement-index < length z) c.deref-statement-items.ensures.value c.loop-statement-test.true in
    let item : get_or (out-Block g.row.A.Denot c.args.block.now).statements.items c.loop-statement.statement-index c.statement-item.result ≡ c.statement-item.result = ap (λ (z : List (Statement g.row.A.Denot)). get_or z c.loop-statement.statement-index c.statement-item.result) (sym c.deref-statement-items.ensures.value) ∙ sym c.statement-item.is in
    let told : where_so true (goals_of {A = g.row.A.Denot} c.add_statement.new.tasks.items) ≡ behind (goals_of {A = g.row.A.Denot} c.loop-statement.tasks.items) (statement_goals (core_of {A = g.row.A.Denot} c.args.flow.now) c.args.fact_base.now c.args.instance (owned_view c.args.what) (statement_view {A = g.row.A.Denot} c.statement-item.result)) = search rules in
    both_more (behind (goals_of {A = A} c.args.tasks.now.items) (goals_in s l c.args.instance a (block_view {A = A} c.args.block.now))) gs (goals_of {A = A} c.add_statement.new.tasks.items)
    (statement_goals s l c.args.instance a (statement_view {A = A} c.statement-item.result)) (goals_in s l c.args.instance a (block_of (statements_view {A = A} (drop (k + 1) ss))))
    (c.loop-statement.invariant ∙ ap (behind gs) (statement_step {A = A} s l c.args.instance a ss k c.statement-item.result within item)) told

pub returns : goal.returns
returns g c =
    let A = g.row.A.Denot in
    let s = core_of {A = A} c.args.flow.now in
    let l = c.args.fact_base.now in
    let a = owned_view c.args.what in
    let gs = goals_of {A = A} c.loop-statement.tasks.items in
    let past : length (out-Block g.row.A.Denot c.args.block.now).statements.items ≤ c.loop-statement.statement-index =
    subst (λ (z : List (Statement g.row.A.Denot)). length z ≤ c.loop-statement.statement-index) c.deref-statement-items.ensures.value c.loop-statement-test.false in
    let none : drop c.loop-statement.statement-index (out-Block g.row.A.Denot c.args.block.now).statements.items ≡ [] = drop_past (out-Block g.row.A.Denot c.args.block.now).statements.items c.loop-statement.statement-index past in
    both_none (behind (goals_of {A = A} c.args.tasks.now.items) (goals_in s l c.args.instance a (block_view {A = A} c.args.block.now))) gs
    (c.loop-statement.invariant ∙ ap (λ (z : List (Statement g.row.A.Denot)). behind (goals_of {A = g.row.A.Denot} c.loop-statement.tasks.items) (goals_in (core_of {A = g.row.A.Denot} c.args.flow.now) c.args.fact_base.now c.args.instance (owned_view c.args.what) (block_of (statements_view {A = g.row.A.Denot} z)))) none)
