use Rattle.std.proofs.Common.{rules, List, ℕ, ◌≡◌, ◌<◌, ◌≤◌, ◌+◌, length, get_or, drop, sym, ap, subst, ◌∙◌}
use Rattle.std.proofs.lemmas.Result.{on_ok_weaker}
use Rattle.std.specs.Prelude.{Bool, ◌&&◌, ◌||◌, nat_eq, OnOk}
use Rattle.std.specs.HashSet.{contains}
use Rattle.std.specs.List.{list_any}
use Rattle.flow.specs.declared.statement.Action.{Action}
use Rattle.flow.specs.declared.statement.Block.{Block, out-Block}
use Rattle.flow.specs.declared.statement.Statement.{Statement, out-Statement}
use Rattle.flow.specs.View.{action_view, block_view, block_of, statements_view}
use Rattle.language.specs.Core as core
use Rattle.language.specs.Core.{local}
use Rattle.meaning_cells.proofs.Aims.{view_wait}
use Rattle.meaning_invariants.specs.Never.{never_by, never_in}
use Rattle.meaning_round.specs.Made.{is_sought, no_calls}
use Rattle.meaning_round.proofs.Never.{adds_none, adds_past, adds_step, among_both, call_never, waits_never, never_past, never_step, never_whole}
use Rattle.meaning_round.proofs.Never.{view_assert, view_assign, view_choose, view_declare, view_each, view_fill, view_insert, view_print, view_range, view_when}
use Rattle.meaning_round.proofs.never_closed.+never.Goals as goal

pub add_never_closed-loop-statement-init : goal.add_never_closed-loop-statement-init
add_never_closed-loop-statement-init g t c = λ n.
    ap (λ (z : Bool). contains nat_eq c.args.never_closed.now n || (is_sought c.args.sought n && z)) (never_whole g.row.A.Denot (local n) c.args.block.now)

pub add_never_closed-loop-statement-preserved : goal.add_never_closed-loop-statement-preserved
add_never_closed-loop-statement-preserved g t c =
    let A = g.row.A.Denot in
    let ss = (out-Block A c.args.block.now).statements.items in
    let within : c.loop-statement.statement-index < length (out-Block g.row.A.Denot c.args.block.now).statements.items =
    subst (λ (z : List (Statement g.row.A.Denot)). c.loop-statement.statement-index < length z) c.deref-statement-items.ensures.value c.loop-statement-test.true in
    let item : c.statement-item.result ≡ get_or (out-Block g.row.A.Denot c.args.block.now).statements.items c.loop-statement.statement-index c.statement-item.result =
    c.statement-item.is ∙ ap (λ (z : List (Statement g.row.A.Denot)). get_or z c.loop-statement.statement-index c.statement-item.result) c.deref-statement-items.ensures.value in
    λ n.
    c.loop-statement.invariant n
    ∙ ap (λ (z : Bool). contains nat_eq c.loop-statement.never_closed n || (is_sought c.args.sought n && z)) (never_step A (local n) ss c.loop-statement.statement-index c.statement-item.result within)
    ∙ adds_step (contains nat_eq c.loop-statement.never_closed n) (contains nat_eq c.add_never.new.never_closed n) (is_sought c.args.sought n)
    (never_by no_calls (local n) (action_view {A = A} (out-Statement A (get_or ss c.loop-statement.statement-index c.statement-item.result)).action))
    (never_in no_calls (local n) (block_of (statements_view {A = A} (drop (c.loop-statement.statement-index + 1) ss))))
    (c.in_ok-add_never.ensures n
    ∙ ap (λ (z : Statement g.row.A.Denot). contains nat_eq c.loop-statement.never_closed n || (is_sought c.args.sought n && never_by no_calls (local n) (action_view {A = g.row.A.Denot} (out-Statement g.row.A.Denot z).action))) item)

pub add_never_closed-returns : goal.add_never_closed-returns
add_never_closed-returns g t c =
    let A = g.row.A.Denot in
    let past = subst (λ (z : List (Statement A)). length z ≤ c.loop-statement.statement-index) c.deref-statement-items.ensures.value c.loop-statement-test.false in
    λ n.
    sym (c.loop-statement.invariant n
    ∙ ap (λ (z : Bool). contains nat_eq c.loop-statement.never_closed n || (is_sought c.args.sought n && z)) (never_past A (local n) (out-Block A c.args.block.now).statements.items c.loop-statement.statement-index past)
    ∙ adds_past (contains nat_eq c.loop-statement.never_closed n) (is_sought c.args.sought n))

pub add_never-returns-in-Assign : goal.add_never-returns-in-Assign
add_never-returns-in-Assign g t c =
    let A = g.row.A.Denot in
    subst (λ (z : core.Action). OnOk c.add_target.result ((n : ℕ) → contains nat_eq c.add_target.new.never_closed n ≡ contains nat_eq c.args.never_closed.now n || (is_sought c.args.sought n && never_by no_calls (local n) z)))
    (sym (ap (action_view {A = A}) c.in-Assign.is ∙ view_assign {A = A} c.in-Assign.target c.in-Assign.right)) c.add_target.ensures

pub add_never-returns-in-Wait : goal.add_never-returns-in-Wait
add_never-returns-in-Wait g t c =
    let A = g.row.A.Denot in
    let content : c.deref-in-Wait.result.now ≡ c.in-Wait.content.value = search rules in
    let is : (n : ℕ) → never_in no_calls (local n) (block_view {A = g.row.A.Denot} c.deref-in-Wait.result.now) ≡ never_by no_calls (local n) (action_view {A = g.row.A.Denot} c.args.action.now) = λ n.
    ap (λ (z : Block g.row.A.Denot). never_in no_calls (local n) (block_view {A = A} z)) content ∙ sym (waits_never {A = A} (local n) c.in-Wait.inner.items (block_view {A = A} c.in-Wait.content.value))
    ∙ ap (never_by no_calls (local n)) (sym (ap (action_view {A = A}) c.in-Wait.is ∙ view_wait c.in-Wait.names c.in-Wait.inner c.in-Wait.content)) in
    on_ok_weaker c.add_never_closed-in-Wait.result
    (λ (h : (n : ℕ) → contains nat_eq c.add_never_closed-in-Wait.new.never_closed n ≡ contains nat_eq c.args.never_closed.now n || (is_sought c.args.sought n && never_in no_calls (local n) (block_view {A = g.row.A.Denot} c.deref-in-Wait.result.now))) n.
    h n ∙ ap (λ (z : Bool). contains nat_eq c.args.never_closed.now n || (is_sought c.args.sought n && z)) (is n))
    c.add_never_closed-in-Wait.ensures

pub add_never-returns-in-Call : goal.add_never-returns-in-Call
add_never-returns-in-Call g t c =
    let A = g.row.A.Denot in
    adds_none (contains nat_eq c.args.never_closed.now) (is_sought c.args.sought) (action_view {A = A} c.args.action.now)
    (λ n. sym (call_never {A = A} (local n) c.in-Call.priority c.in-Call.parts c.in-Call.call ∙ ap (λ (z : Action g.row.A.Denot). never_by no_calls (local n) (action_view {A = A} z)) (sym c.in-Call.is)))

pub add_never-returns-in_ok-add_never_closed-in-Choose : goal.add_never-returns-in_ok-add_never_closed-in-Choose
add_never-returns-in_ok-add_never_closed-in-Choose g t c =
    let A = g.row.A.Denot in
    let seen : (n : ℕ) → never_in no_calls (local n) (block_view {A = g.row.A.Denot} c.deref.result.now) && never_in no_calls (local n) (block_view {A = g.row.A.Denot} c.deref-in-Choose.result.now) ≡ never_by no_calls (local n) (action_view {A = g.row.A.Denot} c.args.action.now) = λ n.
    ap (λ (z : Block g.row.A.Denot). never_in no_calls (local n) (block_view {A = A} z) && never_in no_calls (local n) (block_view {A = A} c.deref-in-Choose.result.now)) c.deref.ensures
    ∙ ap (λ (z : Block g.row.A.Denot). never_in no_calls (local n) (block_view {A = A} c.in-Choose.then.value) && never_in no_calls (local n) (block_view {A = A} z)) c.deref-in-Choose.ensures
    ∙ ap (never_by no_calls (local n)) (sym (ap (action_view {A = A}) c.in-Choose.is ∙ view_choose {A = A} c.in-Choose.condition c.in-Choose.then c.in-Choose.other)) in
    on_ok_weaker c.add_never_closed-in-Choose.result
    (λ (h : (n : ℕ) → contains nat_eq c.add_never_closed-in-Choose.new.never_closed n ≡ contains nat_eq c.args.never_closed.now n || (contains nat_eq c.add_never_closed.new.never_closed n && never_in no_calls (local n) (block_view {A = g.row.A.Denot} c.deref-in-Choose.result.now))) n.
    among_both (contains nat_eq c.args.never_closed.now n) (contains nat_eq c.add_never_closed-in-Choose.new.never_closed n) (contains nat_eq c.add_never_closed.new.never_closed n) (contains nat_eq c.new-nodes.result n) (is_sought c.args.sought n)
    (never_in no_calls (local n) (block_view {A = A} c.deref.result.now)) (never_in no_calls (local n) (block_view {A = A} c.deref-in-Choose.result.now))
    (ap (λ (z : List ℕ). list_any (nat_eq n) z) c.new-nodes.ensures.empty) (c.in_ok-add_never_closed-in-Choose.ensures n) (h n)
    ∙ ap (λ (z : Bool). contains nat_eq c.args.never_closed.now n || (is_sought c.args.sought n && z)) (seen n))
    c.add_never_closed-in-Choose.ensures

pub add_never-returns-in-Declare : goal.add_never-returns-in-Declare
add_never-returns-in-Declare g t c =
    let A = g.row.A.Denot in
    adds_none (contains nat_eq c.args.never_closed.now) (is_sought c.args.sought) (action_view {A = A} c.args.action.now)
    (λ n. ap (never_by no_calls (local n)) (ap (action_view {A = A}) c.in-Declare.is ∙ view_declare {A = A} c.in-Declare.field-0))

pub add_never-returns-in-Fill : goal.add_never-returns-in-Fill
add_never-returns-in-Fill g t c =
    let A = g.row.A.Denot in
    adds_none (contains nat_eq c.args.never_closed.now) (is_sought c.args.sought) (action_view {A = A} c.args.action.now)
    (λ n. ap (never_by no_calls (local n)) (ap (action_view {A = A}) c.in-Fill.is ∙ view_fill {A = A} c.in-Fill.array c.in-Fill.right))

pub add_never-returns-in-Insert : goal.add_never-returns-in-Insert
add_never-returns-in-Insert g t c =
    let A = g.row.A.Denot in
    adds_none (contains nat_eq c.args.never_closed.now) (is_sought c.args.sought) (action_view {A = A} c.args.action.now)
    (λ n. ap (never_by no_calls (local n)) (ap (action_view {A = A}) c.in-Insert.is ∙ view_insert {A = A} c.in-Insert.array c.in-Insert.index c.in-Insert.right))

pub add_never-returns-in-Print : goal.add_never-returns-in-Print
add_never-returns-in-Print g t c =
    let A = g.row.A.Denot in
    adds_none (contains nat_eq c.args.never_closed.now) (is_sought c.args.sought) (action_view {A = A} c.args.action.now)
    (λ n. ap (never_by no_calls (local n)) (ap (action_view {A = A}) c.in-Print.is ∙ view_print {A = A} c.in-Print.priority c.in-Print.line))

pub add_never-returns-in-Assert : goal.add_never-returns-in-Assert
add_never-returns-in-Assert g t c =
    let A = g.row.A.Denot in
    adds_none (contains nat_eq c.args.never_closed.now) (is_sought c.args.sought) (action_view {A = A} c.args.action.now)
    (λ n. ap (never_by no_calls (local n)) (ap (action_view {A = A}) c.in-Assert.is ∙ view_assert {A = A} c.in-Assert.priority c.in-Assert.check))

pub add_never-returns-in-When : goal.add_never-returns-in-When
add_never-returns-in-When g t c =
    let A = g.row.A.Denot in
    adds_none (contains nat_eq c.args.never_closed.now) (is_sought c.args.sought) (action_view {A = A} c.args.action.now)
    (λ n. ap (never_by no_calls (local n)) (ap (action_view {A = A}) c.in-When.is ∙ view_when {A = A} c.in-When.condition c.in-When.then))

pub add_never-returns-in-Range : goal.add_never-returns-in-Range
add_never-returns-in-Range g t c =
    let A = g.row.A.Denot in
    adds_none (contains nat_eq c.args.never_closed.now) (is_sought c.args.sought) (action_view {A = A} c.args.action.now)
    (λ n. ap (never_by no_calls (local n)) (ap (action_view {A = A}) c.in-Range.is ∙ view_range {A = A} c.in-Range.range c.in-Range.value c.in-Range.turn c.in-Range.body))

pub add_never-returns-in-Each : goal.add_never-returns-in-Each
add_never-returns-in-Each g t c =
    let A = g.row.A.Denot in
    adds_none (contains nat_eq c.args.never_closed.now) (is_sought c.args.sought) (action_view {A = A} c.args.action.now)
    (λ n. ap (never_by no_calls (local n)) (ap (action_view {A = A}) c.in-Each.is ∙ view_each {A = A} c.in-Each.array c.in-Each.value c.in-Each.key c.in-Each.body))
