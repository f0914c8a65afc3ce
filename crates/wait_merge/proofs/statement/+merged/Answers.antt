use Rattle.std.proofs.Common.{rules, IsTrue, ◌++◌, List, map, option_map, ap, ap₂, sym, ◌∙◌, arith, subst}
use Rattle.std.proofs.lemmas.Grind.{common_steps}
use Rattle.std.proofs.lemmas.List.{take_all}
use Rattle.flow.specs.View.{block_view, statement_view}
use Rattle.flow.specs.Shapes.{action_declared, block_declared, statement_declared}
use Rattle.wait_merge.specs.Merged.{all_merged, statement_seen}
use Rattle.flow.specs.Cells.{Anchor, action_anchors, block_anchors, outer_anchors, range_anchors, statement_anchors}
use Rattle.flow.specs.Listed.{Listed, action_listed, block_listed, content, declared, looping, other, statement_listed, whole}
use Rattle.flow.proofs.Anchors.{when_anchors, choose_anchors, range_loop_anchors, each_anchors, wait_anchors}
use Rattle.wait_merge.proofs.Actions.{anchors_changed, listed_changed, when_listed, choose_listed, range_listed, each_listed, wait_listed, same_waiting, both_declared, view_changed, declared_changed, seen_changed, when_core, choose_core, range_core, each_core, when_declared, choose_declared, range_declared, each_declared, when_merged, choose_merged, range_merged, each_merged}
use Rattle.wait_merge.proofs.Lists.{both_true, kept_at, merged_more}
use Rattle.wait_merge.proofs.statement.+merged.Goals as goal

pub action-returns-in_ok-merge_block-in-When-clause-core : goal.action-returns-in_ok-merge_block-in-When-clause-core
action-returns-in_ok-merge_block-in-When-clause-core g t c =
    when_core c.args.action.now c.in-When.condition c.in-When.then _ c.in-When.is
    (c.in_ok-merge_block-in-When.ensures.core ∙ ap block_view c.deref_mut.ensures.value)

pub action-returns-in_ok-merge_block-in-When-clause-declared : goal.action-returns-in_ok-merge_block-in-When-clause-declared
action-returns-in_ok-merge_block-in-When-clause-declared g t c =
    when_declared c.in-When.condition _ ∙ c.in_ok-merge_block-in-When.ensures.declared ∙ ap block_declared c.deref_mut.ensures.value ∙ sym (ap action_declared c.in-When.is ∙ when_declared c.in-When.condition c.in-When.then)

pub action-returns-in_ok-merge_block-in-When-clause-merged : goal.action-returns-in_ok-merge_block-in-When-clause-merged
action-returns-in_ok-merge_block-in-When-clause-merged g t c =
    when_merged c.in-When.condition _ ∙ c.in_ok-merge_block-in-When.ensures.merged

pub action-returns-in_ok-merge_block-in-Range-clause-core : goal.action-returns-in_ok-merge_block-in-Range-clause-core
action-returns-in_ok-merge_block-in-Range-clause-core g t c =
    range_core c.args.action.now c.in-Range.range c.in-Range.value c.in-Range.turn c.in-Range.body _ c.in-Range.is
    (c.in_ok-merge_block-in-Range.ensures.core ∙ ap block_view c.deref_mut-in-Range.ensures.value)

pub action-returns-in_ok-merge_block-in-Range-clause-declared : goal.action-returns-in_ok-merge_block-in-Range-clause-declared
action-returns-in_ok-merge_block-in-Range-clause-declared g t c =
    range_declared c.in-Range.range c.in-Range.value c.in-Range.turn _ ∙ c.in_ok-merge_block-in-Range.ensures.declared ∙ ap block_declared c.deref_mut-in-Range.ensures.value
    ∙ sym (ap action_declared c.in-Range.is ∙ range_declared c.in-Range.range c.in-Range.value c.in-Range.turn c.in-Range.body)

pub action-returns-in_ok-merge_block-in-Range-clause-merged : goal.action-returns-in_ok-merge_block-in-Range-clause-merged
action-returns-in_ok-merge_block-in-Range-clause-merged g t c =
    range_merged c.in-Range.range c.in-Range.value c.in-Range.turn _ ∙ c.in_ok-merge_block-in-Range.ensures.merged

pub action-returns-in_ok-merge_block-in-Each-clause-core : goal.action-returns-in_ok-merge_block-in-Each-clause-core
action-returns-in_ok-merge_block-in-Each-clause-core g t c =
    each_core c.args.action.now c.in-Each.array c.in-Each.value c.in-Each.key c.in-Each.body _ c.in-Each.is
    (c.in_ok-merge_block-in-Each.ensures.core ∙ ap block_view c.deref_mut-in-Each.ensures.value)

pub action-returns-in_ok-merge_block-in-Each-clause-declared : goal.action-returns-in_ok-merge_block-in-Each-clause-declared
action-returns-in_ok-merge_block-in-Each-clause-declared g t c =
    each_declared c.in-Each.array c.in-Each.value c.in-Each.key _ ∙ c.in_ok-merge_block-in-Each.ensures.declared ∙ ap block_declared c.deref_mut-in-Each.ensures.value
    ∙ sym (ap action_declared c.in-Each.is ∙ each_declared c.in-Each.array c.in-Each.value c.in-Each.key c.in-Each.body)

pub action-returns-in_ok-merge_block-in-Each-clause-merged : goal.action-returns-in_ok-merge_block-in-Each-clause-merged
action-returns-in_ok-merge_block-in-Each-clause-merged g t c =
    each_merged c.in-Each.array c.in-Each.value c.in-Each.key _ ∙ c.in_ok-merge_block-in-Each.ensures.merged

pub action-returns-in_ok-merge_block-in-Choose-2-clause-core : goal.action-returns-in_ok-merge_block-in-Choose-2-clause-core
action-returns-in_ok-merge_block-in-Choose-2-clause-core g t c =
    choose_core c.args.action.now c.in-Choose.condition c.in-Choose.then _ c.in-Choose.other _ c.in-Choose.is
    (c.in_ok-merge_block-in-Choose.ensures.core ∙ ap block_view c.deref_mut-in-Choose.ensures.value) (c.in_ok-merge_block-in-Choose-2.ensures.core ∙ ap block_view c.deref_mut-in-Choose-2.ensures.value)

pub action-returns-in_ok-merge_block-in-Choose-2-clause-declared : goal.action-returns-in_ok-merge_block-in-Choose-2-clause-declared
action-returns-in_ok-merge_block-in-Choose-2-clause-declared g t c =
    choose_declared c.in-Choose.condition _ _
    ∙ both_declared _ _ _ _ (c.in_ok-merge_block-in-Choose.ensures.declared ∙ ap block_declared c.deref_mut-in-Choose.ensures.value) (c.in_ok-merge_block-in-Choose-2.ensures.declared ∙ ap block_declared c.deref_mut-in-Choose-2.ensures.value)
    ∙ sym (ap action_declared c.in-Choose.is ∙ choose_declared c.in-Choose.condition c.in-Choose.then c.in-Choose.other)

pub action-returns-in_ok-merge_block-in-Choose-2-clause-merged : goal.action-returns-in_ok-merge_block-in-Choose-2-clause-merged
action-returns-in_ok-merge_block-in-Choose-2-clause-merged g t c =
    choose_merged c.in-Choose.condition _ _ ∙ both_true _ _ c.in_ok-merge_block-in-Choose.ensures.merged c.in_ok-merge_block-in-Choose-2.ensures.merged

pub each-loop-i-preserved : goal.each-loop-i-preserved
each-loop-i-preserved g t c =
    let A = g.row.A.Denot in
    let xs = c.loop-i.statements.items in
    let i = c.loop-i.i in
    let here = c.index_mut-statement.ensures.value in
    let x = c.index_mut-statement.result.now in (
      search rules,
      kept_at (statement_view {A = A}) xs c.args.statements.now.items i x _ c.loop-i.invariant.1 here (view_changed A x c.action.new.action c.in_ok-action.ensures.core),
      kept_at (statement_declared {A = A}) xs c.args.statements.now.items i x _ c.loop-i.invariant.2 here (declared_changed A x c.action.new.action c.in_ok-action.ensures.declared),
      kept_at (statement_listed {A = A}) xs c.args.statements.now.items i x _ c.loop-i.invariant.3 here (listed_changed A x c.action.new.action c.in_ok-action.ensures.listed),
      kept_at (statement_anchors {A = A}) xs c.args.statements.now.items i x _ c.loop-i.invariant.4 here (anchors_changed A x c.action.new.action c.in_ok-action.ensures.cells),
      merged_more (statement_seen {A = A}) xs i _ c.loop-i.invariant.5 (grind (arith, common_steps)) (seen_changed A x c.action.new.action ∙ c.in_ok-action.ensures.merged),
    )

pub each-returns-clause-core : goal.each-returns-clause-core
each-returns-clause-core g t c = c.loop-i.invariant.1

pub each-returns-clause-declared : goal.each-returns-clause-declared
each-returns-clause-declared g t c = c.loop-i.invariant.2

pub each-returns-clause-merged : goal.each-returns-clause-merged
each-returns-clause-merged g t c =
    subst (λ zs. IsTrue (all_merged (map (statement_seen {A = g.row.A.Denot}) zs))) (take_all c.loop-i.i c.loop-i.statements.items (grind (arith, common_steps))) c.loop-i.invariant.5

pub action-returns-in_ok-merge_block-in-When-clause-listed : goal.action-returns-in_ok-merge_block-in-When-clause-listed
action-returns-in_ok-merge_block-in-When-clause-listed g t c =
    when_listed c.in-When.condition _ ∙ ap (λ (l : Listed). other (whole l)) (c.in_ok-merge_block-in-When.ensures.listed ∙ ap block_listed c.deref_mut.ensures.value) ∙ sym (ap action_listed c.in-When.is ∙ when_listed c.in-When.condition c.in-When.then)

pub action-returns-in_ok-merge_block-in-Range-clause-listed : goal.action-returns-in_ok-merge_block-in-Range-clause-listed
action-returns-in_ok-merge_block-in-Range-clause-listed g t c =
    range_listed c.in-Range.range c.in-Range.value c.in-Range.turn _
    ∙ ap (looping (declared c.in-Range.value) (option_map declared c.in-Range.turn)) (c.in_ok-merge_block-in-Range.ensures.listed ∙ ap block_listed c.deref_mut-in-Range.ensures.value)
    ∙ sym (ap action_listed c.in-Range.is ∙ range_listed c.in-Range.range c.in-Range.value c.in-Range.turn c.in-Range.body)

pub action-returns-in_ok-merge_block-in-Each-clause-listed : goal.action-returns-in_ok-merge_block-in-Each-clause-listed
action-returns-in_ok-merge_block-in-Each-clause-listed g t c =
    each_listed c.in-Each.array c.in-Each.value c.in-Each.key _
    ∙ ap (looping (declared c.in-Each.value) (option_map declared c.in-Each.key)) (c.in_ok-merge_block-in-Each.ensures.listed ∙ ap block_listed c.deref_mut-in-Each.ensures.value)
    ∙ sym (ap action_listed c.in-Each.is ∙ each_listed c.in-Each.array c.in-Each.value c.in-Each.key c.in-Each.body)

pub action-returns-in_ok-merge_block-in-Choose-2-clause-listed : goal.action-returns-in_ok-merge_block-in-Choose-2-clause-listed
action-returns-in_ok-merge_block-in-Choose-2-clause-listed g t c =
    choose_listed c.in-Choose.condition _ _
    ∙ ap₂ (λ (x y : Listed). other (whole x ++ whole y)) (c.in_ok-merge_block-in-Choose.ensures.listed ∙ ap block_listed c.deref_mut-in-Choose.ensures.value) (c.in_ok-merge_block-in-Choose-2.ensures.listed ∙ ap block_listed c.deref_mut-in-Choose-2.ensures.value)
    ∙ sym (ap action_listed c.in-Choose.is ∙ choose_listed c.in-Choose.condition c.in-Choose.then c.in-Choose.other)

pub action-returns-in_ok-absorb-in-Wait-clause-listed : goal.action-returns-in_ok-absorb-in-Wait-clause-listed
action-returns-in_ok-absorb-in-Wait-clause-listed g t c =
    wait_listed c.in-Wait.names _ _
    ∙ same_waiting (block_listed c.absorb.new.content.value) (block_listed c.in-Wait.content.value)
    (c.in_ok-absorb-in-Wait.ensures.listed ∙ ap content (c.in_ok-merge_block-in-Wait.ensures.listed ∙ ap block_listed c.deref_mut-in-Wait.ensures.value))
    ∙ sym (ap action_listed c.in-Wait.is ∙ wait_listed c.in-Wait.names c.in-Wait.inner c.in-Wait.content)

pub each-returns-clause-listed : goal.each-returns-clause-listed
each-returns-clause-listed g t c = c.loop-i.invariant.3

pub action-returns-in_ok-merge_block-in-When-clause-cells : goal.action-returns-in_ok-merge_block-in-When-clause-cells
action-returns-in_ok-merge_block-in-When-clause-cells g t c =
    when_anchors c.in-When.condition _ ∙ ap (λ (b : List Anchor). outer_anchors c.in-When.condition.value ++ b) (c.in_ok-merge_block-in-When.ensures.cells ∙ ap block_anchors c.deref_mut.ensures.value)
    ∙ sym (ap action_anchors c.in-When.is ∙ when_anchors c.in-When.condition c.in-When.then)

pub action-returns-in_ok-merge_block-in-Range-clause-cells : goal.action-returns-in_ok-merge_block-in-Range-clause-cells
action-returns-in_ok-merge_block-in-Range-clause-cells g t c =
    range_loop_anchors c.in-Range.range c.in-Range.value c.in-Range.turn _
    ∙ ap (λ (b : List Anchor). range_anchors c.in-Range.range.value ++ b) (c.in_ok-merge_block-in-Range.ensures.cells ∙ ap block_anchors c.deref_mut-in-Range.ensures.value)
    ∙ sym (ap action_anchors c.in-Range.is ∙ range_loop_anchors c.in-Range.range c.in-Range.value c.in-Range.turn c.in-Range.body)

pub action-returns-in_ok-merge_block-in-Each-clause-cells : goal.action-returns-in_ok-merge_block-in-Each-clause-cells
action-returns-in_ok-merge_block-in-Each-clause-cells g t c =
    each_anchors c.in-Each.array c.in-Each.value c.in-Each.key _ ∙ c.in_ok-merge_block-in-Each.ensures.cells ∙ ap block_anchors c.deref_mut-in-Each.ensures.value
    ∙ sym (ap action_anchors c.in-Each.is ∙ each_anchors c.in-Each.array c.in-Each.value c.in-Each.key c.in-Each.body)

pub action-returns-in_ok-merge_block-in-Choose-2-clause-cells : goal.action-returns-in_ok-merge_block-in-Choose-2-clause-cells
action-returns-in_ok-merge_block-in-Choose-2-clause-cells g t c =
    choose_anchors c.in-Choose.condition _ _
    ∙ ap₂ (λ (b d : List Anchor). outer_anchors c.in-Choose.condition.value ++ b ++ d) (c.in_ok-merge_block-in-Choose.ensures.cells ∙ ap block_anchors c.deref_mut-in-Choose.ensures.value) (c.in_ok-merge_block-in-Choose-2.ensures.cells ∙ ap block_anchors c.deref_mut-in-Choose-2.ensures.value)
    ∙ sym (ap action_anchors c.in-Choose.is ∙ choose_anchors c.in-Choose.condition c.in-Choose.then c.in-Choose.other)

pub action-returns-in_ok-absorb-in-Wait-clause-cells : goal.action-returns-in_ok-absorb-in-Wait-clause-cells
action-returns-in_ok-absorb-in-Wait-clause-cells g t c =
    wait_anchors c.in-Wait.names _ _ ∙ c.in_ok-absorb-in-Wait.ensures.cells ∙ c.in_ok-merge_block-in-Wait.ensures.cells ∙ ap block_anchors c.deref_mut-in-Wait.ensures.value
    ∙ sym (ap action_anchors c.in-Wait.is ∙ wait_anchors c.in-Wait.names c.in-Wait.inner c.in-Wait.content)

pub each-returns-clause-cells : goal.each-returns-clause-cells
each-returns-clause-cells g t c = c.loop-i.invariant.4
