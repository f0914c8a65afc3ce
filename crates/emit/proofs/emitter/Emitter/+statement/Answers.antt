use Rattle.std.proofs.Common.{length, get_or, subst, ◌+◌, ◌*◌, ◌<◌, ◌≤◌, ◌≡◌, map, option_map, ◌∷◌, [], ap, ◌∙◌, refl, sym, arith}
use Rattle.std.specs.Prelude.{option_to_list}
use Rattle.std.proofs.lemmas.Grind.{common_steps}
use Rattle.std.proofs.lemmas.Result.{on_ok_weaker}
use Rattle.std.proofs.lemmas.Bool.{and_parts}
use Rattle.language.specs.Core as core
use Rattle.flow.specs.Shapes.{action_declared, block_declared, is_array, kinds_of_function}
use Rattle.flow.specs.View.{action_view, awaited_view, block_view, name_view, outer_view, waits_around}
use Rattle.flow.specs.Cells.{statement_anchors}
use Rattle.flow.proofs.Growing.{among_all, grows_again, grows_among, grows_as, grows_both, grows_none, grows_still}
use Rattle.task_code.specs.View.{loop_view}
use Rattle.language.specs.Parts.{outer_parts}
use Rattle.code_rules.specs.Room.{OuterRoom, StepRoom}
use denote.Param.Weighed.{at_most, most}
use Rattle.flow.proofs.statement.Block.TheLaws.{the_size as block_size}
use Rattle.flow.proofs.statement.Statement.TheLaws.{the_size as statement_size}
use Rattle.flow.specs.declared.statement.Variable.{Variable}
use Rattle.emit.specs.Emits.{roots_of, state_of}
use Rattle.flow.proofs.Anchors.{anchors_block, anchors_statement}
use Rattle.emit.proofs.Opening.{numbered-in, parts-zero}
use Rattle.emit.proofs.Emitting.{ok-both, declare-emits, emits-as, walked-all, walked-none, walked-one}
use Rattle.emit.proofs.Branching.{branch-emits, branches-emit}
use Rattle.emit.proofs.Looping.{each-emits, range-emits}
use Rattle.emit.proofs.Waiting.{wait-emits}
use Rattle.emit.proofs.Views.{lone_and, see_declare}
use Rattle.wait_merge.specs.Merged.{block_seen}
use Rattle.emit.proofs.emitter.Emitter.+statement.Goals as goal

pub each_statement-loop-one-init : goal.each_statement-loop-one-init
each_statement-loop-one-init g t c = (walked-none (map (kinds_of_function {A = g.row.A.Denot}) c.args.functions.now.items) (roots_of c.args.functions.now.items) c.args.inputs c.args.statements.now.items _, grows_none _ _)

pub each_statement-loop-one-preserved : goal.each_statement-loop-one-preserved
each_statement-loop-one-preserved g t c =
    let A = g.row.A.Denot in
    let ss = c.args.statements.now.items in
    let i = c.loop-one.one-index in
    let one = c.one-item.result in
    let below : i < length ss = grind (arith, common_steps) in
    let is : one ≡ get_or ss i one = grind (arith, common_steps) in (
      walked-one {A = A} (map (kinds_of_function {A = A}) c.args.functions.now.items) (roots_of c.args.functions.now.items) c.args.inputs ss ss i one
          (state_of c.args.self.now) (state_of c.loop-one.self) (state_of c.statement.new.self) below is c.loop-one.invariant.0 c.in_ok-statement.ensures.laid,
      grows_again c.loop-one.invariant.1 (grows_among c.in_ok-statement.ensures.marks (among_all (statement_anchors {A = A}) ss i one below is)),
    )

pub each_statement-returns-clause-laid : goal.each_statement-returns-clause-laid
each_statement-returns-clause-laid g t c =
    let A = g.row.A.Denot in
    walked-all {A = A} (map (kinds_of_function {A = A}) c.args.functions.now.items) (roots_of c.args.functions.now.items) c.args.inputs c.args.statements.now.items c.args.statements.now.items c.loop-one.one-index
    (state_of c.args.self.now) (state_of c.loop-one.self) (grind (arith, common_steps)) c.loop-one.invariant.0

pub when-returns-clause-laid : goal.when-returns-clause-laid
when-returns-clause-laid g t c =
    let A = g.row.A.Denot in
    let s = c.args.statement.standing in
    let o = outer_view {A = A} c.args.condition.now in
    on_ok_weaker c.add_body.result
    (λ made. λ merged. λ priority.
    branch-emits (map (kinds_of_function {A = A}) c.args.functions.now.items) (roots_of c.args.functions.now.items) s.inputs s.at c.args.statement.node o (block_view {A = A} c.args.then.now) (block_declared {A = A} c.args.then.now)
    c.args.self.now.writer.entries.items c.condition_parts.new.self.entries.items c.block.new.self.writer.entries.items c.add_branch.new.self.entries.items
    c.args.self.now.bodies.items c.block.new.self.bodies.items c.add_body.new.bodies.items
    c.args.self.now.writer.filling c.condition_parts.new.self.filling c.add_branch.new.self.filling c.empty.result c.in_ok-inside.inside c.next_body-body.result c.in_ok-number.number
    (parts-zero (map (kinds_of_function {A = A}) c.args.functions.now.items) s (outer_parts (o ∷ [])) c.args.self.now.writer.entries.items c.condition_parts.new.self.entries.items c.args.self.now.writer.filling c.condition_parts.new.self.filling (OuterRoom s.inputs o) priority c.in_ok-condition_parts.ensures.laid)
    c.in_ok-condition_parts.ensures.few c.empty.ensures.entries c.empty.ensures.makes (c.in_ok-inside.ensures.laid merged) c.next_body-body.ensures (numbered-in c.in_ok-inside.ensures.around c.in_ok-number.ensures.number)
    (λ room. c.in_ok-number.ensures.one (block_view {A = A} c.args.then.now) room priority refl) made)
    c.add_body.ensures

pub choose-returns-clause-laid : goal.choose-returns-clause-laid
choose-returns-clause-laid g t c =
    let A = g.row.A.Denot in
    let fs = map (kinds_of_function {A = A}) c.args.functions.now.items in
    let s = c.args.statement.standing in
    let n = c.args.statement.node in
    let o = outer_view {A = A} c.args.condition.now in
    let b = block_view {A = A} c.args.then.now in
    let d = block_view {A = A} c.args.other.now in
    let both = and_parts (block_seen {A = A} c.args.then.now).merged (block_seen {A = A} c.args.other.now).merged in
    on_ok_weaker c.add_body-2.result
    (λ made. λ merged. λ priority.
    branches-emit fs (roots_of c.args.functions.now.items) s.inputs s.at n o b d (block_declared {A = A} c.args.then.now) (block_declared {A = A} c.args.other.now)
    c.args.self.now.writer.entries.items c.condition_parts.new.self.entries.items c.block.new.self.writer.entries.items c.block-2.new.self.writer.entries.items c.add_branch.new.self.entries.items
    c.args.self.now.bodies.items c.block.new.self.bodies.items c.block-2.new.self.bodies.items c.add_body.new.bodies.items c.add_body-2.new.bodies.items
    c.args.self.now.writer.filling c.condition_parts.new.self.filling c.add_branch.new.self.filling c.empty.result c.in_ok-inside.inside c.empty-2.result c.in_ok-outside.outside c.next_body-body.result c.next.result c.in_ok-number.number
    (parts-zero fs s (outer_parts (o ∷ [])) c.args.self.now.writer.entries.items c.condition_parts.new.self.entries.items c.args.self.now.writer.filling c.condition_parts.new.self.filling (OuterRoom s.inputs o) priority c.in_ok-condition_parts.ensures.laid)
    c.in_ok-condition_parts.ensures.few c.empty.ensures.entries c.empty.ensures.makes (c.in_ok-inside.ensures.laid (both merged).0) c.empty-2.ensures.entries c.empty-2.ensures.makes (c.in_ok-outside.ensures.laid (both merged).1)
    c.next_body-body.ensures c.next.ensures (numbered-in (c.in_ok-outside.ensures.around ∙ c.in_ok-inside.ensures.around) c.in_ok-number.ensures.number)
    (λ room. c.in_ok-number.ensures.two b d c.next.result room priority refl) c.in_ok-add_body.ensures made)
    c.add_body-2.ensures

pub range-returns-clause-laid : goal.range-returns-clause-laid
range-returns-clause-laid g t c =
    let A = g.row.A.Denot in
    let fs = map (kinds_of_function {A = A}) c.args.functions.now.items in
    let s = c.args.statement.standing in
    let n = c.args.statement.node in
    let r = c.args.range.now in
    let lo = outer_view {A = A} r.low in
    let hi = outer_view {A = A} r.high in
    let st = option_map (outer_view {A = A}) r.step in
    let x = c.args.value.now.node in
    let y = option_map (λ (v : Variable A). v.node) c.args.turn.now in
    let b = block_view {A = A} c.args.body.now in
    on_ok_weaker c.add_body.result
    (λ made. λ merged. λ priority.
    let parts = parts-zero fs s (outer_parts (lo ∷ hi ∷ option_to_list st)) c.args.self.now.writer.entries.items c.range_parts.new.self.entries.items c.args.self.now.writer.filling c.range_parts.new.self.filling (OuterRoom s.inputs lo × OuterRoom s.inputs hi × StepRoom s.inputs st) priority
    (λ bodies room few. c.in_ok-range_parts.ensures.laid bodies room.0 room.1 room.2 few) in
    range-emits fs (roots_of c.args.functions.now.items) s.inputs s.at n lo hi st x y b (block_declared {A = A} c.args.body.now)
    c.args.self.now.writer.entries.items c.range_parts.new.self.entries.items c.block.new.self.writer.entries.items c.add_range.new.self.entries.items
    c.args.self.now.bodies.items c.block.new.self.bodies.items c.add_body.new.bodies.items
    c.args.self.now.writer.filling c.range_parts.new.self.filling c.add_range.new.self.filling c.in_ok-variables.variables c.in_ok-inside.inside c.next_body.result c.in_ok-number.number (loop_view c.loop_of-turns.result)
    (λ bodies low high step few. parts bodies (low, high, step) few)
    c.in_ok-range_parts.ensures.few c.in_ok-variables.ensures.entries c.in_ok-variables.ensures.makes (c.in_ok-inside.ensures.laid merged) c.next_body.ensures c.loop_of-turns.ensures (numbered-in c.in_ok-inside.ensures.around c.in_ok-number.ensures.number)
    (λ low high step. c.in_ok-number.ensures.entry x y b low high step priority) made)
    c.add_body.ensures

pub each-returns-clause-laid : goal.each-returns-clause-laid
each-returns-clause-laid g t c =
    let A = g.row.A.Denot in
    let fs = map (kinds_of_function {A = A}) c.args.functions.now.items in
    let s = c.args.statement.standing in
    let n = c.args.statement.node in
    let x = c.args.value.now.node in
    let y = option_map (λ (v : Variable A). v.node) c.args.key.now in
    let b = block_view {A = A} c.args.body.now in
    on_ok_weaker c.add_body.result
    (λ made. λ merged. λ priority.
    each-emits fs (roots_of c.args.functions.now.items) s.inputs s.at n (name_view c.args.array) x y b (block_declared {A = A} c.args.body.now)
    c.args.self.now.writer.entries.items c.block.new.self.writer.entries.items c.add_each.new.self.entries.items
    c.args.self.now.bodies.items c.block.new.self.bodies.items c.add_body.new.bodies.items
    c.args.self.now.writer.filling c.add_each.new.self.filling c.in_ok-variables.variables c.in_ok-inside.inside c.next_body.result c.in_ok-number.number (loop_view c.loop_of-turns.result)
    c.in_ok-variables.ensures.entries c.in_ok-variables.ensures.makes (c.in_ok-inside.ensures.laid merged) c.next_body.ensures c.loop_of-turns.ensures (numbered-in c.in_ok-inside.ensures.around c.in_ok-number.ensures.number)
    (λ room. c.in_ok-number.ensures.entry x y b room priority) made)
    c.add_body.ensures

pub wait-returns-clause-laid : goal.wait-returns-clause-laid
wait-returns-clause-laid g t c =
    let A = g.row.A.Denot in
    let fs = map (kinds_of_function {A = A}) c.args.functions.now.items in
    let s = c.args.statement.standing in
    let n = c.args.statement.node in
    let b = block_view {A = A} c.args.content.now in
    let both = lone_and {A = A} c.args.content.now in
    on_ok_weaker c.add_body.result
    (λ made. λ merged. λ priority.
    wait-emits fs (roots_of c.args.functions.now.items) s.inputs s.at n (map awaited_view c.args.names.now.items) (waits_around c.args.inner.now.items b) b (block_declared {A = A} c.args.content.now)
    c.args.self.now.writer.entries.items c.block.new.self.writer.entries.items c.add_wait.new.self.entries.items
    c.args.self.now.bodies.items c.block.new.self.bodies.items c.add_body.new.bodies.items
    c.args.self.now.writer.filling c.add_wait.new.self.filling c.empty.result c.in_ok-inside.inside c.next_body-body.result c.in_ok-number.number
    (both merged).0 c.empty.ensures.entries c.empty.ensures.makes (c.in_ok-inside.ensures.laid (both merged).1) c.next_body-body.ensures (numbered-in c.in_ok-inside.ensures.around c.in_ok-number.ensures.number)
    (λ room. c.in_ok-number.ensures.entry b room priority) made)
    c.add_body.ensures

pub action-returns-in-Declare-clause-laid : goal.action-returns-in-Declare-clause-laid
action-returns-in-Declare-clause-laid g t c =
    let A = g.row.A.Denot in
    let fs = map (kinds_of_function {A = A}) c.args.functions.now.items in
    let s = c.args.statement.standing in
    let n = c.args.statement.node in
    let v = c.in-Declare.variable in
    let seen = see_declare v in
    ok-both c.declare.result _ _ _
    (λ entries. λ makes. λ merged. λ priority.
    emits-as fs (roots_of c.args.functions.now.items) s.inputs _ _ _ _ _ _ (ap (λ x. core.stmt s.at n (action_view {A = A} x)) c.in-Declare.is ∙ ap (core.stmt s.at n) seen.view) (ap (action_declared {A = A}) c.in-Declare.is ∙ seen.tells)
    (declare-emits fs (roots_of c.args.functions.now.items) s.inputs s.at n v.node (is_array v.shape) c.args.self.now.writer.entries.items c.args.self.now.bodies.items c.args.self.now.writer.filling c.declare.new.filling entries makes))
    c.declare.ensures.entries c.declare.ensures.makes

pub choose-block-requires-2 : goal.choose-block-requires-2
choose-block-requires-2 g t c κs within =
    let d = c.decreases in
    let small : 2 * block_size g.row.A g.A.Allocator g.A.laws c.args.other.now + 0 < t = omega (arith, d) in
    (small, within)

pub each_statement-statement-requires : goal.each_statement-statement-requires
each_statement-statement-requires g t c κs within =
    let d = c.decreases in
    let one = c.one-item.result in
    let all = c.args.statements.now.items in
    let here : one ≡ get_or all c.loop-one.one-index one = grind (arith, common_steps) in
    let there : c.loop-one.one-index < length all = grind (arith, common_steps) in
    let most_is : statement_size g.row.A g.A.Allocator g.A.laws one ≤ most (statement_size g.row.A g.A.Allocator g.A.laws) all =
    subst (λ z. statement_size g.row.A g.A.Allocator g.A.laws z ≤ most (statement_size g.row.A g.A.Allocator g.A.laws) all) (sym here) (at_most (statement_size g.row.A g.A.Allocator g.A.laws) all c.loop-one.one-index one there) in
    let small : 2 * statement_size g.row.A g.A.Allocator g.A.laws one + 0 < t = omega (arith, d, most_is) in
    (small, within)

-- MARKS

pub block-returns-clause-marks : goal.block-returns-clause-marks
block-returns-clause-marks g t c =
    let A = g.row.A.Denot in
    grows_as (anchors_block A c.args.block.now) c.in_ok-each_statement.ensures.marks

pub each_statement-returns-clause-marks : goal.each_statement-returns-clause-marks
each_statement-returns-clause-marks g t c = c.loop-one.invariant.1

pub statement-returns-clause-marks : goal.statement-returns-clause-marks
statement-returns-clause-marks g t c =
    let A = g.row.A.Denot in
    on_ok_weaker c.action.result (λ grown. grows_as (anchors_statement A c.args.one.now) grown) c.action.ensures.marks

pub when-returns-clause-marks : goal.when-returns-clause-marks
when-returns-clause-marks g t c =
    on_ok_weaker c.add_body.result (λ made. grows_still (grows_both _ _ c.in_ok-condition_parts.ensures.marks c.in_ok-inside.ensures.marks) c.in_ok-number.ensures.marks) c.add_body.ensures

pub choose-returns-clause-marks : goal.choose-returns-clause-marks
choose-returns-clause-marks g t c =
    on_ok_weaker c.add_body-2.result
    (λ made. grows_still (grows_both _ _ (grows_both _ _ c.in_ok-condition_parts.ensures.marks c.in_ok-inside.ensures.marks) c.in_ok-outside.ensures.marks) c.in_ok-number.ensures.marks) c.add_body-2.ensures

pub range-returns-clause-marks : goal.range-returns-clause-marks
range-returns-clause-marks g t c =
    on_ok_weaker c.add_body.result (λ made. grows_still (grows_both _ _ c.in_ok-range_parts.ensures.marks c.in_ok-inside.ensures.marks) c.in_ok-number.ensures.marks) c.add_body.ensures

pub each-returns-clause-marks : goal.each-returns-clause-marks
each-returns-clause-marks g t c = on_ok_weaker c.add_body.result (λ made. grows_still c.in_ok-inside.ensures.marks c.in_ok-number.ensures.marks) c.add_body.ensures

pub wait-returns-clause-marks : goal.wait-returns-clause-marks
wait-returns-clause-marks g t c = on_ok_weaker c.add_body.result (λ made. grows_still c.in_ok-inside.ensures.marks c.in_ok-number.ensures.marks) c.add_body.ensures

pub action-returns-in-Declare-clause-marks : goal.action-returns-in-Declare-clause-marks
action-returns-in-Declare-clause-marks g t c = on_ok_weaker c.declare.result (λ same. grows_none _ _) c.declare.ensures.entries
