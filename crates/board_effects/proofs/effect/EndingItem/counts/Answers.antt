use Rattle.std.proofs.Common.{◌∙◌, ◌-◌, ◌*◌, [], sym, ap, subst, arith, min, IfOk}
use Rattle.task_code.specs.Compute.{range_turns}
use Rattle.task_code.specs.Effects.{chunk}
use Rattle.board_instances.proofs.Turned.{turns_are}
use Rattle.board_instances.specs.Turns.{AddsTurns}
use Rattle.board_effects.specs.Ended.{OpensList, code_of, frames_of}
use Rattle.board_effects.proofs.Blocks.{offset_is}
use Rattle.board_effects.proofs.Chunks.{range_chunk, range_length}
use Rattle.board_effects.proofs.Loops.{chunk_deep, chunk_opens}
use Rattle.board_effects.proofs.Values.{ok_map}
use Rattle.board_effects.proofs.effect.EndingItem.counts.Goals as goal
use Rattle.board_effects.proofs.effect.EndingItem.counts.Goals.{else-first-end-via-then-first-end+else-is_too_deep, else-first-end-via-else-first-end}
use Rattle.values.specs.Limits.{chunk_size}

pub returns-then-is_too_deep : goal.returns-then-is_too_deep
returns-then-is_too_deep c = λ w l.
    ok_map _ _ c.fails_too_deep.result
    (chunk_deep c.args.self w c.args.body l (range_turns c.args.range.now.low c.args.range.now.step 0 c.args.range.now.count) c.args.range.now.count c.chunk_of-first.result.0 c.chunk_of-first.result.1 c.chunk_of-first.ensures.first c.chunk_of-first.ensures.end (range_length c.args.range.now.low c.args.range.now.step 0 c.args.range.now.count) c.if-first-end.true (sym (c.is_too_deep.ensures w) ∙ c.if-is_too_deep.true))
    (c.fails_too_deep.ensures w)

pub returns : goal.returns
returns c = λ w l.
    let low = c.args.range.now.low in
    let step = c.args.range.now.step in
    let count = c.args.range.now.count in
    let first = c.chunk_of-first.result.0 in
    let end = c.chunk_of-first.result.1 in
    let begins = c.chunk_of-first.ensures.first in
    let ends = c.chunk_of-first.ensures.end in
    ok_map _ _ c.opens_list.result
    (chunk_opens c.args.self w c.args.body l (range_turns low step 0 count) count first end begins ends (range_length low step 0 count) c.push_range.new.list.items
    (λ some there. subst (λ m. AddsTurns (code_of c.args.self) (frames_of c.args.self) c.args.self.view.at c.args.body m (chunk c.args.self.chunk (range_turns low step 0 count)) [] c.push_range.new.list.items) (offset_is c.args.self w)
    (turns_are (code_of c.args.self) (frames_of c.args.self) c.args.self.view.at c.args.body c.args.self.table.now.offset (range_turns low step first (min end count - first)) (chunk c.args.self.chunk (range_turns low step 0 count)) [] c.push_range.new.list.items
    (ap (λ n. range_turns low step n (min end count - n)) begins ∙ ap (λ n. range_turns low step (min (c.args.self.chunk * chunk_size) count) (min n count - min (c.args.self.chunk * chunk_size) count)) ends ∙ range_chunk low step c.args.self.chunk count)
    (subst (λ old. AddsTurns (code_of c.args.self) (frames_of c.args.self) c.args.self.view.at c.args.body c.args.self.table.now.offset (range_turns low step first (min end count - first)) old c.push_range.new.list.items) c.in_ok-list.ensures.items (c.in_ok-push_range.ensures.added some there))))
    (λ e. c.in_ok-push_range.ensures.none e ∙ c.in_ok-list.ensures.items)
    (λ h. elim c.else-first-end.branch [
      | else-first-end-via-then-first-end+else-is_too_deep y ↦ sym (y.is_too_deep.ensures w) ∙ y.if-is_too_deep.false
      | else-first-end-via-else-first-end y ↦ absurd (omega (arith, h, y.if-first-end.false))
    ]))
    (subst (λ g. IfOk c.opens_list.result (OpensList c.args.self c.args.body c.push_range.new.list.items g)) c.are_left.ensures c.opens_list.ensures)
