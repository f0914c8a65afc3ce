use Rattle.std.proofs.Common.{◌∙◌, ◌-◌, [], sym, subst, arith, IfOk, drop, length, take}
use Rattle.task_code.specs.Compute.{Turns, pairs}
use Rattle.task_code.specs.Effects.{chunk}
use Rattle.board_instances.proofs.Turned.{turns_are}
use Rattle.board_instances.specs.Turns.{AddsTurns}
use Rattle.board_effects.specs.Ended.{Ends, OpensList, code_of, frames_of}
use Rattle.board_effects.proofs.Blocks.{offset_is}
use Rattle.board_effects.proofs.Chunks.{elements_chunk, pairs_length}
use Rattle.board_effects.proofs.Loops.{chunk_deep, chunk_opens}
use Rattle.board_effects.proofs.Values.{ok_map}
use Rattle.board_effects.proofs.effect.EndingItem.goes_over.Goals as goal
use Rattle.board_effects.proofs.effect.EndingItem.goes_over.Goals.{else-first-end-via-then-first-end+else-is_too_deep, else-first-end-via-else-first-end}

pub returns-then-is_too_deep : goal.returns-then-is_too_deep
returns-then-is_too_deep c = λ w l.
    let es = c.elements-elements.result.now in
    subst (λ m. IfOk c.fails_too_deep.result (Ends c.args.self (Turns (pairs m)))) c.elements-elements.ensures.elements
    (ok_map _ _ c.fails_too_deep.result
    (chunk_deep c.args.self w c.args.body l (pairs es) (length es) c.chunk_of-first.result.0 c.chunk_of-first.result.1 c.chunk_of-first.ensures.first c.chunk_of-first.ensures.end (pairs_length es) c.if-first-end.true (sym (c.is_too_deep.ensures w) ∙ c.if-is_too_deep.true))
    (c.fails_too_deep.ensures w))

pub returns : goal.returns
returns c = λ w l.
    let es = c.elements-elements.result.now in
    let first = c.chunk_of-first.result.0 in
    let end = c.chunk_of-first.result.1 in
    let begins = c.chunk_of-first.ensures.first in
    let ends = c.chunk_of-first.ensures.end in
    subst (λ m. IfOk c.opens_list.result (Ends c.args.self (Turns (pairs m)))) c.elements-elements.ensures.elements
    (ok_map _ _ c.opens_list.result
    (chunk_opens c.args.self w c.args.body l (pairs es) (length es) first end begins ends (pairs_length es) c.push_elements.new.list.items
    (λ some there. subst (λ m. AddsTurns (code_of c.args.self) (frames_of c.args.self) c.args.self.view.at c.args.body m (chunk c.args.self.chunk (pairs es)) [] c.push_elements.new.list.items) (offset_is c.args.self w)
    (turns_are (code_of c.args.self) (frames_of c.args.self) c.args.self.view.at c.args.body c.args.self.table.now.offset (pairs (take (end - first) (drop first es))) (chunk c.args.self.chunk (pairs es)) [] c.push_elements.new.list.items
    (elements_chunk c.args.self.chunk es first end begins ends)
    (subst (λ old. AddsTurns (code_of c.args.self) (frames_of c.args.self) c.args.self.view.at c.args.body c.args.self.table.now.offset (pairs (take (end - first) (drop first es))) old c.push_elements.new.list.items) c.in_ok-list.ensures.items (c.in_ok-push_elements.ensures.added some there))))
    (λ e. c.in_ok-push_elements.ensures.none e ∙ c.in_ok-list.ensures.items)
    (λ h. elim c.else-first-end.branch [
      | else-first-end-via-then-first-end+else-is_too_deep y ↦ sym (y.is_too_deep.ensures w) ∙ y.if-is_too_deep.false
      | else-first-end-via-else-first-end y ↦ absurd (omega (arith, h, y.if-first-end.false))
    ]))
    (subst (λ g. IfOk c.opens_list.result (OpensList c.args.self c.args.body c.push_elements.new.list.items g)) c.are_left.ensures c.opens_list.ensures))
