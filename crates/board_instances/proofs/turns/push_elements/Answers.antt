use Rattle.std.proofs.Common.{◌∙◌, ◌+◌, ◌++◌, ◌∷◌, [], take}
use Rattle.task_code.specs.Compute.{pairs}
use Rattle.board_instances.specs.View.{frames_view}
use Rattle.values.specs.Keys.{key_seen}
use Rattle.board_instances.proofs.Turned.{elements_step, turns_are, turns_more}
use Rattle.board_instances.proofs.turns.push_elements.Goals as goal

pub loop-one-preserved : goal.loop-one-preserved
loop-one-preserved c = record {
  added = λ some there. turns_are c.args.site.around.program.now (frames_view c.args.site.around.instances.now.slots) c.args.site.around.at c.args.site.body c.args.site.offset (pairs (take c.loop-one.one-index c.args.elements.now) ++ (key_seen c.as_ref.result, c.in_ok-share.field-0) ∷ []) (pairs (take (c.loop-one.one-index + 1) c.args.elements.now)) c.args.list.now.items c.push_turn.new.list.items (elements_step c.args.elements.now c.loop-one.one-index c.one-item.result (key_seen c.as_ref.result) c.in_ok-share.field-0 c.loop-one-test.true c.one-item.is c.as_ref.ensures c.in_ok-share.ensures) (turns_more c.args.site.around.program.now (frames_view c.args.site.around.instances.now.slots) c.args.site.around.at c.args.site.body c.args.site.offset (pairs (take c.loop-one.one-index c.args.elements.now)) ((key_seen c.as_ref.result, c.in_ok-share.field-0) ∷ []) c.args.list.now.items c.loop-one.list.items c.push_turn.new.list.items (c.loop-one.invariant.added some there) (c.in_ok-push_turn.ensures.added some there));
  none = λ e. c.in_ok-push_turn.ensures.none e ∙ c.loop-one.invariant.none e;
}
