use Rattle.board_instances.specs.View.{frames_view}
use Rattle.board_instances.proofs.Slots.{lies_there, more_lies, more_off, none_off}
use Rattle.board_instances.proofs.instance.leave.Goals as goal

pub loop-next-init : goal.loop-next-init
loop-next-init c = λ nested there. (λ gs off. off, lies_there (frames_view c.args.instances.now.slots) c.args.at nested there)

pub loop-next-preserved : goal.loop-next-preserved
loop-next-preserved c = λ nested there. (
  more_off (frames_view c.args.instances.now.slots) (frames_view c.loop-next.instances.slots) (frames_view c.drop_instance-next.new.instances.slots) c.args.at c.in-Some.key c.loop-next.next c.drop_instance-next.result c.in-Some.is (c.loop-next.invariant nested there).1 (c.loop-next.invariant nested there).0 c.drop_instance-next.ensures.leaves,
  more_lies (frames_view c.args.instances.now.slots) (frames_view c.loop-next.instances.slots) (frames_view c.drop_instance-next.new.instances.slots) c.args.at c.in-Some.key c.loop-next.next c.drop_instance-next.result c.in-Some.is (c.loop-next.invariant nested there).1 c.drop_instance-next.ensures.goes,
)

pub returns : goal.returns
returns c = λ nested there. none_off (frames_view c.args.instances.now.slots) (frames_view c.loop-next.instances.slots) c.args.at c.loop-next.next c.in_default.is (c.loop-next.invariant nested there).0
