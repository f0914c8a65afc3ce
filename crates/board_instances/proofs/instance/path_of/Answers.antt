use Rattle.board_history.specs.Fields.{path_of}
use Rattle.board_instances.specs.View.{frames_view}
use Rattle.board_instances.proofs.Paths.{steps_turned}
use Rattle.board_instances.proofs.instance.path_of.Goals as goal

pub returns : goal.returns
returns c = steps_turned c.in_ok-steps.steps.items c.reverse.new.self.items (path_of (frames_view c.args.instances.now.slots) c.args.at) c.reverse.ensures.items c.in_ok-steps.ensures
