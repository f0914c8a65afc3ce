use Rattle.std.proofs.Common.{Some}
use Rattle.board_instances.proofs.Slots.{view_fresh, view_updates}
use Rattle.board_instances.proofs.placing.place.Goals as goal

pub returns-clause-fresh : goal.returns-clause-fresh
returns-clause-fresh c = view_fresh c.args.instances.now c.in_ok-key.key c.in_ok-key.ensures.was_vacant

pub returns-clause-sets : goal.returns-clause-sets
returns-clause-sets c = view_updates c.args.instances.now c.insert.new.self c.in_ok-key.key (Some c.args.instance) c.in_ok-key.ensures.updates
