use Rattle.board_instances.specs.Names.{spot_slot}
use Rattle.board_instances.specs.View.{frames_view}
use Rattle.board_program.specs.Tables.{led_times}
use Rattle.board_data.proofs.Given.{gives_both}
use Rattle.board_data.proofs.holds.give_up.Goals as goal

pub returns-clause-store : goal.returns-clause-store
returns-clause-store c =
    let f = spot_slot (frames_view c.args.instances.now.slots) c.args.at in
    gives_both (λ d. led_times f d c.args.reads.now) (λ d. led_times f d c.args.writes.now) c.args.store.now c.close_all.new.store c.release_all.new.store c.close_all.ensures.store c.release_all.ensures.given
