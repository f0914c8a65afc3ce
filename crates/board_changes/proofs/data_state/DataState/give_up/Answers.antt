use Rattle.std.proofs.Common.{◌∙◌, map}
use Rattle.std.proofs.lemmas.Result.{on_ok_weaker}
use Rattle.task_code.specs.Code.{entry}
use Rattle.board_program.specs.Tables.{body_of, spots_in}
use Rattle.board_data.specs.View.{want_view}
use Rattle.board_instances.specs.Names.{spot_slot}
use Rattle.board_instances.specs.View.{frames_view}
use Rattle.board_changes.proofs.GivenUp.{given_up}
use Rattle.board_changes.proofs.data_state.DataState.give_up.Goals as goal

pub returns-clause-gives : goal.returns-clause-gives
returns-clause-gives c =
    let C = c.args.program.now in
    let i = c.args.number in
    on_ok_weaker c.notify_closed.result
    (given_up (spot_slot (frames_view c.args.self.now.instances.slots) c.args.at) (spots_in C (body_of C i) (entry C i).reads) (spots_in C (body_of C i) (entry C i).writes) c.reads_of.result.now c.writes_of-writes.result.now c.args.self.now.store c.give_up.new.store (map want_view c.args.known.now.items) (map want_view c.notify_closed.new.known.items) c.reserve.new.self.items c.give_up.new.closed.items c.as_slice.result.now
    c.reads_of.ensures c.writes_of-writes.ensures c.give_up.ensures.store (c.reserve.ensures.items ∙ c.clear.ensures.items) (c.give_up.ensures.closed c.in_ok-reserve.ensures.ok) c.as_slice.ensures.value)
    c.notify_closed.ensures.told
