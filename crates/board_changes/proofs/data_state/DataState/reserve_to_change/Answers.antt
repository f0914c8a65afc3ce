use Rattle.std.proofs.Common.{refl}
use Rattle.values.specs.Keys.{key_seen}
use Rattle.board_changes.proofs.Roomy.{one_place, room_only}
use Rattle.board_changes.proofs.data_state.DataState.reserve_to_change.Goals as goal

pub returns-in-Element-clause-only : goal.returns-in-Element-clause-only
returns-in-Element-clause-only c = room_only c.reserve.result c.in-Element.d (key_seen c.as_ref.result) 1 c.args.self.now c.reserve.new.store c.reserve.ensures.ok c.reserve.ensures.err

pub returns-in-Elements-clause-only : goal.returns-in-Elements-clause-only
returns-in-Elements-clause-only c = record { frames = refl; cells = c.reserve_elements.ensures.cells; rising = c.reserve_elements.ensures.rising }
