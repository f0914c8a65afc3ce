use Rattle.std.proofs.Common.{refl, arith}
use Rattle.board.proofs.Kept.{more_kept, open_kept}
use Rattle.board.proofs.state.BoardState.make_room_for_items.Goals as goal

pub returns-in_err-reserve_items-clause-same : goal.returns-in_err-reserve_items-clause-same
returns-in_err-reserve_items-clause-same c =
    open_kept c.args.program.now c.args.self.now _ refl c.reserve.ensures.items refl refl (λ h. h) c.reserve_items.ensures.stays (c.reserve_items.ensures.kept c.args.program.now)

pub returns-in_err-reserve-2-clause-same : goal.returns-in_err-reserve-2-clause-same
returns-in_err-reserve-2-clause-same c =
    more_kept c.args.program.now c.args.self.now _ refl c.reserve.ensures.items refl refl c.reserve_items.new.items c.reserve_items.ensures.stays (c.reserve_items.ensures.kept c.args.program.now) refl refl refl refl refl refl c.reserve-2.ensures.items (omega arith)

pub returns-clause-same : goal.returns-clause-same
returns-clause-same c =
    more_kept c.args.program.now c.args.self.now _ refl c.reserve.ensures.items refl refl c.reserve_items.new.items c.reserve_items.ensures.stays (c.reserve_items.ensures.kept c.args.program.now) refl refl refl refl refl c.reserve-3.ensures.items c.reserve-2.ensures.items c.reserve-3.ensures.capacity
