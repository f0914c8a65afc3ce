use Rattle.std.proofs.Common.{refl, ap, ◌∙◌}
use Rattle.board.proofs.Kept.{stays_on, world_kept}
use Rattle.board.proofs.state.BoardState.make_room.Goals as goal

pub returns-clause-same : goal.returns-clause-same
returns-clause-same c =
    let same = c.reserve_to_wait.ensures in
    stays_on c.args.program.now c.args.self.now c.make_room_for_items.new.self _ c.make_room_for_items.ensures.same
    (world_kept c.args.program.now c.make_room_for_items.new.self _ c.make_room.ensures.only (c.make_room.ensures.rows ∙ ap (λ i. i.rows.items) same)
    (ap (λ i. i.rules) same) (ap (λ i. i.queue) same) (ap (λ i. i.apart) same) (ap (λ i. i.running) same) (ap (λ i. i.newly) same) (ap (λ i. i.woken) same) refl refl)
