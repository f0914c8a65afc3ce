use Rattle.std.proofs.Common.{rules, ◌≡◌, Some, length, arith}
use Rattle.std.proofs.lemmas.Grind.{common_steps}
use Rattle.board_runs.proofs.Picked.{named_can_begin, none_listed}
use Rattle.board_runs.proofs.step.chosen.Goals as goal

pub returns-then-is_empty-clause-none : goal.returns-then-is_empty-clause-none
returns-then-is_empty-clause-none c =
    let none : length c.in_ok-ready.ready.items ≡ 0 = grind (arith, common_steps) in
    none_listed c.args.board.now c.in_ok-ready.ready.items c.in_ok-ready.ensures none

pub unreachable-requires : goal.unreachable-requires
unreachable-requires c =
    let can = named_can_begin c.args.board.now (Some c.args.choice) c.pick-item.result (search rules) in
    c.in-None.ensures.none can.item can.there can.number_is
