use Rattle.std.proofs.Common.{◌≡◌, ◌-◌, length}
use Rattle.task_code.specs.View.{owned_view}
use Rattle.board_program.specs.Spots.{further, homes_of, spot_from}
use Rattle.board_program.proofs.lexical_address.NameResolver.spot_in.Given as goal

abbrev pub invariant-loop-levels : goal.invariant-loop-levels
invariant-loop-levels l = spot_from l.code (homes_of l.code) (length l.code.bodies) l.body l.name.up (owned_view l.name.owned) ≡ further l.levels (spot_from l.code (homes_of l.code) (length l.code.bodies - l.levels) l.at l.up (owned_view l.name.owned))
