use Rattle.std.proofs.Common.{◌∙◌, sym, ap, true, false}
use Rattle.std.specs.Prelude.{is_some}
use Rattle.task_code.specs.View.{name_view}
use Rattle.board_program.proofs.Counted.{declared_if}
use Rattle.board_program.proofs.Holds.{gains_own, gains_one}
use Rattle.board_program.proofs.bodies.hold_name.Goals as goal

pub returns-then-is_some : goal.returns-then-is_some
returns-then-is_some c = gains_own c.args.code.now c.args.body c.args.reads c.args.writes (name_view c.args.name) c.args.outer.now.holds.items (declared_if c.args.places.now c.args.code.now c.args.body (name_view c.args.name) true c.requires.places (ap is_some (sym c.of_name.ensures) ∙ sym c.is_some.ensures ∙ c.if-is_some.true))

pub returns-in_ok-add : goal.returns-in_ok-add
returns-in_ok-add c =
    let other = declared_if c.args.places.now c.args.code.now c.args.body (name_view c.args.name) false c.requires.places (ap is_some (sym c.of_name.ensures) ∙ sym c.is_some.ensures ∙ c.if-is_some.false) in
    gains_one c.args.code.now c.args.body c.args.reads c.args.writes (name_view c.args.name) c.in-Some.spot c.args.outer.now.holds.items c.add.new.self.holds.items other (sym c.spot_in.ensures ∙ c.in-Some.is) c.in_ok-add.ensures
