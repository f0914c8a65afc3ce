use Rattle.std.proofs.Common.{◌∙◌, sym, arith}
use Rattle.task_code.specs.View.{name_view}
use Rattle.board_program.proofs.Counted.{past_counted}
use Rattle.board_program.proofs.bodies.count_name.Goals as goal

pub returns-else-place-len : goal.returns-else-place-len
returns-else-place-len c = past_counted c.args.places.now (name_view c.args.name) c.args.counts.now.items c.in-Some.place (sym c.of_name.ensures ∙ c.in-Some.is) (omega (arith, c.if-place-len.false, c.len.ensures))
