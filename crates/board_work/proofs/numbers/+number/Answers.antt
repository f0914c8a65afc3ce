use Rattle.std.proofs.Common.{◌∙◌, arith, w64, to_z}
use Rattle.std.proofs.lemmas.Int.{to_z-of_z}
use Rattle.values.specs.Operators.{added, scaled}
use Rattle.board_work.specs.View.{answers_view}
use Rattle.board_work.proofs.Chains.{chain_done}
use Rattle.board_work.proofs.numbers.+number.Goals as goal

pub product_from-returns : goal.product_from-returns
product_from-returns t c =
    let w = rw (to_z-of_z w64 c.args.start c.ranges.start) at c.loop-place.invariant in
    w ∙ chain_done scaled (to_z w64 c.loop-place.total-bits) (answers_view c.args.answers.now) c.args.factors.now c.args.rest.now c.loop-place.place (omega arith)

pub sum_from-returns : goal.sum_from-returns
sum_from-returns t c =
    let w = rw (to_z-of_z w64 c.args.start c.ranges.start) at c.loop-place.invariant in
    w ∙ chain_done added (to_z w64 c.loop-place.total-bits) (answers_view c.args.answers.now) c.args.signs.now c.args.rest.now c.loop-place.place (omega arith)
