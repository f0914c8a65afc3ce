use Rattle.std.proofs.Common.{◌≡◌, Some, None, arith}
use Rattle.std.proofs.lemmas.Grind.{common_steps}
use Rattle.std.proofs.lemmas.Option.{gets}
use Rattle.std.specs.List.{slice_get}
use Rattle.board_work.proofs.Answered.{answer_at_found, answer_at_past}
use Rattle.board_work.proofs.answer.answer_to.Goals as goal

pub returns-in-Some : goal.returns-in-Some
returns-in-Some c =
    let at : slice_get c.args.answers.now c.args.place ≡ Some c.in-Some.answer.now = grind (arith, common_steps, gets) in
    answer_at_found c.args.answers.now c.args.place c.in-Some.answer.now at

pub returns-in-None : goal.returns-in-None
returns-in-None c =
    let past : slice_get c.args.answers.now c.args.place ≡ None = grind (arith, common_steps, gets) in
    answer_at_past c.args.answers.now c.args.place past
