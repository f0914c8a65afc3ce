use Rattle.std.proofs.Common.{◌≡◌, Some, rules, arith}
use Rattle.std.proofs.lemmas.Grind.{common_steps}
use Rattle.std.proofs.lemmas.Option.{gets}
use Rattle.std.specs.List.{slice_get}
use Rattle.task_code.specs.Code.{blank_body}
use Rattle.task_code.specs.View.{body_view}
use Rattle.ref_counting.proofs.Numbers.{found_at}
use Rattle.ref_counting.proofs.code_tables.CodeTables.body.Goals as goal

pub returns-in-Some : goal.returns-in-Some
returns-in-Some c =
    let at : slice_get c.self.inside.bodies.items c.args.number ≡ Some c.in-Some.found.now = grind (arith, common_steps, gets) in
    let there = found_at body_view blank_body c.self.inside.bodies.items c.args.number c.in-Some.found.now at in
    search (rules, there)
