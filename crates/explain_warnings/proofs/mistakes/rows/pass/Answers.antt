use Rattle.std.proofs.Common.{arith, ap, ◌∙◌, get_or}
use Rattle.std.proofs.lemmas.Grind.{common_steps}
use Rattle.explain_warnings.proofs.Bits.{joined_all}
use Rattle.explain_warnings.proofs.mistakes.rows.pass.Goals as goal

pub returns-clause-joins : goal.returns-clause-joins
returns-clause-joins c =
    joined_all c.args.place c.row_at-other.result c.args.rows.now.items c.loop-i.rows.items c.loop-i.i
    (c.row_at-other.ensures ∙ ap (λ rows. get_or rows c.args.place 0) c.as_slice.ensures.value) (grind (arith, common_steps)) c.loop-i.invariant.joined
