use Rattle.types.proofs.lists.Turns.{turns_left}
use Rattle.std.proofs.lemmas.Result.{err_from_is_err_and}
use Rattle.explain_warnings.proofs.sets.marks.mark.Goals as goal

pub loop-smaller : goal.loop-smaller
loop-smaller c = turns_left _ _ c.loop-test.true

pub returns-in_err-push-2 : goal.returns-in_err-push-2
returns-in_err-push-2 c =
    let p = err_from_is_err_and c.from_residual-in_err-push-2.result c.from_residual-in_err-push-2.ensures.1 in
    rw (p.1) tt
