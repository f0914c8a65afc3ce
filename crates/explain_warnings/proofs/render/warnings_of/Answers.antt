use Rattle.explain_warnings.proofs.Texts.{silent_unread, silent_untyped}
use Rattle.explain_warnings.proofs.render.warnings_of.Goals as goal

pub returns-in-Err : goal.returns-in-Err
returns-in-Err c =
    silent_unread c.args.text.now c.in-Err.fault c.span.result c.none_at.result c.in-Err.ensures.refused c.span.ensures c.none_at.ensures

pub returns : goal.returns
returns c =
    silent_untyped c.args.text.now _ c.in-Err-check.fault c.span-in-Err-check.result c.none_at-in-Err-check.result c.in-Ok.ensures.read
    c.in-Err-check.ensures.untyped c.span-in-Err-check.ensures c.none_at-in-Err-check.ensures
