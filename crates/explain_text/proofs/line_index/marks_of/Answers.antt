use Rattle.explain_text.proofs.Marked.{marked_next}
use Rattle.explain_text.proofs.line_index.marks_of.Goals as goal

pub loop-block-preserved : goal.loop-block-preserved
loop-block-preserved c =
    marked_next c.args.text.now c.loop-block.marks.items _ c.line_from-line.result c.loop-block.block c.in_ok-push-2.ensures.items c.loop-block.invariant.1 c.loop-block.invariant.2 c.line_from-line.ensures
